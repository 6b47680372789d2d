use Rattle.std.proofs.Common.{◌≡◌, ◌+◌, ◌-◌, ◌≤◌}
use Rattle.lx_memory.specs.Ranges.{IsOnEach}
use Rattle.lx_memory.specs.Space.{becomes}
use Rattle.lx_memory.proofs.change.change_each.Given as goal

abbrev pub invariant-loop-page : goal.invariant-loop-page
invariant-loop-page l = record {
  from : l.fn.first ≤ l.at;
  range : l.at + l.left ≡ l.fn.first + l.fn.count;
  each : IsOnEach (becomes l.fn.change) l.initial.pages.pages l.fn.first (l.at - l.fn.first) l.pages.pages;
}

abbrev pub decreases-loop-page : goal.decreases-loop-page
decreases-loop-page l = l.left
