use Rattle.std.proofs.Common.{◌≡◌, ◌+◌, ◌-◌, ◌≤◌}
use Rattle.lx_memory.specs.Space.{free_count}
use Rattle.lx_memory.proofs.change.count_mapped.Given as goal

abbrev pub invariant-loop-page : goal.invariant-loop-page
invariant-loop-page l = record {
  from : l.fn.first ≤ l.at;
  range : l.at + l.left ≡ l.fn.first + l.fn.count;
  counted : l.mapped + free_count l.pages.pages l.fn.first (l.at - l.fn.first) ≡ l.at - l.fn.first;
}

abbrev pub decreases-loop-page : goal.decreases-loop-page
decreases-loop-page l = l.left
