use Rattle.std.proofs.Common.{◌+◌, ◌-◌, ◌≤◌}
use Rattle.lx_memory.specs.Ranges.{anew, IsOnEach}
use Rattle.lx_memory.specs.Space.{free_count}
use Rattle.lx_memory.proofs.change.map_each.Given as goal

abbrev pub invariant-loop-i : goal.invariant-loop-i
invariant-loop-i l = record {
  each : IsOnEach (anew l.fn.rights) l.initial.pages.pages l.fn.first l.i l.pages.pages;
  room : free_count l.initial.pages.pages (l.fn.first + l.i) (l.fn.count - l.i) ≤ l.pages.spare;
}
