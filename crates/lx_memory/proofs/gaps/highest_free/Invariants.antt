use Rattle.std.proofs.Common.{◌-◌, ◌≤◌}
use Rattle.lx_memory.specs.Gaps.{IsHighestGapBelow}
use Rattle.lx_memory.proofs.gaps.highest_free.Given as goal

abbrev pub invariant-loop-page : goal.invariant-loop-page
invariant-loop-page l = record {
  from : l.fn.low ≤ l.at;
  to : l.at ≤ l.fn.high;
  best : IsHighestGapBelow l.pages.pages l.fn.count l.fn.low l.fn.high l.at l.found;
}

abbrev pub decreases-loop-page : goal.decreases-loop-page
decreases-loop-page l = l.fn.high - l.at
