use Rattle.std.proofs.Common.{◌≡◌, vec_capacity}
use Rattle.kqueue_core.proofs.Sorting.{IsSortedOut}
use Rattle.kqueue_core.proofs.scans.sort_out.Given as goal

-- the interests so far are sorted out
abbrev pub invariant-loop-at : goal.invariant-loop-at
invariant-loop-at g l = record {
  sorted : IsSortedOut (g.R.Readiness.told l.ready) l.most l.fn.watches l.fn.into l.at l.kept l.watches l.reported.items l.into;
  capacity : vec_capacity l.reported ≡ vec_capacity l.fn.reported;
}
