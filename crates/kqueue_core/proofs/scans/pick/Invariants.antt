use Rattle.std.proofs.Common.{◌≡◌, ◌+◌, length, take}
use Rattle.std.specs.Prelude.{filter}
use Rattle.kqueue_core.specs.Reports.{is_reported}
use Rattle.kqueue_core.proofs.scans.pick.Given as goal

-- how many are still to be passed over
abbrev pub invariant-loop-watch : goal.invariant-loop-watch
invariant-loop-watch g l = l.left + length (filter (is_reported (g.R.Readiness.told l.ready)) (take l.watch-index l.watches)) ≡ l.at
