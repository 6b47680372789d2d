use Rattle.std.proofs.Common.{◌≡◌, drop, find}
use Rattle.lx_machine.specs.RobustList.{is_living}
use Rattle.lx_clones.proofs.clones.robust_list_of.Given as goal

-- it is not among those before
abbrev pub invariant-loop-place : goal.invariant-loop-place
invariant-loop-place l = find (is_living l.tid) (drop l.place-index l.threads) ≡ find (is_living l.tid) l.threads
