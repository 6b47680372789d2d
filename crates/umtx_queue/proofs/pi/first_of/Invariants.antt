use Rattle.std.proofs.Common.{◌≡◌, length}
use Rattle.umtx_queue.specs.PiLines.{pi_first_of}
use Rattle.umtx_queue.proofs.pi.first_of.Given as goal

-- it is not among those before
abbrev pub invariant-loop-left : goal.invariant-loop-left
invariant-loop-left l = pi_first_of l.key l.left ≡ pi_first_of l.key l.waiters

abbrev pub decreases-loop-left : goal.decreases-loop-left
decreases-loop-left l = length l.left
