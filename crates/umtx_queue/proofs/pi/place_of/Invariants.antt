use Rattle.std.proofs.Common.{◌-◌, ◌<◌, length}
use Rattle.umtx_queue.specs.PiLines.{pi_has_key}
use Rattle.umtx_queue.proofs.Picking.{NoneBefore}
use Rattle.umtx_queue.proofs.pi.place_of.Given as goal

-- it is not among those before
abbrev pub invariant-loop-at : goal.invariant-loop-at
invariant-loop-at l = record { below : l.at < length l.waiters; none : NoneBefore (pi_has_key l.key) l.waiters l.at }

abbrev pub decreases-loop-at : goal.decreases-loop-at
decreases-loop-at l = length l.waiters - l.at
