use Rattle.std.proofs.Common.{◌≡◌, drop, find}
use Rattle.lx_machine.specs.PiQueue.{is_pi_at}
use Rattle.lx_machine.proofs.pi_queue.first_of.Given as goal

-- it is not among those before
abbrev pub invariant-loop-waiter : goal.invariant-loop-waiter
invariant-loop-waiter l = find (is_pi_at l.at) (drop l.waiter-index l.waiters) ≡ find (is_pi_at l.at) l.waiters
