use Rattle.lx_machine.specs.Queue.{matches}
use Rattle.lx_machine.proofs.Waiters.{Picked}
use Rattle.lx_machine.proofs.queue.release_first.Given as goal

abbrev pub invariant-loop-place : goal.invariant-loop-place
invariant-loop-place l = Picked l.most (matches l.at l.bits) l.fn.waiters l.place l.kept l.left l.waiters
