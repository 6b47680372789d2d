use Rattle.std.proofs.Common.{length, not, ap, arith}
use Rattle.lx_machine.specs.Queue.{is_thread}
use Rattle.lx_machine.proofs.Waiters.{fewer}
use Rattle.lx_machine.proofs.queue.Queue.remove.Goals as goal

pub invariant_of-self : goal.invariant_of-self
invariant_of-self c = record {
  held = omega (arith, ap length c.retain_others.ensures.items, fewer (λ w. not (is_thread c.args.tid w)) c.self.inside.waiters.items, c.self.invariant.held);
  room = omega (arith, c.retain_others.ensures.capacity, c.self.invariant.room);
  moving_room = c.self.invariant.moving_room;
}
