use Rattle.bsd_proc.proofs.Counts.{IsOnce-without}
use Rattle.bsd_proc.proofs.pending.Pending.take.Goals as goal

pub invariant_of-self : goal.invariant_of-self
invariant_of-self c = record {
  once = rw c.take_first.ensures.left (IsOnce-without c.args.sig c.self.inside.signals.items c.self.invariant.once);
  room = rw c.take_first.ensures.capacity c.self.invariant.room;
}
