use Rattle.std.specs.Prelude.{not}
use Rattle.bsd_proc.specs.Signals.{is_of}
use Rattle.bsd_proc.proofs.Counts.{IsOnce-filter}
use Rattle.bsd_proc.proofs.pending.Pending.forget.Goals as goal

pub invariant_of-self : goal.invariant_of-self
invariant_of-self c = record {
  once = rw c.remove_each.ensures.left (IsOnce-filter (λ signal. not (is_of c.args.sig signal)) c.self.inside.signals.items c.self.invariant.once);
  room = rw c.remove_each.ensures.capacity c.self.invariant.room;
}
