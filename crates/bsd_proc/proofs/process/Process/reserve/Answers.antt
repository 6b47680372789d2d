use Rattle.std.proofs.Common.{◌≡◌, ◌≤◌, ◌∙◌, length, take, sym, arith, Some}
use Rattle.std.specs.Prelude.{is_none, position}
use Rattle.std.proofs.Math.ListN.{length-set}
use Rattle.std.proofs.lemmas.Grind.{common_steps}
use Rattle.bsd_proc.specs.declared.lives.Life.TheVariants.{Reserved}
use Rattle.bsd_proc.proofs.Queues.{queued-reserved}
use Rattle.bsd_proc.proofs.process.Process.reserve.Goals as goal

pub invariant_of-self : goal.invariant_of-self
invariant_of-self c =
    let items = c.self.inside.slots.items in
    let long : c.limit-limit.result ≤ length items = omega (arith, c.limit-limit.ensures.most, c.self.invariant.slots) in
    let found : position is_none (take c.limit-limit.result items) ≡ Some c.in-Some.at = grind (arith, common_steps) in
    record {
      slots = simp length-set c.self.invariant.slots;
      actions = c.self.invariant.actions;
      counted = rw c.occupy.ensures (c.self.invariant.counted ∙ sym (queued-reserved c.limit-limit.result items c.self.inside.pending c.in-Some.at c.self.inside.next_tid Reserved long found));
      few = c.self.invariant.few;
    }
