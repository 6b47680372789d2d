use Rattle.std.proofs.Common.{sym, ap, ◌∙◌, subst, arith}
use Rattle.std.specs.List.{AllByRecursion}
use Rattle.umtx_queue.specs.PiLines.{PiLine, pi_removed}
use Rattle.umtx_queue.specs.Kept.{IsSlot}
use Rattle.umtx_queue.proofs.Tallies.{Each-filter}
use Rattle.umtx_queue.proofs.PiFacts.{HasSlot, pi_removes, pi_removed_value}
use Rattle.umtx_queue.proofs.pi.PiLine.remove.Goals as goal

pub invariant_of-self : goal.invariant_of-self
invariant_of-self c = record {
  waiters = subst (AllByRecursion HasSlot) (sym c.drop_waiters_of.ensures.items) (Each-filter HasSlot _ _ c.self.invariant.waiters);
  woken = subst (AllByRecursion IsSlot) (sym c.drop_woken.ensures.items) (Each-filter IsSlot _ _ c.self.invariant.woken);
  once = λ i. rw (c.drop_waiters_of.ensures.items, c.drop_woken.ensures.items) (pi_removes c.args.slot c.self.inside.waiters.items c.self.inside.woken.items c.self.invariant.once i);
  room = omega (arith, c.drop_waiters_of.ensures.capacity, c.self.invariant.room);
  woken_room = omega (arith, c.drop_woken.ensures.capacity, c.self.invariant.woken_room);
}

pub returns : goal.returns
returns c =
    pi_removed_value c.args.slot c.self.inside.waiters.items _ c.self.inside.woken.items _ c.drop_waiters_of.ensures.items c.drop_woken.ensures.items
    ∙ ap (λ (l : PiLine). pi_removed l c.args.slot) c.self.view_is
