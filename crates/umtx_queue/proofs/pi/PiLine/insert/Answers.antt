use Rattle.std.proofs.Common.{◌≡◌, ◌++◌, ◌∷◌, [], false, sym, ap, ◌∙◌, subst, arith, length-append}
use Rattle.std.specs.List.{AllByRecursion}
use Rattle.umtx_queue.specs.PiLines.{PiLine, pi_is_queued, pi_joined}
use Rattle.umtx_queue.specs.Kept.{IsSlot}
use Rattle.umtx_queue.proofs.Tallies.{Each-filter, Each-append}
use Rattle.umtx_queue.proofs.PiFacts.{HasSlot, pi_fit, pi_joins, pi_joined_value}
use Rattle.umtx_queue.proofs.pi.PiLine.insert.Goals as goal

pub push_reserved-requires : goal.push_reserved-requires
push_reserved-requires c =
    let apart = subst (λ (l : PiLine). pi_is_queued c.args.waiter.slot l.waiters ≡ false) (sym c.self.view_is) c.requires.apart in
    let once = pi_joins c.self.inside.waiters.items c.self.inside.woken.items c.args.waiter c.self.invariant.once apart in
    let fit = pi_fit (c.self.inside.waiters.items ++ c.args.waiter ∷ []) _ (Each-append HasSlot _ (c.args.waiter ∷ []) c.self.invariant.waiters (c.requires.slot, tt)) (Each-filter IsSlot _ _ c.self.invariant.woken) once in
    omega (arith, fit, length-append c.self.inside.waiters.items (c.args.waiter ∷ []), c.self.inside.waiters.ok.0, c.self.invariant.room)

pub invariant_of-self : goal.invariant_of-self
invariant_of-self c =
    let apart = subst (λ (l : PiLine). pi_is_queued c.args.waiter.slot l.waiters ≡ false) (sym c.self.view_is) c.requires.apart in
    record {
      waiters = subst (AllByRecursion HasSlot) (sym c.push_reserved.ensures.items) (Each-append HasSlot _ (c.args.waiter ∷ []) c.self.invariant.waiters (c.requires.slot, tt));
      woken = subst (AllByRecursion IsSlot) (sym c.drop_woken.ensures.items) (Each-filter IsSlot _ _ c.self.invariant.woken);
      once = λ i. rw (c.push_reserved.ensures.items, c.drop_woken.ensures.items) (pi_joins c.self.inside.waiters.items c.self.inside.woken.items c.args.waiter c.self.invariant.once apart i);
      room = omega (arith, c.push_reserved.ensures.capacity, c.self.invariant.room);
      woken_room = omega (arith, c.drop_woken.ensures.capacity, c.self.invariant.woken_room);
    }

pub returns : goal.returns
returns c =
    pi_joined_value c.self.inside.waiters.items _ c.self.inside.woken.items _ c.args.waiter c.push_reserved.ensures.items c.drop_woken.ensures.items
    ∙ ap (λ (l : PiLine). pi_joined l c.args.waiter) c.self.view_is
