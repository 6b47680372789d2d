use Rattle.std.proofs.Common.{◌≡◌, ◌∷◌, [], length, sym, ap, ◌∙◌, subst, arith, slice_index_or}
use Rattle.std.specs.List.{AllByRecursion, remove}
use Rattle.umtx_queue.specs.Lists.{first_of, without_first}
use Rattle.umtx_queue.specs.PiLines.{PiLine, pi_has_key, pi_handed}
use Rattle.umtx_queue.specs.Kept.{IsSlot}
use Rattle.umtx_queue.proofs.Tallies.{Each-first_of, Each-without_first, Each-append}
use Rattle.umtx_queue.proofs.PiFacts.{HasSlot, pi_fit, pi_hands, pi_handed_value}
use Rattle.umtx_queue.proofs.pi.PiLine.hand.Goals as goal

pub push_reserved-requires : goal.push_reserved-requires
push_reserved-requires c =
    let fit = pi_fit c.self.inside.waiters.items c.self.inside.woken.items c.self.invariant.waiters c.self.invariant.woken c.self.invariant.once in
    omega (arith, fit, c.place_of-at.ensures.below, ap length c.deref.ensures.value, c.self.inside.woken.ok.0, c.self.invariant.woken_room)

pub invariant_of-self : goal.invariant_of-self
invariant_of-self c =
    let p = pi_has_key c.args.key in
    let ws = c.self.inside.waiters.items in
    let first : first_of p 1 ws ≡ c.remove-first.result ∷ [] = ap (first_of p 1) (sym c.deref.ensures.value) ∙ c.place_of-at.ensures.first c.remove-first.result ∙ ap (λ x. x ∷ []) (ap (λ l. slice_index_or l c.place_of-at.result c.remove-first.result) c.deref.ensures.value ∙ sym c.remove-first.ensures.value) in
    let e : c.remove-first.new.self.items ≡ without_first p 1 ws = c.remove-first.ensures.items ∙ ap (λ l. remove l c.place_of-at.result) (sym c.deref.ensures.value) ∙ c.place_of-at.ensures.left ∙ ap (without_first p 1) c.deref.ensures.value in
    record {
      waiters = subst (AllByRecursion HasSlot) (sym e) (Each-without_first HasSlot p 1 ws c.self.invariant.waiters);
      woken = subst (AllByRecursion IsSlot) (sym c.push_reserved.ensures.items) (Each-append IsSlot _ (c.remove-first.result.slot ∷ []) c.self.invariant.woken ((subst (AllByRecursion HasSlot) first (Each-first_of HasSlot p 1 ws c.self.invariant.waiters)).0, tt));
      once = λ i. rw (e, c.push_reserved.ensures.items) (pi_hands p ws c.self.inside.woken.items c.remove-first.result c.self.invariant.once first i);
      room = omega (arith, c.remove-first.ensures.capacity, c.self.invariant.room);
      woken_room = omega (arith, c.push_reserved.ensures.capacity, c.self.invariant.woken_room);
    }

pub returns : goal.returns
returns c =
    let p = pi_has_key c.args.key in
    let ws = c.self.inside.waiters.items in
    let first : first_of p 1 ws ≡ c.remove-first.result ∷ [] = ap (first_of p 1) (sym c.deref.ensures.value) ∙ c.place_of-at.ensures.first c.remove-first.result ∙ ap (λ x. x ∷ []) (ap (λ l. slice_index_or l c.place_of-at.result c.remove-first.result) c.deref.ensures.value ∙ sym c.remove-first.ensures.value) in
    let e : c.remove-first.new.self.items ≡ without_first p 1 ws = c.remove-first.ensures.items ∙ ap (λ l. remove l c.place_of-at.result) (sym c.deref.ensures.value) ∙ c.place_of-at.ensures.left ∙ ap (without_first p 1) c.deref.ensures.value in
    pi_handed_value c.args.key ws _ c.self.inside.woken.items _ c.remove-first.result first e c.push_reserved.ensures.items
    ∙ ap (λ (l : PiLine). pi_handed l c.args.key) c.self.view_is
