use Rattle.std.proofs.Common.{◌<◌, ◌⊎◌, inl, inr, arith, sym, ◌∙◌, length, None}
use Rattle.std.proofs.lemmas.List.{get_or_default}
use Rattle.guest_mem.proofs.MarkSpan.{marks_stay, within-map, within-set}
use Rattle.guest_mem.proofs.marks.Marks.end_others.Goals as goal
use Rattle.guest_mem.proofs.marks.Marks.end_others.Goals.{then-last-self-via-then-last-self, then-last-self-via-else-last-self+then-self-first}

-- no mark is on a granule that is written
pub returns-then-last-self : goal.returns-then-last-self
returns-then-last-self c =
    let apart : (c.args.last < c.self.inside.low) ⊎ (c.self.inside.high < c.args.first) = elim c.then-last-self.branch [
      | then-last-self-via-then-last-self w ↦ inl (omega arith)
      | then-last-self-via-else-last-self+then-self-first w ↦ inr (omega arith)
    ] in
    rw (← c.self.view_is) (sym (marks_stay c.self.inside.of_slot.items c.args.slot c.args.first c.args.last c.self.inside.low c.self.inside.high c.self.invariant.within apart))

pub invariant_of-self : goal.invariant_of-self
invariant_of-self c =
    let items = c.self.inside.of_slot.items in
    let slot = c.args.slot in
    let there : slot < length items = omega (arith, c.self.inside.of_slot.ok.0, c.self.invariant.slots, c.requires) in
    record {
      within = within-set c.end_between.new.marks.items c.args.slot _ _ _ (rw c.end_between.ensures.items (within-map _ _ _ _ _ c.self.invariant.within)) (λ g is. c.self.invariant.within slot g (get_or_default items slot None c.index-own.result.now there ∙ sym c.index-own.ensures ∙ is));
      slots = c.end_between.ensures.len ∙ c.self.invariant.slots;
    }
