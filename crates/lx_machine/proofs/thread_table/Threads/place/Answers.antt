use Rattle.std.proofs.Common.{arith, refl, ◌∙◌}
use Rattle.std.proofs.lemmas.List.{length-set}
use Rattle.lx_machine.proofs.ThreadTable.{free_after_set, free_further, at_index}
use Rattle.lx_machine.specs.ThreadTable.{IsFreeFrom}
use Rattle.lx_machine.proofs.thread_table.Threads.place.Goals as goal

pub invariant_of-self-lent : goal.invariant_of-self-lent
invariant_of-self-lent c w =
    let i = c.self.invariant in
    let m = c.max-self-inside.ensures in
    let a = c.index.ensures.value in
    let b = c.index-2.ensures.value in
    let below = c.index-2.ensures.below in
    let further : IsFreeFrom c.max-self-inside.result c.self.inside.places.items = free_further c.self.inside.used c.max-self-inside.result c.self.inside.places.items (omega arith) i.2 in
    (length-set c.self.inside.places.items c.index-2.result (w) ∙ i.0, omega arith, free_after_set c.max-self-inside.result c.index-2.result (w) c.self.inside.places.items (omega arith) further)

pub returns : goal.returns
returns c =
    let i = c.self.invariant in
    let v = c.index_mut.ensures.value in
    let below = c.index-2.ensures.below in
    let same = c.index-2.ensures.value in
    let is = c.self.view_is in
    let at = at_index c.index-2.result c.index_mut.result.now c.self.inside.places.items (let l = i.0 in omega arith) in
    ((refl, λ w. rw (same, is) refl), record { writes_back = tt; value = v ∙ at ∙ rw (same, is) refl })
