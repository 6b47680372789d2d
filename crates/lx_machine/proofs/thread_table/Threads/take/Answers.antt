use Rattle.std.proofs.Common.{arith, refl, ◌∙◌}
use Rattle.std.proofs.lemmas.List.{length-set}
use Rattle.lx_machine.proofs.ThreadTable.{free_after_none, at_index}
use Rattle.lx_machine.proofs.thread_table.Threads.take.Goals as goal

pub invariant_of-self : goal.invariant_of-self
invariant_of-self c =
    let i = c.self.invariant in
    let n = c.take.ensures.after in
    (length-set c.self.inside.places.items c.index.result c.take.new.self ∙ i.0, i.1, rw n (free_after_none c.self.inside.used c.index.result c.self.inside.places.items i.2))

pub returns-clause-thread : goal.returns-clause-thread
returns-clause-thread c =
    let i = c.self.invariant in
    let v = c.take.ensures.value in
    let w = c.index_mut.ensures.value in
    let below = c.index.ensures.below in
    let same = c.index.ensures.value in
    let is = c.self.view_is in
    let at = at_index c.index.result c.index_mut.result.now c.self.inside.places.items (let l = i.0 in omega arith) in
    v ∙ w ∙ at ∙ rw (same, is) refl
