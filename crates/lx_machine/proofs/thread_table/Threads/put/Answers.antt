use Rattle.std.proofs.Common.{arith, ◌∙◌, Some}
use Rattle.std.proofs.lemmas.List.{length-set}
use Rattle.lx_machine.proofs.ThreadTable.{free_after_set, free_further}
use Rattle.lx_machine.specs.ThreadTable.{IsFreeFrom}
use Rattle.lx_machine.proofs.thread_table.Threads.put.Goals as goal

pub invariant_of-self : goal.invariant_of-self
invariant_of-self c =
    let i = c.self.invariant in
    let m = c.max-self-inside.ensures in
    let a = c.index.ensures.value in
    let b = c.index-2.ensures.value in
    let below = c.index-2.ensures.below in
    let further : IsFreeFrom c.max-self-inside.result c.self.inside.places.items = free_further c.self.inside.used c.max-self-inside.result c.self.inside.places.items (omega arith) i.2 in
    (length-set c.self.inside.places.items c.index-2.result (Some c.args.thread) ∙ i.0, omega arith, free_after_set c.max-self-inside.result c.index-2.result (Some c.args.thread) c.self.inside.places.items (omega arith) further)
