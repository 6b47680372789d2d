use Rattle.std.proofs.Common.{◌∙◌}
use Rattle.lx_machine.proofs.ThreadTable.{unmarked_length}
use Rattle.lx_machine.proofs.thread_table.Threads.unmark.Goals as goal

pub invariant_of-self : goal.invariant_of-self
invariant_of-self c =
    let i = c.self.invariant in
    let m = c.unmark_from.ensures.marks in
    (rw m (unmarked_length 0 c.args.slot c.args.first c.args.last c.self.inside.places.items ∙ i.0), i.1, c.unmark_from.ensures.free)
