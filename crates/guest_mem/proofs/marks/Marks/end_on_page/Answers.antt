use Rattle.std.proofs.Common.{◌∙◌}
use Rattle.guest_mem.proofs.MarkSpan.{within-off}
use Rattle.guest_mem.proofs.marks.Marks.end_on_page.Goals as goal

pub invariant_of-self : goal.invariant_of-self
invariant_of-self c = record { within = rw c.end_on.ensures.items (within-off _ _ _ _ c.self.invariant.within); slots = c.end_on.ensures.len ∙ c.self.invariant.slots }
