use Rattle.guest_mem.proofs.MarkSpan.{none_within}
use Rattle.guest_mem.proofs.marks.Marks.make.Goals as goal

pub invariant_of-result : goal.invariant_of-result
invariant_of-result c = record {
  within = rw c.in_ok-of_slot.ensures.items (none_within 128 0xffff_ffff_ffff_ffff 0);
  slots = c.in_ok-of_slot.ensures.len;
}
