use Rattle.std.proofs.Common.{arith, ap, length, sym}
use Rattle.page_store.proofs.Owned.{one_below-none}
use Rattle.page_store.proofs.page_store.PageStore.make.Goals as goal

pub invariant_of-result : goal.invariant_of-result
invariant_of-result c = record {
  rising = λ i j d lt le. absurd (omega (arith, ap length c.in_ok-kept.ensures.none));
  owners = λ f. rw (c.in_ok-kept.ensures.none, c.in_ok-free.ensures.items, c.in_ok-frames.ensures.len) (sym (one_below-none f 0 (omega arith)));
  whole = rw c.in_ok-frames.ensures.items tt;
  counted = omega (arith, c.in_ok-kept.ensures.count, c.in_ok-free.ensures.len, c.in_ok-frames.ensures.len);
  used = omega (arith, c.in_ok-frames.ensures.len);
  small = omega (arith, c.in_ok-kept.ensures.count);
  room_below = omega (arith, c.in_ok-kept.ensures.count, c.in_ok-kept.ensures.room.below);
  room_above = omega (arith, c.in_ok-kept.ensures.count, c.in_ok-kept.ensures.room.above);
  room_frames = omega (arith, c.in_ok-kept.ensures.count, c.in_ok-frames.ensures.exact);
  room_free = omega (arith, c.in_ok-kept.ensures.count, c.in_ok-free.ensures.exact);
}
