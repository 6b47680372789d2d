use Rattle.std.proofs.Common.{◌≡◌, ◌+◌, arith, refl, None, true, sym, ap, ◌∙◌, get_or, if◌then◌else◌}
use Rattle.std.specs.FinMap as finite
use Rattle.sorted_entries.specs.Entries.{IsAt}
use Rattle.sorted_entries.proofs.Entries.{remove_absent, rising-remove}
use Rattle.page_store.specs.Frames.{itself, one_if}
use Rattle.page_store.specs.Row.{entries}
use Rattle.page_store.specs.Kept.{number_of, frame_of, pages_of}
use Rattle.page_store.proofs.Owned.{times-remove, times-push}
use Rattle.page_store.proofs.Found.{page_missing, is_kept, pages_of-remove}
use Rattle.page_store.proofs.page_store.PageStore.give_up.Goals as goal

-- the page is not kept
pub returns-in_default : goal.returns-in_default
returns-in_default c =
    let pages = pages_of c.self.inside.frames.items (entries c.self.inside.kept) in
    let spare = c.self.inside.spare in
    let missing : finite.get pages c.args.page ≡ None = page_missing c.self.inside.frames.items _ _ _ c.in_default.ensures.absent in
    let spare_is : spare ≡ (if finite.contains_key pages c.args.page then spare + 1 else spare) = rw missing refl in
    rw (← c.self.view_is) (λ i. record { pages = sym (remove_absent pages c.args.page missing) i; spare = spare_is i })

pub invariant_of-self : goal.invariant_of-self
invariant_of-self c =
    let items = entries c.self.inside.kept in
    let free = c.self.inside.free.items in
    let kept = c.remove-kept.result in
    let gone = c.remove-kept.ensures in
    let put = c.push_reserved.ensures in
    let place : IsAt number_of items c.args.page c.in-Ok.place = c.in-Ok.ensures.found in
    let same : frame_of kept ≡ frame_of (get_or items c.in-Ok.place kept) = ap frame_of (gone.value kept) in
    record {
      rising = rw gone.items (rising-remove number_of items c.args.page c.in-Ok.place c.self.invariant.rising place);
      owners = λ f. rw (gone.items, put.items, times-push itself f free kept.frame) (omega (arith, c.self.invariant.owners f, times-remove frame_of f items c.in-Ok.place kept place.in_range, ap (λ g. one_if g f) same));
      whole = c.self.invariant.whole;
      counted = omega (arith, gone.count, put.len, c.self.invariant.counted);
      used = omega (arith, gone.count, c.self.invariant.used);
      small = omega (arith, gone.count, c.self.invariant.small);
      room_below = omega (arith, gone.count, gone.room.below, c.self.invariant.room_below);
      room_above = omega (arith, gone.count, gone.room.above, c.self.invariant.room_above);
      room_frames = omega (arith, gone.count, c.self.invariant.room_frames);
      room_free = omega (arith, gone.count, put.capacity, c.self.invariant.room_free);
    }

pub returns : goal.returns
returns c =
    let items = entries c.self.inside.kept in
    let frames = c.self.inside.frames.items in
    let spare = c.self.inside.spare in
    let place : IsAt number_of items c.args.page c.in-Ok.place = c.in-Ok.ensures.found in
    let kept : finite.contains_key (pages_of frames items) c.args.page ≡ true = is_kept frames items c.args.page c.in-Ok.place c.self.invariant.rising place in
    let pages_are = ap (pages_of frames) c.remove-kept.ensures.items ∙ pages_of-remove frames items c.args.page c.in-Ok.place c.self.invariant.rising place in
    let spare_is : spare + 1 ≡ (if finite.contains_key (pages_of frames items) c.args.page then spare + 1 else spare) = rw kept refl in
    rw (← c.self.view_is) (λ i. record { pages = pages_are i; spare = spare_is i })
