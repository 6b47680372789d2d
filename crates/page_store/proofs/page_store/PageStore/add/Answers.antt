use Rattle.std.proofs.Common.{◌≡◌, ◌-◌, arith, refl, None, true, ap, ◌∙◌, get_or, []}
use Rattle.std.specs.FinMap as finite
use Rattle.std.proofs.lemmas.Bool.Decides.{nat_tests}
use Rattle.sorted_entries.specs.Entries.{IsAt, IsGapFor}
use Rattle.sorted_entries.proofs.Entries.{rising-insert}
use Rattle.page_store.specs.declared.kept_row.Kept.{Kept}
use Rattle.page_store.specs.Frames.{times}
use Rattle.page_store.specs.Row.{entries}
use Rattle.page_store.specs.Kept.{number_of, frame_of, pages_of}
use Rattle.page_store.proofs.Owned.{times-insert, one_below-most, one_if-same}
use Rattle.page_store.proofs.Found.{page_missing, is_kept, pages_of-insert, pages_of-unused}
use Rattle.page_store.proofs.page_store.PageStore.add.Goals as goal

-- the page is kept
pub returns-in_default-clause-room : goal.returns-in_default-clause-room
returns-in_default-clause-room c =
    let place : IsAt number_of (entries c.self.inside.kept) c.args.page c.in_default.field-0 = c.in_default.ensures.found in
    let kept : finite.contains_key c.args.self.now.pages c.args.page ≡ true = rw (← c.self.view_is) (is_kept c.self.inside.frames.items _ _ _ c.self.invariant.rising place) in
    rw kept refl

-- there is no room
pub returns-then-self-eq0-clause-room : goal.returns-then-self-eq0-clause-room
returns-then-self-eq0-clause-room c =
    let missing : finite.get c.args.self.now.pages c.args.page ≡ None = rw (← c.self.view_is) (page_missing c.self.inside.frames.items _ _ _ c.in-Err.ensures.absent) in
    rw missing (rw (← c.self.view_is) (rw c.if-self-eq0.true refl))

pub invariant_of-self : goal.invariant_of-self
invariant_of-self c =
    let items = entries c.self.inside.kept in
    let gap : IsGapFor number_of items c.args.page c.in-Err.place = c.in-Err.ensures.absent in
    let new : Kept = record { page = c.args.page; rights = c.args.rights; frame = c.take_frame-frame.result } in
    let taken = c.take_frame-frame.ensures in
    record {
      rising = rw c.insert.ensures.items (rising-insert number_of items c.args.page c.in-Err.place new c.self.invariant.rising gap refl);
      owners = λ f. rw (c.insert.ensures.items, times-insert frame_of f items c.in-Err.place new) (omega (arith, c.self.invariant.owners f, taken.taken.owner f));
      whole = taken.whole c.self.invariant.whole;
      counted = omega (arith, c.insert.ensures.count, taken.count, c.self.invariant.counted);
      used = omega (arith, c.insert.ensures.count, taken.count, taken.first_use, c.self.invariant.used, c.self.invariant.counted);
      small = omega (arith, c.insert.ensures.count, c.self.invariant.small);
      room_below = omega (arith, c.insert.ensures.count, c.insert.ensures.room.below, c.self.invariant.room_below);
      room_above = omega (arith, c.insert.ensures.count, c.insert.ensures.room.above, c.self.invariant.room_above);
      room_frames = omega (arith, c.insert.ensures.count, taken.frames_room, c.self.invariant.room_frames);
      room_free = omega (arith, c.insert.ensures.count, taken.free_room, c.self.invariant.room_free);
    }

pub returns-clause-room : goal.returns-clause-room
returns-clause-room c =
    let missing : finite.get c.args.self.now.pages c.args.page ≡ None = rw (← c.self.view_is) (page_missing c.self.inside.frames.items _ _ _ c.in-Err.ensures.absent) in
    rw missing (rw (← c.self.view_is) (grind (arith, nat_tests)))

pub returns-clause-after : goal.returns-clause-after
returns-clause-after c =
    let items = entries c.self.inside.kept in
    let old = c.self.inside.frames.items in
    let frames = c.take_frame-frame.new.frames.items in
    let frame = c.take_frame-frame.result in
    let taken = c.take_frame-frame.ensures.taken in
    let gap : IsGapFor number_of items c.args.page c.in-Err.place = c.in-Err.ensures.absent in
    let new : Kept = record { page = c.args.page; rights = c.args.rights; frame = frame } in
    let none : times frame_of frame items ≡ 0 = omega (arith, c.self.invariant.owners frame, taken.owner frame, one_if-same frame frame refl, one_below-most frame c.take_frame-frame.new.frames.len) in
    let pages_are = ap (pages_of frames) c.insert.ensures.items
    ∙ pages_of-insert frames items c.args.page c.in-Err.place new gap refl
    ∙ ap (λ ps. finite.insert ps c.args.page record { rights = c.args.rights; bytes = get_or frames frame [] }) (pages_of-unused frame old frames taken.others items none)
    ∙ ap (λ b. finite.insert (pages_of old items) c.args.page record { rights = c.args.rights; bytes = b }) taken.zeros in
    rw (← c.self.view_is) (λ i. record { pages = pages_are i; spare = c.self.inside.spare - 1 })
