use Rattle.std.proofs.Common.{◌≡◌, refl, Some, None, sym, ap, ◌∙◌, get_or, arith, false}
use Rattle.std.specs.FinMap as finite
use Rattle.std.proofs.lemmas.List.{get_or_default}
use Rattle.sorted_entries.specs.Entries.{IsAt}
use Rattle.sorted_entries.proofs.Entries.{rising-set}
use Rattle.page_store.specs.declared.kept_row.Kept.{Kept}
use Rattle.page_store.specs.Pages.{with_rights, changed}
use Rattle.page_store.specs.Row.{entries, allowing}
use Rattle.page_store.specs.Kept.{number_of, frame_of, page_in, pages_of}
use Rattle.page_store.proofs.Owned.{times-set}
use Rattle.page_store.proofs.Changed.{changed_kept, changed_none}
use Rattle.page_store.proofs.Found.{page_there, page_missing, is_kept, pages_of-set}
use Rattle.page_store.proofs.page_store.PageStore.set_rights.Goals as goal

pub returns-in_default-clause-kept : goal.returns-in_default-clause-kept
returns-in_default-clause-kept c =
    let missing : finite.get c.args.self.now.pages c.args.page ≡ None = rw (← c.self.view_is) (page_missing c.self.inside.frames.items _ _ _ c.in_default.ensures.absent) in
    rw missing refl

pub returns-in_default-clause-after : goal.returns-in_default-clause-after
returns-in_default-clause-after c =
    let pages = pages_of c.self.inside.frames.items (entries c.self.inside.kept) in
    let missing : finite.get pages c.args.page ≡ None = page_missing c.self.inside.frames.items _ _ _ c.in_default.ensures.absent in
    rw (← c.self.view_is) (λ i. record { pages = sym (changed_none pages c.args.page (with_rights c.args.rights) missing) i; spare = c.self.inside.spare })

-- some page
blank_kept : Kept
blank_kept = record { page = 0; rights = record { read = false; write = false; execute = false }; frame = 0 }

pub invariant_of-self : goal.invariant_of-self
invariant_of-self c =
    let items = entries c.self.inside.kept in
    let place : IsAt number_of items c.args.page c.in-Ok.place = c.in-Ok.ensures.found in
    let old : Kept → Kept = λ d. get_or items c.in-Ok.place d in
    let set_is = c.set_rights.ensures in
    let n = c.args.page in
    record {
      rising = rw (set_is.items blank_kept) (rising-set number_of items n c.in-Ok.place (allowing c.args.rights (old blank_kept)) c.self.invariant.rising place (place.has_key blank_kept));
      owners = λ f. rw (set_is.items blank_kept, times-set frame_of f items c.in-Ok.place (allowing c.args.rights (old blank_kept)) (ap frame_of (get_or_default items c.in-Ok.place _ _ place.in_range))) (c.self.invariant.owners f);
      whole = c.self.invariant.whole;
      counted = omega (arith, set_is.count, c.self.invariant.counted);
      used = omega (arith, set_is.count, c.self.invariant.used);
      small = omega (arith, set_is.count, c.self.invariant.small);
      room_below = omega (arith, set_is.count, set_is.room.below, c.self.invariant.room_below);
      room_above = omega (arith, set_is.count, set_is.room.above, c.self.invariant.room_above);
      room_frames = omega (arith, set_is.count, c.self.invariant.room_frames);
      room_free = omega (arith, set_is.count, c.self.invariant.room_free);
    }

pub returns-clause-kept : goal.returns-clause-kept
returns-clause-kept c =
    rw (← c.self.view_is) (sym (is_kept c.self.inside.frames.items _ _ _ c.self.invariant.rising c.in-Ok.ensures.found))

pub returns-clause-after : goal.returns-clause-after
returns-clause-after c =
    let frames = c.self.inside.frames.items in
    let items = entries c.self.inside.kept in
    let n = c.args.page in
    let place : IsAt number_of items n c.in-Ok.place = c.in-Ok.ensures.found in
    let kept = get_or items c.in-Ok.place blank_kept in
    let new : Kept = allowing c.args.rights kept in
    let there : finite.get (pages_of frames items) n ≡ Some (page_in frames kept) = page_there frames _ _ _ _ c.self.invariant.rising place (get_or_default items c.in-Ok.place blank_kept kept place.in_range) in
    let pages_are : pages_of frames (entries c.set_rights.new.self) ≡ changed (pages_of frames items) n (with_rights c.args.rights) =
    ap (pages_of frames) (c.set_rights.ensures.items blank_kept)
    ∙ pages_of-set frames items n c.in-Ok.place new c.self.invariant.rising place (place.has_key blank_kept)
    ∙ sym (changed_kept (pages_of frames items) n (page_in frames kept) (with_rights c.args.rights) there) in
    rw (← c.self.view_is) (λ i. record { pages = pages_are i; spare = c.self.inside.spare })
