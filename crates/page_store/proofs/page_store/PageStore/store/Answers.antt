use Rattle.std.proofs.Common.{◌≡◌, ◌<◌, ◌/◌, ◌%◌, arith, refl, Some, None, sym, ap, ◌∙◌, length, get_or, set, []}
use Rattle.std.specs.FinMap as finite
use Rattle.std.proofs.lemmas.List.{get_or_default, get_or-set_same, get_or-set_other}
use Rattle.sorted_entries.specs.Entries.{IsAt}
use Rattle.page_store.specs.Pages.{writes, spliced, written, changed}
use Rattle.page_store.specs.Frames.{AgreeBut}
use Rattle.page_store.specs.Row.{entries}
use Rattle.page_store.specs.Kept.{number_of, page_in, pages_of}
use Rattle.page_store.proofs.Owned.{owned}
use Rattle.page_store.proofs.Whole.{whole-set}
use Rattle.page_store.proofs.Changed.{changed_kept}
use Rattle.page_store.proofs.Found.{page_there, page_missing, page_if_allowed, page_if_refused, pages_of-frame, not_true, not_false}
use Rattle.page_store.proofs.page_store.PageStore.store.Goals as goal

-- the page is not kept
pub returns-in_default : goal.returns-in_default
returns-in_default c =
    let missing : finite.get c.args.self.now.pages (c.args.at / 4096) ≡ None = rw (← c.self.view_is) (page_missing c.self.inside.frames.items _ _ _ c.in_default.ensures.absent) in
    rw missing (refl, refl)

-- the page lacks the right
pub returns-then-not-kept : goal.returns-then-not-kept
returns-then-not-kept c =
    let frames = c.self.inside.frames.items in
    let there : finite.get c.args.self.now.pages (c.args.at / 4096) ≡ Some (page_in frames c.at-kept.result) = rw (← c.self.view_is) (page_there frames _ _ _ _ c.self.invariant.rising c.in-Ok.ensures.found (c.at-kept.ensures c.at-kept.result)) in
    rw (page_if_refused writes _ _ there (not_true _ c.if-not-kept.true)) (refl, refl)

-- the page has one of the frames
pub index_mut-requires : goal.index_mut-requires
index_mut-requires c =
    let items = entries c.self.inside.kept in
    let place : IsAt number_of items (c.args.at / 4096) c.in-Ok.place = c.in-Ok.ensures.found in
    let own = owned items c.self.inside.free.items _ c.in-Ok.place c.at-kept.result c.self.invariant.owners place.in_range (c.at-kept.ensures c.at-kept.result) in
    own.0

pub returns : goal.returns
returns c =
    let kept = c.at-kept.result in
    let frames = c.self.inside.frames.items in
    let n = c.args.at / 4096 in
    let from = c.args.at % 4096 in
    let items = entries c.self.inside.kept in
    let place : IsAt number_of items (c.args.at / 4096) c.in-Ok.place = c.in-Ok.ensures.found in
    let own = owned items c.self.inside.free.items _ c.in-Ok.place c.at-kept.result c.self.invariant.owners place.in_range (c.at-kept.ensures c.at-kept.result) in
    let there : finite.get (pages_of frames items) n ≡ Some (page_in frames kept) = page_there frames _ _ _ _ c.self.invariant.rising place (c.at-kept.ensures c.at-kept.result) in
    let in_range : kept.frame < length frames = omega (arith, own.0, c.self.inside.frames.ok.0) in
    let bytes = c.args.bytes.now in
    let frame_is : c.index_mut.result.now ≡ get_or frames kept.frame [] = c.index_mut.ensures.value ∙ get_or_default _ _ _ _ in_range in
    let new_bytes : get_or (set frames kept.frame c.splice.new.frame) kept.frame [] ≡ spliced (get_or frames kept.frame []) from bytes =
    get_or-set_same frames kept.frame c.splice.new.frame [] in_range ∙ (c.splice.ensures.after ∙ ap (λ b. spliced b from bytes) frame_is) in
    let agree : AgreeBut kept.frame frames (set frames kept.frame c.splice.new.frame) = λ other ne. get_or-set_other frames kept.frame other c.splice.new.frame [] ne in
    let pages_are : pages_of (set frames kept.frame c.splice.new.frame) items ≡ changed (pages_of frames items) n (written from bytes) =
    pages_of-frame frames _ items n c.in-Ok.place kept _ c.self.invariant.rising place (c.at-kept.ensures c.at-kept.result) own.1 agree new_bytes ∙ sym (changed_kept (pages_of frames items) n (page_in frames kept) (written from bytes) there) in
    rw (← c.self.view_is) (rw (page_if_allowed writes _ _ there (not_false _ c.if-not-kept.false)) (refl, λ i. record { pages = pages_are i; spare = c.self.inside.spare }))

-- the frame that is written still has the bytes of a page
pub invariant_of-self : goal.invariant_of-self
invariant_of-self c =
    let was = c.self.invariant in
    record {
      rising = was.rising;
      owners = was.owners;
      whole = whole-set c.self.inside.frames.items (c.at-kept.result).frame c.splice.new.frame was.whole c.splice.ensures.whole_after;
      counted = was.counted;
      used = was.used;
      small = was.small;
      room_below = was.room_below;
      room_above = was.room_above;
      room_frames = was.room_frames;
      room_free = was.room_free;
    }
