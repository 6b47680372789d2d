use Rattle.std.proofs.Common.{◌≡◌, ◌<◌, ◌+◌, ◌/◌, ◌%◌, arith, refl, Some, None, ap, ◌∙◌, length, get_or, slice_range, []}
use Rattle.std.specs.FinMap as finite
use Rattle.std.proofs.lemmas.List.{get_or_default}
use Rattle.sorted_entries.specs.Entries.{IsAt}
use Rattle.page_store.specs.Row.{entries}
use Rattle.page_store.specs.Kept.{number_of, page_in, pages_of}
use Rattle.page_store.proofs.Owned.{owned}
use Rattle.page_store.proofs.Found.{page_there, page_missing}
use Rattle.page_store.proofs.page_store.PageStore.peek.Goals as goal

-- the page is not kept
pub returns-in_default : goal.returns-in_default
returns-in_default c =
    let missing : finite.get c.args.self.now.pages (c.args.at / 4096) ≡ None = rw (← c.self.view_is) (page_missing c.self.inside.frames.items _ _ _ c.in_default.ensures.absent) in
    rw missing (refl, refl)

-- the page has one of the frames
pub index-frame-requires : goal.index-frame-requires
index-frame-requires c =
    let items = entries c.self.inside.kept in
    let place : IsAt number_of items (c.args.at / 4096) c.in-Ok.place = c.in-Ok.ensures.found in
    let own = owned items c.self.inside.free.items _ c.in-Ok.place c.at-kept.result c.self.invariant.owners place.in_range (c.at-kept.ensures c.at-kept.result) in
    own.0

pub returns : goal.returns
returns c =
    let kept = c.at-kept.result in
    let frames = c.self.inside.frames.items in
    let n = c.args.at / 4096 in
    let from = c.args.at % 4096 in
    let items = entries c.self.inside.kept in
    let place : IsAt number_of items (c.args.at / 4096) c.in-Ok.place = c.in-Ok.ensures.found in
    let own = owned items c.self.inside.free.items _ c.in-Ok.place c.at-kept.result c.self.invariant.owners place.in_range (c.at-kept.ensures c.at-kept.result) in
    let there : finite.get (pages_of frames items) n ≡ Some (page_in frames kept) = page_there frames _ _ _ _ c.self.invariant.rising place (c.at-kept.ensures c.at-kept.result) in
    let in_range : kept.frame < length frames = omega (arith, own.0, c.self.inside.frames.ok.0) in
    let frame_is : c.index-frame.result.now ≡ get_or frames kept.frame [] = c.index-frame.ensures ∙ get_or_default _ _ _ _ in_range in
    rw (← c.self.view_is) (rw there (refl, c.copy_from_slice.ensures.after ∙ ap (λ b. slice_range b from (from + length c.args.into.now)) frame_is))
