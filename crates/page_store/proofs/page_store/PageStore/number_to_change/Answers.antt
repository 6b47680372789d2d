use Rattle.std.proofs.Common.{◌≡◌, ◌<◌, ◌-◌, ◌/◌, ◌%◌, arith, refl, Some, None, Ok, ap, ◌∙◌, length, get_or, drop, []}
use Rattle.std.specs.FinMap as finite
use Rattle.std.proofs.lemmas.List.{get_or_default}
use Rattle.sorted_entries.specs.Entries.{IsAt}
use Rattle.byteorder.specs.Numbers.{little_from-take}
use Rattle.places.specs.Places.{number_at}
use Rattle.page_store.specs.Pages.{writes}
use Rattle.page_store.specs.Row.{entries}
use Rattle.page_store.specs.Kept.{number_of, page_in, pages_of}
use Rattle.page_store.proofs.Owned.{owned}
use Rattle.page_store.proofs.Found.{page_there, page_missing, page_if_allowed, page_if_refused, not_true, not_false}
use Rattle.page_store.proofs.page_store.PageStore.number_to_change.Goals as goal

-- the page is not kept
pub returns-in_default : goal.returns-in_default
returns-in_default c =
    let missing : finite.get c.args.self.now.pages (c.args.at / 4096) ≡ None = rw (← c.self.view_is) (page_missing c.self.inside.frames.items _ _ _ c.in_default.ensures.absent) in
    rw missing refl

-- the page lacks the right
pub returns-then-not-kept : goal.returns-then-not-kept
returns-then-not-kept c =
    let frames = c.self.inside.frames.items in
    let there : finite.get c.args.self.now.pages (c.args.at / 4096) ≡ Some (page_in frames c.at-kept.result) = rw (← c.self.view_is) (page_there frames _ _ _ _ c.self.invariant.rising c.in-Ok.ensures.found (c.at-kept.ensures c.at-kept.result)) in
    rw (page_if_refused writes _ _ there (not_true _ c.if-not-kept.true)) refl

-- the page has one of the frames
pub index-frame-requires : goal.index-frame-requires
index-frame-requires c =
    let items = entries c.self.inside.kept in
    let place : IsAt number_of items (c.args.at / 4096) c.in-Ok.place = c.in-Ok.ensures.found in
    let own = owned items c.self.inside.free.items _ c.in-Ok.place c.at-kept.result c.self.invariant.owners place.in_range (c.at-kept.ensures c.at-kept.result) in
    own.0

pub returns : goal.returns
returns c =
    let kept = c.at-kept.result in
    let frames = c.self.inside.frames.items in
    let n = c.args.at / 4096 in
    let from = c.args.at % 4096 in
    let items = entries c.self.inside.kept in
    let place : IsAt number_of items (c.args.at / 4096) c.in-Ok.place = c.in-Ok.ensures.found in
    let own = owned items c.self.inside.free.items _ c.in-Ok.place c.at-kept.result c.self.invariant.owners place.in_range (c.at-kept.ensures c.at-kept.result) in
    let there : finite.get (pages_of frames items) n ≡ Some (page_in frames kept) = page_there frames _ _ _ _ c.self.invariant.rising place (c.at-kept.ensures c.at-kept.result) in
    let in_range : kept.frame < length frames = omega (arith, own.0, c.self.inside.frames.ok.0) in
    let frame_is : c.index-frame.result.now ≡ get_or frames kept.frame [] = c.index-frame.ensures ∙ get_or_default _ _ _ _ in_range in
    rw (← c.self.view_is) (rw (page_if_allowed writes _ _ there (not_false _ c.if-not-kept.false)) (ap (λ n. Ok n) (c.read_uint.ensures ∙ little_from-take 0 c.args.len (4096 - from) (drop from c.index-frame.result.now) (omega arith) ∙ ap (λ b. number_at b from c.args.len) frame_is)))
