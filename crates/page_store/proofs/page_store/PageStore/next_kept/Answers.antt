use Rattle.std.proofs.Common.{◌<◌, ◌≤◌, arith, sym, ap, length}
use Rattle.sorted_entries.specs.Entries.{IsAt, IsGapFor}
use Rattle.page_store.specs.Row.{entries}
use Rattle.page_store.specs.Kept.{number_of}
use Rattle.page_store.proofs.Found.{is_kept, none_between}
use Rattle.page_store.proofs.page_store.PageStore.next_kept.Goals as goal

-- the first page itself is kept
pub returns-then-pages-gt0 : goal.returns-then-pages-gt0
returns-then-pages-gt0 c =
    let place : IsAt number_of (entries c.self.inside.kept) c.args.first c.in-Ok.field-0 = c.in-Ok.ensures.found in
    rw (← c.self.view_is) (omega arith, omega arith, is_kept c.self.inside.frames.items _ _ _ c.self.invariant.rising place, λ p le lt. absurd (omega arith))

-- there is none
pub returns-then-place-len : goal.returns-then-place-len
returns-then-place-len c =
    let items = entries c.self.inside.kept in
    let gap : IsGapFor number_of items c.args.first c.in-Err.place = c.in-Err.ensures.absent in
    let past : length items ≤ c.in-Err.place = omega (arith, c.len.ensures) in
    rw (← c.self.view_is) (λ p le lt. none_between c.self.inside.frames.items items c.args.first p c.in-Err.place c.self.invariant.rising gap le (λ d within. absurd (omega arith)))

-- the element in the gap is the least above
pub returns-then-kept-first : goal.returns-then-kept-first
returns-then-kept-first c =
    let items = entries c.self.inside.kept in
    let frames = c.self.inside.frames.items in
    let kept = c.at-kept.result in
    let gap : IsGapFor number_of items c.args.first c.in-Err.place = c.in-Err.ensures.absent in
    let in_range : c.in-Err.place < length items = omega (arith, c.len.ensures) in
    let place : IsAt number_of items kept.page c.in-Err.place = record { in_range = in_range; has_key = λ d. sym (ap number_of (c.at-kept.ensures d)) } in
    let above : c.args.first < kept.page = omega (arith, gap.greater_after c.in-Err.place kept (omega arith) in_range, place.has_key kept) in
    rw (← c.self.view_is) (omega arith, omega arith, is_kept frames _ _ _ c.self.invariant.rising place, λ p le lt. none_between frames items c.args.first p c.in-Err.place c.self.invariant.rising gap le (λ d within. omega (arith, place.has_key d)))

-- it lies past the range
pub returns-else-kept-first : goal.returns-else-kept-first
returns-else-kept-first c =
    let items = entries c.self.inside.kept in
    let gap : IsGapFor number_of items c.args.first c.in-Err.place = c.in-Err.ensures.absent in
    rw (← c.self.view_is) (λ p le lt. none_between c.self.inside.frames.items items c.args.first p c.in-Err.place c.self.invariant.rising gap le (λ d within. omega (arith, ap number_of (c.at-kept.ensures d), gap.greater_after c.in-Err.place d (omega arith) within)))
