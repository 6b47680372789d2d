-- The highest gap is what highest_gap finds.
use Rattle.std.proofs.Common.{◌≡◌, ℕ, zero, suc, ◌+◌, ◌-◌, ◌<◌, ◌≤◌, Bool, true, ◌&&◌, nat_le, Option, Some, None, if◌then◌else◌, refl, sym, ◌∙◌, ap, arith}
use Rattle.std.proofs.lemmas.Bool.Decides.{nat_tests}
use Rattle.page_store.specs.Pages.{Pages}
use Rattle.lx_memory.specs.Gaps.{IsGap, IsHighestGap}
use Rattle.lx_memory.specs.Queries.{all_free, highest_gap_below, highest_gap}
use Rattle.lx_memory.proofs.PageTests.{all_free_decides}

-- the page where a gap starts, or what was found below it
abbrev tried : ℕ → ℕ → Bool → Option ℕ → Option ℕ
tried low first free found = if nat_le low first && free then Some first else found

not_tried : (low first : ℕ) (free : Bool) (found : Option ℕ) → (low ≤ first → free ≡ true → ⊥) → tried low first free found ≡ found
not_tried low first free found h = grind (arith, nat_tests)

is_tried : (low first : ℕ) (free : Bool) (found : Option ℕ) → low ≤ first → free ≡ true → tried low first free found ≡ Some first
is_tried low first free found h k = grind (arith, nat_tests)

-- no range that starts below a page is a gap
none_below : (pages : Pages) (count low bound : ℕ) → ((first : ℕ) → first < bound → low ≤ first → all_free pages first count ≡ true → ⊥) → highest_gap_below pages count low bound ≡ None
none_below pages count low zero h = refl
none_below pages count low (suc bound) h =
    not_tried low bound (all_free pages bound count) (highest_gap_below pages count low bound) (h bound (omega arith)) ∙
    none_below pages count low bound (λ first less. h first (omega arith))

some_step : (low first bound : ℕ) (at_first at_bound : Bool) (found : Option ℕ) → first < suc bound → low ≤ first → at_first ≡ true → (first ≡ bound → at_bound ≡ at_first) → (first < bound → low ≤ bound → at_bound ≡ true → ⊥) → (first < bound → found ≡ Some first) → tried low bound at_bound found ≡ Some first
some_step low first bound at_first at_bound found less from free same highest next = grind (arith, nat_tests)

-- the highest range that starts below a page and is a gap
some_below : (pages : Pages) (count low bound first : ℕ) → first < bound → low ≤ first → all_free pages first count ≡ true → ((other : ℕ) → first < other → other < bound → low ≤ other → all_free pages other count ≡ true → ⊥) → highest_gap_below pages count low bound ≡ Some first
some_below pages count low zero first less from free highest = absurd (omega arith)
some_below pages count low (suc bound) first less from free highest =
    some_step low first bound (all_free pages first count) (all_free pages bound count) (highest_gap_below pages count low bound) less from free
    (λ e. ap (λ p. all_free pages p count) (sym e))
    (λ above. highest bound above (omega arith))
    (λ above. some_below pages count low bound first above from free (λ other more below. highest other more (omega arith)))

gap_is : (pages : Pages) (count low high first : ℕ) → low ≤ first → first + count ≤ high → all_free pages first count ≡ true → IsGap pages count low high first
gap_is pages count low high first from below free = record { from = from; below = below; free = (all_free_decides pages first count).0 free }

none_fits : (count high : ℕ) (found : Option ℕ) → (count ≤ high → found ≡ None) → (if nat_le count high then found else None) ≡ None
none_fits count high found h = grind (arith, nat_tests)

one_fits : (count high : ℕ) (found wanted : Option ℕ) → count ≤ high → found ≡ wanted → (if nat_le count high then found else None) ≡ wanted
one_fits count high found wanted h e = grind (arith, nat_tests)

pub same_highest_gap : (r : Option ℕ) (pages : Pages) (count low high : ℕ) → IsHighestGap pages count low high r → r ≡ highest_gap pages count low high
same_highest_gap None pages count low high h =
    sym (none_fits count high (highest_gap_below pages count low (suc (high - count)))
    (λ fits. none_below pages count low (suc (high - count)) (λ first less from free. h first (gap_is pages count low high first from (omega arith) free))))
same_highest_gap (Some first) pages count low high (gap, highest) =
    let below : first + count ≤ high = gap.below in
    let from : low ≤ first = gap.from in
    sym (one_fits count high (highest_gap_below pages count low (suc (high - count))) (Some first) (omega arith)
    (some_below pages count low (suc (high - count)) first (omega arith) from ((all_free_decides pages first count).1 gap.free)
    (λ other more less low_enough free. highest other more (gap_is pages count low high other low_enough (omega arith) free))))
