-- The highest free range below a page, from one mapped page to the next.
use Rattle.std.proofs.Common.{◌≡◌, ℕ, ◌+◌, ◌-◌, ◌<◌, ◌≤◌, Option, Some, None, IsSome, nat_le, cond, sym, ◌∙◌, arith, inl, inr, subst}
use Rattle.std.specs.FinMap as finite
use Rattle.std.proofs.lemmas.Bool.{cases_lt}
use Rattle.std.proofs.lemmas.Bool.Decides.{nat_tests}
use Rattle.page_store.specs.Pages.{Pages}
use Rattle.lx_memory.specs.Gaps.{IsGap, IsHighestGap, IsHighestGapBelow}

-- the highest place of so many pages between two, or the one before
abbrev pub chosen : ℕ → ℕ → ℕ → Option ℕ → Option ℕ
chosen count from to found = cond (nat_le count (to - from)) (Some (to - count)) found

fits : (count from to : ℕ) (found : Option ℕ) → count ≤ to - from → chosen count from to found ≡ Some (to - count)
fits count from to found le = grind (arith, nat_tests)

too_long : (count from to : ℕ) (found : Option ℕ) → to - from < count → chosen count from to found ≡ found
too_long count from to found lt = grind (arith, nat_tests)

module _ (pages : Pages) (count low high : ℕ) where
  -- a free range has no mapped page
  apart : (other page : ℕ) → IsGap pages count low high other → IsSome (finite.get pages page) → other ≤ page → page < other + count → ⊥
  apart other page gap there from below = let none = gap.free page from below in grind (arith, none, there)

  kept : (at page : ℕ) (found : Option ℕ) → at ≤ page → page - at < count → IsSome (finite.get pages page) → IsHighestGapBelow pages count low high at found → IsHighestGapBelow pages count low high (page + 1) found
  kept at page None le long there best = λ first below gap. elim (cases_lt first at) as (λ _. ⊥) [
    | inl lt ↦ best first lt gap
    | inr from ↦ apart first page gap there (omega arith) (omega arith)
  ]
  kept at page (Some b) le long there best = (
    best.0,
    λ other above below gap. elim (cases_lt other at) as (λ _. ⊥) [
      | inl lt ↦ best.1 other above lt gap
      | inr from ↦ apart other page gap there (omega arith) (omega arith)
    ],
  )

  between : (at to : ℕ) → low ≤ at → to ≤ high → count ≤ to - at → at ≤ to → ((p : ℕ) → at ≤ p → p < to → finite.get pages p ≡ None) → IsGap pages count low high (to - count)
  between at to above below long le none = record { from = omega arith; below = omega arith; free = λ p from lt. none p (omega arith) (omega arith) }

  -- past one more mapped page
  pub past_page : (at page : ℕ) (found new : Option ℕ) → low ≤ at → at ≤ page → page < high → ((p : ℕ) → at ≤ p → p < page → finite.get pages p ≡ None) → IsSome (finite.get pages page) → new ≡ chosen count at page found → IsHighestGapBelow pages count low high at found → IsHighestGapBelow pages count low high (page + 1) new
  past_page at page found new above le below none there is best = elim (cases_lt (page - at) count) [
    | inl lt ↦ subst (IsHighestGapBelow pages count low high (page + 1)) (sym (is ∙ too_long count at page found lt)) (kept at page found le lt there best)
    | inr long ↦ subst (IsHighestGapBelow pages count low high (page + 1)) (sym (is ∙ fits count at page found long))
        (between at page above (omega arith) long le none, λ other higher lt gap. apart other page gap there (omega arith) (omega arith))
  ]

  -- past pages that are all mapped
  pub past_mapped : (at next : ℕ) (found : Option ℕ) → 0 < count → ((p : ℕ) → at ≤ p → p < next → IsSome (finite.get pages p)) → IsHighestGapBelow pages count low high at found → IsHighestGapBelow pages count low high next found
  past_mapped at next None some mapped best = λ first below gap. elim (cases_lt first at) as (λ _. ⊥) [
    | inl lt ↦ best first lt gap
    | inr from ↦ apart first first gap (mapped first from below) (omega arith) (omega arith)
  ]
  past_mapped at next (Some b) some mapped best = (
    best.0,
    λ other above below gap. elim (cases_lt other at) as (λ _. ⊥) [
      | inl lt ↦ best.1 other above lt gap
      | inr from ↦ apart other other gap (mapped other from below) (omega arith) (omega arith)
    ],
  )

  rest : (at : ℕ) (found : Option ℕ) → at ≤ high → high - at < count → IsHighestGapBelow pages count low high at found → IsHighestGap pages count low high found
  rest at None le long best = λ first gap. elim (cases_lt first at) as (λ _. ⊥) [
    | inl lt ↦ best first lt gap
    | inr from ↦ omega (arith, gap.below)
  ]
  rest at (Some b) le long best = (
    best.0,
    λ other above gap. elim (cases_lt other at) as (λ _. ⊥) [
      | inl lt ↦ best.1 other above lt gap
      | inr from ↦ omega (arith, gap.below)
    ],
  )

  -- where no page behind it is mapped
  pub to_high : (at : ℕ) (found new : Option ℕ) → low ≤ at → at ≤ high → ((p : ℕ) → at ≤ p → p < high → finite.get pages p ≡ None) → new ≡ chosen count at high found → IsHighestGapBelow pages count low high at found → IsHighestGap pages count low high new
  to_high at found new above le none is best = elim (cases_lt (high - at) count) [
    | inl lt ↦ subst (IsHighestGap pages count low high) (sym (is ∙ too_long count at high found lt)) (rest at found le lt best)
    | inr long ↦ subst (IsHighestGap pages count low high) (sym (is ∙ fits count at high found long))
        (between at high above (omega arith) long le none, λ other higher gap. omega (arith, gap.below))
  ]
