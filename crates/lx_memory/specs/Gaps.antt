-- What holds of the pages of a range, and free ranges.
-- Source: mmap(2); that the highest free range is taken is this project's own.
use Rattle.std.specs.Prelude.{◌≡◌, ℕ, ◌+◌, ◌<◌, ◌≤◌, true, Option, Some, None, IsSome}
use Rattle.std.specs.FinMap as map
use Rattle.page_ranges.specs.Ranges.{EachPage}
use Rattle.page_store.specs.Pages.{Pages}
use Rattle.lx_memory.specs.declared.right.Right.TheVariants.{Execute}
use Rattle.lx_memory.specs.Access.{allows, has}

abbrev pub IsMappedAt : Pages → ℕ → Type 0
IsMappedAt pages number = IsSome (map.get pages number)

abbrev pub IsFreeAt : Pages → ℕ → Type 0
IsFreeAt pages number = map.get pages number ≡ None

abbrev pub IsExecutableAt : Pages → ℕ → Type 0
IsExecutableAt pages number = has (allows Execute) (map.get pages number) ≡ true

-- a free range of so many pages that starts at or above one page and ends at or below another
pub record IsGap (pages : Pages) (count low high first : ℕ) : Type 0 where
  pub from : low ≤ first
  pub below : first + count ≤ high
  pub free : EachPage first count (IsFreeAt pages)

-- the greatest first page of such a range, and none exactly where there is none
abbrev pub IsHighestGap : Pages → ℕ → ℕ → ℕ → Option ℕ → Type 0
IsHighestGap pages count low high None = (first : ℕ) → IsGap pages count low high first → ⊥
IsHighestGap pages count low high (Some first) = IsGap pages count low high first × ((other : ℕ) → first < other → IsGap pages count low high other → ⊥)

-- the same among the ranges that start below a page
abbrev pub IsHighestGapBelow : Pages → ℕ → ℕ → ℕ → ℕ → Option ℕ → Type 0
IsHighestGapBelow pages count low high at None = (first : ℕ) → first < at → IsGap pages count low high first → ⊥
IsHighestGapBelow pages count low high at (Some first) = IsGap pages count low high first × ((other : ℕ) → first < other → other < at → IsGap pages count low high other → ⊥)
