-- The rights at a page, before, at and behind areas.
use Rattle.std.proofs.Common.{◌≡◌, ℕ, true, false, ◌+◌, ◌^◌, ◌<◌, ◌≤◌, refl, ◌∙◌, ap, arith, inl, inr, List, [], ◌∷◌, Some, None, if◌then◌else◌, le-leb, lt-ltb, le-ltb, leb-true, ltb-true, nat_le, nat_lt, All, zero, suc}
use Rattle.std.proofs.lemmas.Bool.{and_parts, and_from, and_left, and_right, lt-leb, cases_lt}
use Rattle.vm_areas.specs.declared.runs.Area.{Area}
use Rattle.page_ranges.specs.Ranges.{within}
use Rattle.vm_areas.specs.PageMap.{end_of, rights_at, IsApart, IsMaximal}

pub within-true : (first pages page : ℕ) → first ≤ page → page < first + pages → within first pages page ≡ true
within-true first pages page from below = and_from (nat_le first page) (nat_lt page (first + pages)) (le-leb first page from) (lt-ltb page (first + pages) below)

pub within-before : (first pages page : ℕ) → page < first → within first pages page ≡ false
within-before first pages page before = and_left (nat_le first page) (nat_lt page (first + pages)) (lt-leb first page before)

pub within-behind : (first pages page : ℕ) → first + pages ≤ page → within first pages page ≡ false
within-behind first pages page behind = and_right (nat_le first page) (nat_lt page (first + pages)) (le-ltb page (first + pages) behind)

pub within-parts : (first pages page : ℕ) → within first pages page ≡ true → (first ≤ page) × (page < first + pages)
within-parts first pages page e =
    let parts = and_parts (nat_le first page) (nat_lt page (first + pages)) e in
    (leb-true first page parts.0, ltb-true page (first + pages) parts.1)

-- at a page that the first area holds, and at another
pub rights_at-head : (area : Area) (areas : List Area) (page : ℕ) → within area.first area.pages page ≡ true → rights_at (area ∷ areas) page ≡ Some area.rights
rights_at-head area areas page e = ap (λ b. if b then Some area.rights else rights_at areas page) e

pub rights_at-tail : (area : Area) (areas : List Area) (page : ℕ) → within area.first area.pages page ≡ false → rights_at (area ∷ areas) page ≡ rights_at areas page
rights_at-tail area areas page e = ap (λ b. if b then Some area.rights else rights_at areas page) e

-- areas, if there are any, start at or behind a page
abbrev pub StartsAt : ℕ → List Area → Type 0
StartsAt page [] = Unit {0}
StartsAt page (area ∷ _) = page ≤ area.first

pub StartsAt-behind : (area : Area) (areas : List Area) → IsApart area areas → StartsAt (end_of area) areas
StartsAt-behind area [] apart = tt
StartsAt-behind area (next ∷ areas) apart = apart.0

-- nothing is mapped before the first area
pub rights_at-before : (areas : List Area) (start page : ℕ) → IsMaximal areas → StartsAt start areas → page < start → rights_at areas page ≡ None
rights_at-before [] start page maximal starts before = refl
rights_at-before (area ∷ areas) start page maximal starts before =
    rights_at-tail area areas page (within-before area.first area.pages page (omega arith))
    ∙ rights_at-before areas (end_of area) page maximal.3 (StartsAt-behind area areas maximal.2) (omega arith)

-- nothing is mapped from page 2^53 on
pub rights_at-past : (areas : List Area) (page : ℕ) → IsMaximal areas → 2 ^ 53 ≤ page → rights_at areas page ≡ None
rights_at-past [] page maximal past = refl
rights_at-past (area ∷ areas) page maximal past =
    rights_at-tail area areas page (within-behind area.first area.pages page (omega arith))
    ∙ rights_at-past areas page maximal.3 past

-- behind an area its rights do not go on
pub rights_at-end : (area : Area) (areas : List Area) → IsMaximal (area ∷ areas) → rights_at areas (end_of area) ≡ Some area.rights → ⊥
rights_at-end area [] maximal there = cc
rights_at-end area (next ∷ areas) maximal there =
    elim (cases_lt (end_of area) next.first) [
      | inl gap ↦ let none = rights_at-before (next ∷ areas) next.first (end_of area) maximal.3 (omega arith) gap in absurd (cc)
      | inr close ↦
          let at : end_of area ≡ next.first = omega arith in
          let here = rights_at-head next areas (end_of area) (within-true next.first next.pages (end_of area) (omega arith) (omega arith)) in
          let same : area.rights ≡ next.rights = cc in
          maximal.2.1 at same
    ]

-- each area ends at or below page 2^53
pub ends_below : (areas : List Area) → IsMaximal areas → All (λ area. end_of area ≤ 2 ^ 53) areas
ends_below [] maximal k d lt = absurd (omega arith)
ends_below (area ∷ areas) maximal zero d lt = maximal.1
ends_below (area ∷ areas) maximal (suc k) d lt = ends_below areas maximal.3 k d (omega arith)
