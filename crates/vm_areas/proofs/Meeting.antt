-- Areas that have a page of a range.
use Rattle.std.proofs.Common.{◌≡◌, ◌↔◌, ℕ, Bool, true, false, ◌+◌, ◌<◌, ◌≤◌, ◌||◌, max, refl, sym, ◌∙◌, subst, arith, inl, inr, List, [], ◌∷◌, Option, Some, None, IsSome, IsSomeAnd, IsTrue, lt-ltb, ltb-true}
use Rattle.std.specs.List.{list_any}
use Rattle.std.proofs.lemmas.Bool.{cases_Bool, cases_lt, both_ways, and_parts, and_from, or_cases}
use Rattle.vm_areas.specs.declared.runs.Area.{Area}
use Rattle.page_ranges.specs.declared.rights.Rights.{Rights}
use Rattle.page_ranges.specs.Ranges.{within}
use Rattle.vm_areas.specs.PageMap.{end_of, rights_at, IsMaximal}
use Rattle.vm_areas.specs.Painted.{clipped}
use Rattle.page_ranges.specs.Ranges.{EachPage, SomePage}
use Rattle.vm_areas.specs.Ranges.{IsFreeAt, IsMappedAt, IsExecutableAt}
use Rattle.vm_areas.specs.Steps.{meets, meets_code}
use Rattle.vm_areas.proofs.Maximal.{within-true, within-behind, within-parts, rights_at-head, rights_at-tail, rights_at-before, StartsAt-behind}
use Rattle.vm_areas.proofs.Reaching.{mapped_by, held_by}

or_left : (x y : Bool) → (x || y) ≡ false → (x ≡ false) × (y ≡ false)
or_left true y e = cc
or_left false y e = (refl, e)

-- an area that holds a page of the range meets it
meets_at : (from to : ℕ) (area : Area) (page : ℕ) → from ≤ page → page < to → within area.first area.pages page ≡ true → meets from to area ≡ true
meets_at from to area page above below e =
    let parts = within-parts area.first area.pages page e in
    lt-ltb 0 (clipped from to area).pages (omega arith)

-- and one that meets it holds this page
met_at : (from to : ℕ) (area : Area) → meets from to area ≡ true → (from ≤ max area.first from) × (max area.first from < to) × (within area.first area.pages (max area.first from) ≡ true)
met_at from to area e =
    let some = ltb-true 0 (clipped from to area).pages e in
    (omega arith, omega arith, within-true area.first area.pages (max area.first from) (omega arith) (omega arith))

free_unless_met : (from to : ℕ) (areas : List Area) (page : ℕ) → list_any (meets from to) areas ≡ false → from ≤ page → page < to → rights_at areas page ≡ None
free_unless_met from to [] page none above below = refl
free_unless_met from to (area ∷ areas) page none above below =
    let parts = or_left (meets from to area) (list_any (meets from to) areas) none in
    elim (cases_Bool (within area.first area.pages page)) [
      | inl e ↦ absurd (both_ways (meets from to area) parts.0 (meets_at from to area page above below e))
      | inr e ↦ rights_at-tail area areas page e ∙ free_unless_met from to areas page parts.1 above below
    ]

-- a page of the range that an area holds
mapped_if_met : (from to : ℕ) (areas : List Area) → list_any (meets from to) areas ≡ true → (page : ℕ) × (from ≤ page) × (page < to) × IsMappedAt areas page
mapped_if_met from to [] met = cc
mapped_if_met from to (area ∷ areas) met =
    elim (or_cases (meets from to area) (list_any (meets from to) areas) met) [
      | inl e ↦ (let m = met_at from to area e in (max area.first from, m.0, m.1, held_by area areas (max area.first from) m.2))
      | inr e ↦ (let m = mapped_if_met from to areas e in (m.0, m.1, m.2, mapped_by area areas m.0 m.3))
    ]

some_none : (o : Option Rights) → IsSome o → o ≡ None → ⊥
some_none None there none = cc
some_none (Some r) there none = cc

pub none_met_when_free : (areas : List Area) (first pages : ℕ) → (list_any (meets first (first + pages)) areas ≡ false) ↔ EachPage first pages (IsFreeAt areas)
none_met_when_free areas first pages =
    let any = list_any (meets first (first + pages)) areas in (
      λ none page from below. free_unless_met first (first + pages) areas page none from below,
      λ free. elim (cases_Bool any) [
        | inl met ↦ (let m = mapped_if_met first (first + pages) areas met in absurd (some_none (rights_at areas m.0) m.3 (free m.0 m.1 m.2)))
        | inr none ↦ none
      ],
    )

-- the same of areas with the right to execute
not_before : (area : Area) (areas : List Area) (page : ℕ) → IsMaximal (area ∷ areas) → IsExecutableAt areas page → within area.first area.pages page ≡ false
not_before area areas page maximal code =
    elim (cases_lt page (end_of area)) [
      | inl before ↦ (let none = rights_at-before areas (end_of area) page maximal.3 (StartsAt-behind area areas maximal.2) before in absurd (subst (λ (o : Option Rights). IsSomeAnd o (λ rights. IsTrue rights.execute)) none code))
      | inr behind ↦ within-behind area.first area.pages page behind
    ]

code_if_met : (from to : ℕ) (areas : List Area) → IsMaximal areas → list_any (meets_code from to) areas ≡ true → (page : ℕ) × (from ≤ page) × (page < to) × IsExecutableAt areas page
code_if_met from to [] maximal met = cc
code_if_met from to (area ∷ areas) maximal met =
    elim (or_cases (meets_code from to area) (list_any (meets_code from to) areas) met) [
      | inl e ↦
          (let parts = and_parts (meets from to area) area.rights.execute e in
          let m = met_at from to area parts.0 in
          (max area.first from, m.0, m.1, subst (λ (o : Option Rights). IsSomeAnd o (λ rights. IsTrue rights.execute)) (sym (rights_at-head area areas (max area.first from) m.2)) parts.1))
      | inr e ↦
          (let m = code_if_met from to areas maximal.3 e in
          (m.0, m.1, m.2, subst (λ (o : Option Rights). IsSomeAnd o (λ rights. IsTrue rights.execute)) (sym (rights_at-tail area areas m.0 (not_before area areas m.0 maximal m.3))) m.3))
    ]

met_if_code : (from to : ℕ) (areas : List Area) (page : ℕ) → from ≤ page → page < to → IsExecutableAt areas page → list_any (meets_code from to) areas ≡ false → ⊥
met_if_code from to [] page above below code none = code
met_if_code from to (area ∷ areas) page above below code none =
    let parts = or_left (meets_code from to area) (list_any (meets_code from to) areas) none in
    elim (cases_Bool (within area.first area.pages page)) [
      | inl e ↦
          (let may : area.rights.execute ≡ true = subst (λ (o : Option Rights). IsSomeAnd o (λ rights. IsTrue rights.execute)) (rights_at-head area areas page e) code in
          both_ways (meets_code from to area) parts.0 (and_from (meets from to area) area.rights.execute (meets_at from to area page above below e) may))
      | inr e ↦ met_if_code from to areas page above below (subst (λ (o : Option Rights). IsSomeAnd o (λ rights. IsTrue rights.execute)) (rights_at-tail area areas page e) code) parts.1
    ]

pub code_met : (areas : List Area) (first pages : ℕ) → IsMaximal areas → (list_any (meets_code first (first + pages)) areas ≡ true) ↔ SomePage first pages (IsExecutableAt areas)
code_met areas first pages maximal =
    let any = list_any (meets_code first (first + pages)) areas in (
      λ met. let m = code_if_met first (first + pages) areas maximal met in record { page = m.0; from = m.1; below = m.2; holds = m.3 },
      λ some. elim (cases_Bool any) [
        | inl met ↦ met
        | inr none ↦ absurd (met_if_code first (first + pages) areas some.page some.from some.below some.holds none)
      ],
    )
