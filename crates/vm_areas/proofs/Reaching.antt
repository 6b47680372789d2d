-- The page that a walk over mapped pages reaches: the first from there on that is not mapped.
use Rattle.std.proofs.Common.{◌≡◌, ◌↔◌, ℕ, true, false, ◌+◌, ◌<◌, ◌≤◌, refl, sym, ◌∙◌, ap, subst, arith, inl, inr, List, [], ◌∷◌, fold, Option, Some, None, IsSome, if◌then◌else◌}
use Rattle.std.proofs.lemmas.Bool.{cases_Bool, cases_lt, both_ways}
use Rattle.vm_areas.specs.declared.runs.Area.{Area}
use Rattle.page_ranges.specs.declared.rights.Rights.{Rights}
use Rattle.page_ranges.specs.Ranges.{within}
use Rattle.vm_areas.specs.PageMap.{end_of, rights_at, IsMaximal}
use Rattle.page_ranges.specs.Ranges.{EachPage}
use Rattle.vm_areas.specs.Ranges.{IsMappedAt}
use Rattle.vm_areas.specs.Steps.{step_over}
use Rattle.vm_areas.proofs.Maximal.{within-true, within-before, within-behind, within-parts, rights_at-head, rights_at-tail, StartsAt, StartsAt-behind}

step_in : (at : ℕ) (area : Area) → within area.first area.pages at ≡ true → step_over at area ≡ end_of area
step_in at area e = ap (λ b. if b then end_of area else at) e

step_out : (at : ℕ) (area : Area) → within area.first area.pages at ≡ false → step_over at area ≡ at
step_out at area e = ap (λ b. if b then end_of area else at) e

step_up : (at : ℕ) (area : Area) → at ≤ step_over at area
step_up at area =
    elim (cases_Bool (within area.first area.pages at)) [
      | inl e ↦ (let parts = within-parts area.first area.pages at e in omega (arith, step_in at area e))
      | inr e ↦ omega (arith, step_out at area e)
    ]

reached_up : (areas : List Area) (at : ℕ) → at ≤ fold step_over at areas
reached_up [] at = omega arith
reached_up (area ∷ areas) at = omega (arith, step_up at area, reached_up areas (step_over at area))

-- what an area holds or a later one maps is mapped
pub mapped_by : (area : Area) (areas : List Area) (page : ℕ) → IsMappedAt areas page → IsMappedAt (area ∷ areas) page
mapped_by area areas page there =
    elim (cases_Bool (within area.first area.pages page)) [
      | inl e ↦ subst (λ (o : Option Rights). IsSome o) (sym (rights_at-head area areas page e)) refl
      | inr e ↦ subst (λ (o : Option Rights). IsSome o) (sym (rights_at-tail area areas page e)) there
    ]

pub held_by : (area : Area) (areas : List Area) (page : ℕ) → within area.first area.pages page ≡ true → IsMappedAt (area ∷ areas) page
held_by area areas page e = subst (λ (o : Option Rights). IsSome o) (sym (rights_at-head area areas page e)) refl

-- a page that the area does not hold is not passed
past : (area : Area) (at page : ℕ) → at ≤ page → within area.first area.pages page ≡ false → step_over at area ≤ page
past area at page from out =
    elim (cases_Bool (within area.first area.pages at)) [
      | inl e ↦
          (let parts = within-parts area.first area.pages at e in
          elim (cases_lt page (end_of area)) [
            | inl inside ↦ absurd (both_ways (within area.first area.pages page) out (within-true area.first area.pages page (omega arith) inside))
            | inr behind ↦ omega (arith, step_in at area e)
          ])
      | inr e ↦ omega (arith, step_out at area e)
    ]

-- each page before the one that is reached is mapped
mapped_before : (areas : List Area) (at page : ℕ) → at ≤ page → page < fold step_over at areas → IsMappedAt areas page
mapped_before [] at page from below = absurd (omega arith)
mapped_before (area ∷ areas) at page from below =
    elim (cases_Bool (within area.first area.pages page)) [
      | inl e ↦ held_by area areas page e
      | inr e ↦ mapped_by area areas page (mapped_before areas (step_over at area) page (past area at page from e) below)
    ]

-- a walk that starts before the areas stays
reached_before : (areas : List Area) (start at : ℕ) → IsMaximal areas → StartsAt start areas → at < start → fold step_over at areas ≡ at
reached_before [] start at maximal starts before = refl
reached_before (area ∷ areas) start at maximal starts before =
    ap (λ n. fold step_over n areas) (step_out at area (within-before area.first area.pages at (omega arith)))
    ∙ reached_before areas (end_of area) at maximal.3 (StartsAt-behind area areas maximal.2) (omega arith)

-- the page that is reached is not mapped
free_at : (areas : List Area) (at : ℕ) → IsMaximal areas → rights_at areas (fold step_over at areas) ≡ None
free_at [] at maximal = refl
free_at (area ∷ areas) at maximal =
    let page = fold step_over (step_over at area) areas in
    let up = reached_up areas (step_over at area) in
    let out : within area.first area.pages page ≡ false = elim (cases_lt at area.first) [
      | inl before ↦
          (let stays = step_out at area (within-before area.first area.pages at before) in
          let is : page ≡ at = ap (λ n. fold step_over n areas) stays ∙ reached_before areas (end_of area) at maximal.3 (StartsAt-behind area areas maximal.2) (omega arith) in
          within-before area.first area.pages page (omega (arith, is)))
      | inr from ↦ elim (cases_lt at (end_of area)) [
        | inl inside ↦ within-behind area.first area.pages page (omega (arith, up, step_in at area (within-true area.first area.pages at from inside)))
        | inr behind ↦ within-behind area.first area.pages page (omega (arith, up, step_up at area))
      ]
    ] in
    rights_at-tail area areas page out ∙ free_at areas (step_over at area) maximal.3

some_none : (o : Option Rights) → IsSome o → o ≡ None → ⊥
some_none None there none = cc
some_none (Some r) there none = cc

pub reached_when_mapped : (areas : List Area) (first pages : ℕ) → IsMaximal areas → (first + pages ≤ fold step_over first areas) ↔ EachPage first pages (IsMappedAt areas)
reached_when_mapped areas first pages maximal = (
  λ reaches page from below. mapped_before areas first page from (omega arith),
  λ mapped. elim (cases_lt (fold step_over first areas) (first + pages)) [
    | inl short ↦ absurd (some_none (rights_at areas (fold step_over first areas)) (mapped (fold step_over first areas) (reached_up areas first) short) (free_at areas first maximal))
    | inr reaches ↦ reaches
  ],
)
