-- What the areas after a change are: maximal runs, with the new rights in the range and the old ones elsewhere.
use Rattle.std.proofs.Common.{◌≡◌, ℕ, Bool, true, false, ◌+◌, ◌^◌, ◌<◌, ◌≤◌, refl, sym, ◌∙◌, ap, subst, arith, inl, inr, List, [], ◌∷◌, ◌++◌, Option, Some, None, if◌then◌else◌, ◌==◌, map, eqb-true, le_trans, le_refl}
use Rattle.std.specs.Option.{option_or}
use Rattle.std.proofs.lemmas.Bool.{cases_Bool, cases_lt, eqb-false}
use Rattle.vm_areas.specs.declared.runs.Area.{Area}
use Rattle.page_ranges.specs.declared.rights.Rights.{Rights}
use Rattle.page_ranges.specs.Ranges.{within}
use Rattle.vm_areas.specs.PageMap.{end_of, rights_at, IsApart, IsMaximal}
use Rattle.vm_areas.specs.Painted.{clipped, touches, grown, joined_to, join, joined, range_of, painted, IsPainted}
use Rattle.vm_areas.proofs.Touching.{touching, not_touching}
use Rattle.vm_areas.proofs.Joining.{joined_to-touching, joined_to-apart, join-empty, join-some}
use Rattle.vm_areas.proofs.Maximal.{within-true, within-before, within-behind, rights_at-head, rights_at-tail, rights_at-past, StartsAt, StartsAt-behind}

-- of lists in a row, the first that maps the page counts
rights_at-append : (xs ys : List Area) (page : ℕ) → rights_at (xs ++ ys) page ≡ option_or (rights_at xs page) (rights_at ys page)
rights_at-append [] ys page = refl
rights_at-append (x ∷ xs) ys page =
    elim (cases_Bool (within x.first x.pages page)) [
      | inl e ↦ rights_at-head x (xs ++ ys) page e ∙ ap (λ o. option_or o (rights_at ys page)) (sym (rights_at-head x xs page e))
      | inr e ↦ rights_at-tail x (xs ++ ys) page e ∙ rights_at-append xs ys page ∙ ap (λ o. option_or o (rights_at ys page)) (sym (rights_at-tail x xs page e))
    ]

-- parts of areas have their rights between the two pages, and none elsewhere
rights_at-parts : (from to : ℕ) (areas : List Area) (page : ℕ) → from ≤ page → page < to → rights_at (map (clipped from to) areas) page ≡ rights_at areas page
rights_at-parts from to [] page above below = refl
rights_at-parts from to (area ∷ areas) page above below =
    let part = clipped from to area in
    let parts = map (clipped from to) areas in
    let rest = rights_at-parts from to areas page above below in
    elim (cases_lt page area.first) [
      | inl before ↦ rights_at-tail part parts page (within-before part.first part.pages page (omega arith)) ∙ rest ∙ sym (rights_at-tail area areas page (within-before area.first area.pages page before))
      | inr from_first ↦ elim (cases_lt page (end_of area)) [
        | inl inside ↦ rights_at-head part parts page (within-true part.first part.pages page (omega arith) (omega arith)) ∙ sym (rights_at-head area areas page (within-true area.first area.pages page from_first inside))
        | inr behind ↦ rights_at-tail part parts page (within-behind part.first part.pages page (omega arith)) ∙ rest ∙ sym (rights_at-tail area areas page (within-behind area.first area.pages page behind))
      ]
    ]

rights_at-parts_below : (from to : ℕ) (areas : List Area) (page : ℕ) → page < from → rights_at (map (clipped from to) areas) page ≡ None
rights_at-parts_below from to [] page below = refl
rights_at-parts_below from to (area ∷ areas) page below =
    let part = clipped from to area in
    rights_at-tail part (map (clipped from to) areas) page (within-before part.first part.pages page (omega arith)) ∙ rights_at-parts_below from to areas page below

rights_at-parts_above : (from to : ℕ) (areas : List Area) (page : ℕ) → to ≤ page → rights_at (map (clipped from to) areas) page ≡ None
rights_at-parts_above from to [] page above = refl
rights_at-parts_above from to (area ∷ areas) page above =
    let part = clipped from to area in
    let out : within part.first part.pages page ≡ false = elim (cases_lt page part.first) [
      | inl before ↦ within-before part.first part.pages page before
      | inr behind ↦ within-behind part.first part.pages page (omega arith)
    ] in
    rights_at-tail part (map (clipped from to) areas) page out ∙ rights_at-parts_above from to areas page above

-- joining pieces keeps the rights at each page
rights_at-grown : (area next : Area) (areas : List Area) (page : ℕ) → touches area next ≡ true → rights_at (grown area next ∷ areas) page ≡ rights_at (area ∷ next ∷ areas) page
rights_at-grown area next areas page e =
    let both = grown area next in
    let t = touching area next e in
    let ends : area.first + area.pages ≡ next.first = t.0 in
    elim (cases_lt page area.first) [
      | inl before ↦ rights_at-tail both areas page (within-before both.first both.pages page before) ∙ sym (rights_at-tail area (next ∷ areas) page (within-before area.first area.pages page before) ∙ rights_at-tail next areas page (within-before next.first next.pages page (omega arith)))
      | inr from_first ↦ elim (cases_lt page next.first) [
        | inl inside ↦ rights_at-head both areas page (within-true both.first both.pages page from_first (omega arith)) ∙ sym (rights_at-head area (next ∷ areas) page (within-true area.first area.pages page from_first (omega arith)))
        | inr from_next ↦ (let tail = rights_at-tail area (next ∷ areas) page (within-behind area.first area.pages page (omega arith)) in elim (cases_lt page (end_of next)) [
          | inl inside ↦ rights_at-head both areas page (within-true both.first both.pages page from_first (omega arith)) ∙ ap (λ r. Some r) t.1 ∙ sym (tail ∙ rights_at-head next areas page (within-true next.first next.pages page from_next inside))
          | inr behind ↦ rights_at-tail both areas page (within-behind both.first both.pages page (omega arith)) ∙ sym (tail ∙ rights_at-tail next areas page (within-behind next.first next.pages page behind))
        ])
      ]
    ]

rights_at-joined_to : (piece : Area) (areas : List Area) (page : ℕ) → rights_at (joined_to piece areas) page ≡ rights_at (piece ∷ areas) page
rights_at-joined_to piece [] page = refl
rights_at-joined_to piece (next ∷ areas) page =
    elim (cases_Bool (touches piece next)) [
      | inl e ↦ ap (λ r. rights_at r page) (joined_to-touching piece next areas e) ∙ rights_at-grown piece next areas page e
      | inr e ↦ ap (λ r. rights_at r page) (joined_to-apart piece next areas e)
    ]

pub within-empty : (first pages page : ℕ) → pages ≡ 0 → within first pages page ≡ false
within-empty first pages page empty =
    elim (cases_lt page first) [
      | inl before ↦ within-before first pages page before
      | inr behind ↦ within-behind first pages page (omega arith)
    ]

rights_at-join : (piece : Area) (areas : List Area) (page : ℕ) → rights_at (join piece areas) page ≡ rights_at (piece ∷ areas) page
rights_at-join piece areas page =
    elim (cases_Bool (piece.pages == 0)) [
      | inl e ↦ ap (λ r. rights_at r page) (join-empty piece areas e) ∙ sym (rights_at-tail piece areas page (within-empty piece.first piece.pages page (eqb-true piece.pages 0 e)))
      | inr e ↦ ap (λ r. rights_at r page) (join-some piece areas e) ∙ rights_at-joined_to piece areas page
    ]

rights_at-joined : (pieces : List Area) (page : ℕ) → rights_at (joined pieces) page ≡ rights_at pieces page
rights_at-joined [] page = refl
rights_at-joined (piece ∷ pieces) page =
    rights_at-join piece (joined pieces) page
    ∙ ap (λ o. if within piece.first piece.pages page then Some piece.rights else o) (rights_at-joined pieces page)

rights_at-range : (first pages : ℕ) (rights : Option Rights) (page : ℕ) → first ≤ page → page < first + pages → rights_at (range_of first pages rights) page ≡ rights
rights_at-range first pages None page from below = refl
rights_at-range first pages (Some rights) page from below = rights_at-head record { first = first; pages = pages; rights = rights } [] page (within-true first pages page from below)

rights_at-range_out : (first pages : ℕ) (rights : Option Rights) (page : ℕ) → within first pages page ≡ false → rights_at (range_of first pages rights) page ≡ None
rights_at-range_out first pages None page out = refl
rights_at-range_out first pages (Some rights) page out = rights_at-tail record { first = first; pages = pages; rights = rights } [] page out

option_or-None : (o : Option Rights) → option_or o None ≡ o
option_or-None None = refl
option_or-None (Some r) = refl

-- behind the range the old rights stand
rights_at-behind : (end : ℕ) (areas : List Area) (page : ℕ) → IsMaximal areas → end ≤ page → rights_at (map (clipped end (2 ^ 53)) areas) page ≡ rights_at areas page
rights_at-behind end areas page maximal behind =
    elim (cases_lt page (2 ^ 53)) [
      | inl below ↦ rights_at-parts end (2 ^ 53) areas page behind below
      | inr past ↦ rights_at-parts_above end (2 ^ 53) areas page past ∙ sym (rights_at-past areas page maximal past)
    ]

painted-at : (areas : List Area) (first pages : ℕ) (rights : Option Rights) (page : ℕ) → IsMaximal areas → rights_at (painted areas first pages rights) page ≡ (if within first pages page then rights else rights_at areas page)
unfolding painted
painted-at areas first pages rights page maximal =
    let end = first + pages in
    let below = map (clipped 0 first) areas in
    let range = range_of first pages rights in
    let behind = map (clipped end (2 ^ 53)) areas in
    let pieces : rights_at (joined (below ++ (range ++ behind))) page ≡ option_or (rights_at below page) (option_or (rights_at range page) (rights_at behind page)) =
    rights_at-joined (below ++ (range ++ behind)) page ∙ rights_at-append below (range ++ behind) page ∙ ap (λ o. option_or (rights_at below page) o) (rights_at-append range behind page) in
    let chosen = λ (b : Bool). if b then rights else rights_at areas page in
    elim (cases_lt page first) [
      | inl before ↦
          (let out = within-before first pages page before in
          let b = rights_at-parts 0 first areas page (omega arith) before in
          let r = rights_at-range_out first pages rights page out in
          let a = rights_at-parts_below end (2 ^ 53) areas page (omega arith) in
          pieces ∙ (λ i. option_or (b i) (option_or (r i) (a i))) ∙ option_or-None (rights_at areas page) ∙ sym (ap chosen out))
      | inr from ↦ (let b = rights_at-parts_above 0 first areas page from in elim (cases_lt page end) [
        | inl inside ↦
            (let r = rights_at-range first pages rights page from inside in
            let a = rights_at-parts_below end (2 ^ 53) areas page inside in
            pieces ∙ (λ i. option_or (b i) (option_or (r i) (a i))) ∙ option_or-None rights ∙ sym (ap chosen (within-true first pages page from inside)))
        | inr past ↦
            (let out = within-behind first pages page past in
            let r = rights_at-range_out first pages rights page out in
            let a = rights_at-behind end areas page maximal past in
            pieces ∙ (λ i. option_or (b i) (option_or (r i) (a i))) ∙ sym (ap chosen out))
      ])
    ]

-- pieces that are not empty start at or behind a page
abbrev AllBehind : ℕ → List Area → Type 0
AllBehind page [] = Unit {0}
AllBehind page (piece ∷ pieces) = (0 < piece.pages → page ≤ piece.first) × AllBehind page pieces

-- .. end at or before a page
abbrev AllBefore : ℕ → List Area → Type 0
AllBefore page [] = Unit {0}
AllBefore page (piece ∷ pieces) = (0 < piece.pages → end_of piece ≤ page) × AllBefore page pieces

-- .. lie in order
abbrev InOrder : List Area → Type 0
InOrder [] = Unit {0}
InOrder (piece ∷ pieces) = (0 < piece.pages → end_of piece ≤ 2 ^ 53) × (0 < piece.pages → AllBehind (end_of piece) pieces) × InOrder pieces

AllBehind-append : (page : ℕ) (xs ys : List Area) → AllBehind page xs → AllBehind page ys → AllBehind page (xs ++ ys)
AllBehind-append page [] ys hx hy = hy
AllBehind-append page (x ∷ xs) ys hx hy = (hx.0, AllBehind-append page xs ys hx.1 hy)

AllBehind-lower : (low high : ℕ) (xs : List Area) → low ≤ high → AllBehind high xs → AllBehind low xs
AllBehind-lower low high [] le h = tt
AllBehind-lower low high (x ∷ xs) le h = (λ some. le_trans le (h.0 some), AllBehind-lower low high xs le h.1)

InOrder-append : (page : ℕ) (xs ys : List Area) → InOrder xs → AllBefore page xs → InOrder ys → AllBehind page ys → InOrder (xs ++ ys)
InOrder-append page [] ys hx before hy behind = hy
InOrder-append page (x ∷ xs) ys hx before hy behind =
    (hx.0, λ some. AllBehind-append (end_of x) xs ys (hx.1 some) (AllBehind-lower (end_of x) page ys (before.0 some) behind), InOrder-append page xs ys hx.2 before.1 hy behind)

-- the parts of areas lie in order
AllBehind-parts : (page from to : ℕ) (areas : List Area) → page ≤ from → AllBehind page (map (clipped from to) areas)
AllBehind-parts page from to [] le = tt
AllBehind-parts page from to (area ∷ areas) le = (λ some. omega arith, AllBehind-parts page from to areas le)

AllBehind-rest : (page start from to : ℕ) (areas : List Area) → page ≤ start → StartsAt start areas → IsMaximal areas → AllBehind page (map (clipped from to) areas)
AllBehind-rest page start from to [] le starts maximal = tt
AllBehind-rest page start from to (area ∷ areas) le starts maximal =
    (λ some. omega arith, AllBehind-rest page (end_of area) from to areas (omega arith) (StartsAt-behind area areas maximal.2) maximal.3)

InOrder-parts : (from to : ℕ) (areas : List Area) → to ≤ 2 ^ 53 → IsMaximal areas → InOrder (map (clipped from to) areas)
InOrder-parts from to [] le maximal = tt
InOrder-parts from to (area ∷ areas) le maximal =
    (λ some. omega arith, λ some. AllBehind-rest (end_of (clipped from to area)) (end_of area) from to areas (omega arith) (StartsAt-behind area areas maximal.2) maximal.3, InOrder-parts from to areas le maximal.3)

AllBefore-parts : (from to : ℕ) (areas : List Area) → AllBefore to (map (clipped from to) areas)
AllBefore-parts from to [] = tt
AllBefore-parts from to (area ∷ areas) = (λ some. omega arith, AllBefore-parts from to areas)

InOrder-range : (first pages : ℕ) (rights : Option Rights) → first + pages ≤ 2 ^ 53 → InOrder (range_of first pages rights)
InOrder-range first pages None le = tt
InOrder-range first pages (Some rights) le = (λ _. le, λ _. tt, tt)

AllBefore-range : (first pages : ℕ) (rights : Option Rights) → AllBefore (first + pages) (range_of first pages rights)
AllBefore-range first pages None = tt
AllBefore-range first pages (Some rights) = (λ _. le_refl (first + pages), tt)

AllBehind-range : (first pages : ℕ) (rights : Option Rights) → AllBehind first (range_of first pages rights)
AllBehind-range first pages None = tt
AllBehind-range first pages (Some rights) = (λ _. le_refl first, tt)

-- what pieces in order make is maximal
StartsAt-joined_to : (page : ℕ) (piece : Area) (areas : List Area) → page ≤ piece.first → StartsAt page (joined_to piece areas)
StartsAt-joined_to page piece [] le = le
StartsAt-joined_to page piece (next ∷ areas) le =
    let P : List Area → Type 0 = StartsAt page in
    elim (cases_Bool (touches piece next)) [
      | inl e ↦ subst P (sym (joined_to-touching piece next areas e)) le
      | inr e ↦ subst P (sym (joined_to-apart piece next areas e)) le
    ]

StartsAt-joined : (page : ℕ) (pieces : List Area) → AllBehind page pieces → StartsAt page (joined pieces)
StartsAt-joined page [] behind = tt
StartsAt-joined page (piece ∷ pieces) behind =
    let P : List Area → Type 0 = StartsAt page in
    elim (cases_Bool (piece.pages == 0)) [
      | inl e ↦ subst P (sym (join-empty piece (joined pieces) e)) (StartsAt-joined page pieces behind.1)
      | inr e ↦ (let some : piece.pages ≡ 0 → ⊥ = eqb-false piece.pages 0 e in subst P (sym (join-some piece (joined pieces) e)) (StartsAt-joined_to page piece (joined pieces) (behind.0 (omega arith))))
    ]

IsApart-from : (area : Area) (next : Area) (areas : List Area) → end_of area ≤ next.first → touches area next ≡ false → IsApart area (next ∷ areas)
IsApart-from area next areas le none = (le, not_touching area next none)

IsApart-grown : (area next : Area) (areas : List Area) → touches area next ≡ true → IsApart next areas → IsApart (grown area next) areas
IsApart-grown area next [] e apart = tt
IsApart-grown area next (third ∷ areas) e apart =
    let t = touching area next e in
    let ends : area.first + area.pages ≡ next.first = t.0 in
    (omega arith, λ at same. apart.1 (omega arith) (sym t.1 ∙ same))

IsMaximal-joined_to : (piece : Area) (areas : List Area) → 0 < piece.pages → end_of piece ≤ 2 ^ 53 → StartsAt (end_of piece) areas → IsMaximal areas → IsMaximal (joined_to piece areas)
IsMaximal-joined_to piece [] some below starts maximal = (some, below, tt, tt)
IsMaximal-joined_to piece (next ∷ areas) some below starts maximal =
    elim (cases_Bool (touches piece next)) [
      | inl e ↦
          (let t = touching piece next e in
          let ends : piece.first + piece.pages ≡ next.first = t.0 in
          subst (λ (r : List Area). IsMaximal r) (sym (joined_to-touching piece next areas e)) (omega arith, omega arith, IsApart-grown piece next areas e maximal.2, maximal.3))
      | inr e ↦ subst (λ (r : List Area). IsMaximal r) (sym (joined_to-apart piece next areas e)) (some, below, IsApart-from piece next areas starts e, maximal)
    ]

IsMaximal-joined : (pieces : List Area) → InOrder pieces → IsMaximal (joined pieces)
IsMaximal-joined [] order = tt
IsMaximal-joined (piece ∷ pieces) order =
    let rest = IsMaximal-joined pieces order.2 in
    elim (cases_Bool (piece.pages == 0)) [
      | inl e ↦ subst (λ (r : List Area). IsMaximal r) (sym (join-empty piece (joined pieces) e)) rest
      | inr e ↦
          (let nonzero : piece.pages ≡ 0 → ⊥ = eqb-false piece.pages 0 e in
          let some : 0 < piece.pages = omega arith in
          subst (λ (r : List Area). IsMaximal r) (sym (join-some piece (joined pieces) e))
          (IsMaximal-joined_to piece (joined pieces) some (order.0 some) (StartsAt-joined (end_of piece) pieces (order.1 some)) rest))
    ]

painted-maximal : (areas : List Area) (first pages : ℕ) (rights : Option Rights) → first + pages ≤ 2 ^ 53 → IsMaximal areas → IsMaximal (painted areas first pages rights)
unfolding painted
painted-maximal areas first pages rights le maximal =
    let end = first + pages in
    let below = map (clipped 0 first) areas in
    let range = range_of first pages rights in
    let behind = map (clipped end (2 ^ 53)) areas in
    let later = InOrder-append end range behind (InOrder-range first pages rights le) (AllBefore-range first pages rights) (InOrder-parts end (2 ^ 53) areas (le_refl (2 ^ 53)) maximal) (AllBehind-parts end end (2 ^ 53) areas (le_refl end)) in
    let all_behind = AllBehind-append first range behind (AllBehind-range first pages rights) (AllBehind-parts first end (2 ^ 53) areas (omega arith)) in
    IsMaximal-joined (below ++ (range ++ behind)) (InOrder-append first below (range ++ behind) (InOrder-parts 0 first areas (omega arith) maximal) (AllBefore-parts 0 first areas) later all_behind)

-- the areas after a change are those of the page map after it
pub painted-is : (areas : List Area) (first pages : ℕ) (rights : Option Rights) → first + pages ≤ 2 ^ 53 → IsMaximal areas → IsPainted areas first pages rights (painted areas first pages rights)
painted-is areas first pages rights le maximal = record {
  maximal = painted-maximal areas first pages rights le maximal;
  at_page = λ page. painted-at areas first pages rights page maximal;
}
