-- Two lists of areas with the same rights at each page are one list.
use Rattle.std.proofs.Common.{◌≡◌, ℕ, ◌<◌, refl, sym, ◌∙◌, ap, subst, arith, inl, inr, List, [], ◌∷◌, Some}
use Rattle.std.proofs.lemmas.Bool.{cases_lt}
use Rattle.vm_areas.specs.declared.runs.Area.{Area}
use Rattle.page_ranges.specs.declared.rights.Rights.{Rights}
use Rattle.vm_areas.specs.PageMap.{end_of, rights_at, IsMaximal}
use Rattle.vm_areas.proofs.Maximal.{within-true, within-behind, rights_at-head, rights_at-tail, rights_at-before, rights_at-end, StartsAt-behind}

abbrev AreAlike : List Area → List Area → Type 0
AreAlike one other = (page : ℕ) → rights_at one page ≡ rights_at other page

at_first : (area : Area) (areas : List Area) → IsMaximal (area ∷ areas) → rights_at (area ∷ areas) area.first ≡ Some area.rights
at_first area areas maximal = rights_at-head area areas area.first (within-true area.first area.pages area.first (omega arith) (omega arith))

some_same : (one other : Rights) → Some one ≡ Some other → one ≡ other
some_same one other e = cc

-- the first of one list is not before that of the other
not_before : (x y : Area) (xs ys : List Area) → IsMaximal (x ∷ xs) → IsMaximal (y ∷ ys) → AreAlike (x ∷ xs) (y ∷ ys) → x.first < y.first → ⊥
not_before x y xs ys mx my alike before =
    let none = rights_at-before (y ∷ ys) y.first x.first my (omega arith) before in
    let there = at_first x xs mx in
    let e = alike x.first in
    cc

-- and, where they start together, it is not shorter
not_shorter : (x y : Area) (xs ys : List Area) → IsMaximal (x ∷ xs) → IsMaximal (y ∷ ys) → AreAlike (x ∷ xs) (y ∷ ys) → x.first ≡ y.first → x.rights ≡ y.rights → x.pages < y.pages → ⊥
not_shorter x y xs ys mx my alike first rights shorter =
    let in_y = rights_at-head y ys (end_of x) (within-true y.first y.pages (end_of x) (omega arith) (omega arith)) in
    let past_x = rights_at-tail x xs (end_of x) (within-behind x.first x.pages (end_of x) (omega arith)) in
    let e = alike (end_of x) in
    let goes_on : rights_at xs (end_of x) ≡ Some x.rights = cc in
    rights_at-end x xs mx goes_on

alike-sym : (one other : List Area) → AreAlike one other → AreAlike other one
alike-sym one other alike page = sym (alike page)

-- the rest of them are alike too
rests : (x : Area) (xs ys : List Area) → IsMaximal (x ∷ xs) → IsMaximal (x ∷ ys) → AreAlike (x ∷ xs) (x ∷ ys) → AreAlike xs ys
rests x xs ys mx my alike page =
    elim (cases_lt page (end_of x)) [
      | inl before ↦ rights_at-before xs (end_of x) page mx.3 (StartsAt-behind x xs mx.2) before ∙ sym (rights_at-before ys (end_of x) page my.3 (StartsAt-behind x ys my.2) before)
      | inr behind ↦ (let out = within-behind x.first x.pages page behind in sym (rights_at-tail x xs page out) ∙ alike page ∙ rights_at-tail x ys page out)
    ]

first_same : (x y : Area) (xs ys : List Area) → IsMaximal (x ∷ xs) → IsMaximal (y ∷ ys) → AreAlike (x ∷ xs) (y ∷ ys) → x.first ≡ y.first
first_same x y xs ys mx my alike =
    elim (cases_lt x.first y.first) [
      | inl before ↦ absurd (not_before x y xs ys mx my alike before)
      | inr not_less ↦ elim (cases_lt y.first x.first) [
        | inl before ↦ absurd (not_before y x ys xs my mx (alike-sym (x ∷ xs) (y ∷ ys) alike) before)
        | inr not_more ↦ omega arith
      ]
    ]

heads : (x y : Area) (xs ys : List Area) → IsMaximal (x ∷ xs) → IsMaximal (y ∷ ys) → AreAlike (x ∷ xs) (y ∷ ys) → x ≡ y
heads x y xs ys mx my alike =
    let first = first_same x y xs ys mx my alike in
    let x_there = at_first x xs mx in
    let y_there = rights_at-head y ys x.first (within-true y.first y.pages x.first (omega arith) (omega arith)) in
    let e = alike x.first in
    let rights : x.rights ≡ y.rights = some_same x.rights y.rights (sym x_there ∙ e ∙ y_there) in
    let pages : x.pages ≡ y.pages = elim (cases_lt x.pages y.pages) [
      | inl shorter ↦ absurd (not_shorter x y xs ys mx my alike first rights shorter)
      | inr not_less ↦ elim (cases_lt y.pages x.pages) [
        | inl shorter ↦ absurd (not_shorter y x ys xs my mx (alike-sym (x ∷ xs) (y ∷ ys) alike) (sym first) (sym rights) shorter)
        | inr not_more ↦ omega arith
      ]
    ] in
    λ i. record { first = first i; pages = pages i; rights = rights i }

-- and so are the lists, once their rests are
joins : (x y : Area) (xs ys : List Area) → IsMaximal (x ∷ xs) → IsMaximal (y ∷ ys) → AreAlike (x ∷ xs) (y ∷ ys) → (AreAlike xs ys → xs ≡ ys) → x ≡ y → (x ∷ xs) ≡ (y ∷ ys)
joins x y xs ys mx my alike rest same =
    let P : Area → Type 0 = λ z. IsMaximal (z ∷ ys) → AreAlike (x ∷ xs) (z ∷ ys) → (x ∷ xs) ≡ (z ∷ ys) in
    subst P same (λ m a. ap (λ zs. x ∷ zs) (rest (rests x xs ys mx m a))) my alike

pub one_list : (one other : List Area) → IsMaximal one → IsMaximal other → ((page : ℕ) → rights_at one page ≡ rights_at other page) → one ≡ other
one_list [] [] mx my alike = refl
one_list [] (y ∷ ys) mx my alike = let there = at_first y ys my in let e = alike y.first in cc
one_list (x ∷ xs) [] mx my alike = let there = at_first x xs mx in let e = alike x.first in cc
one_list (x ∷ xs) (y ∷ ys) mx my alike = joins x y xs ys mx my alike (λ a. one_list xs ys mx.3 my.3 a) (heads x y xs ys mx my alike)
