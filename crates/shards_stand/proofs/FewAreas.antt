-- A change of a range makes at most two areas more, so an image of at most 64 segments starts with few.
use Rattle.std.proofs.Common.{◌≡◌, ℕ, ◌+◌, ◌^◌, ◌≤◌, Bool, true, false, ◌==◌, List, [], ◌∷◌, ◌++◌, map, length, Option, Some, None, if◌then◌else◌, refl, ap, arith, inl, inr}
use Rattle.std.proofs.lemmas.Bool.{cases_lt}
use Rattle.std.proofs.lemmas.List.{length-map}
use Rattle.page_ranges.specs.declared.rights.Rights.{Rights}
use Rattle.vm_areas.specs.declared.runs.Area.{Area}
use Rattle.vm_areas.specs.PageMap.{end_of, IsApart, IsMaximal}
use Rattle.vm_areas.specs.Painted.{clipped, touches, grown, joined_to, join, joined, range_of, painted}

-- the pieces that are not empty
abbrev one_if_some : Area → ℕ
one_if_some piece = if piece.pages == 0 then 0 else 1

some_pieces : List Area → ℕ
some_pieces [] = 0
some_pieces (piece ∷ pieces) = one_if_some piece + some_pieces pieces

one-most : (b : Bool) → (if b then 0 else 1) ≤ 1
one-most true = omega arith
one-most false = omega arith

some-most : (pieces : List Area) → some_pieces pieces ≤ length pieces
unfolding some_pieces
some-most [] = omega arith
some-most (piece ∷ pieces) = omega (arith, some-most pieces, one-most (piece.pages == 0))

some-append : (xs ys : List Area) → some_pieces (xs ++ ys) ≡ some_pieces xs + some_pieces ys
unfolding some_pieces
some-append [] ys = omega arith
some-append (x ∷ xs) ys = omega (arith, some-append xs ys)

-- ---- areas in a row

joined_to-most : (piece : Area) (areas : List Area) → length (joined_to piece areas) ≤ 1 + length areas
joined_to-most piece [] = omega arith
joined_to-most piece (next ∷ areas) = by (touches piece next)
  where
    by : (b : Bool) → length (if b then grown piece next ∷ areas else piece ∷ next ∷ areas) ≤ 1 + length (next ∷ areas)
    by true = omega arith
    by false = omega arith

join-most : (piece : Area) (areas : List Area) → length (join piece areas) ≤ one_if_some piece + length areas
join-most piece areas = by (piece.pages == 0)
  where
    by : (b : Bool) → length (if b then areas else joined_to piece areas) ≤ (if b then 0 else 1) + length areas
    by true = omega arith
    by false = joined_to-most piece areas

joined-most : (pieces : List Area) → length (joined pieces) ≤ some_pieces pieces
unfolding some_pieces
joined-most [] = omega arith
joined-most (piece ∷ pieces) = omega (arith, join-most piece (joined pieces), joined-most pieces)

-- ---- what lies below and behind a range

one-none : (piece : Area) → piece.pages ≡ 0 → one_if_some piece ≡ 0
one-none piece none = ap (λ (n : ℕ). if n == 0 then 0 else 1) none

abbrev StartsFrom : ℕ → List Area → Type 0
StartsFrom at [] = Unit {0}
StartsFrom at (area ∷ areas) = at ≤ area.first

starts-behind : (area : Area) (areas : List Area) (at : ℕ) → at ≤ end_of area → IsApart area areas → StartsFrom at areas
starts-behind area [] at le apart = tt
starts-behind area (next ∷ areas) at le apart = omega (arith, apart.0)

none-below : (areas : List Area) (first : ℕ) → IsMaximal areas → StartsFrom first areas → some_pieces (map (clipped 0 first) areas) ≡ 0
unfolding some_pieces
none-below [] first maximal from = refl
none-below (area ∷ areas) first maximal from =
    let rest = none-below areas first maximal.3 (starts-behind area areas first (omega arith) maximal.2) in
    omega (arith, rest, one-none (clipped 0 first area) (omega arith))

-- an area is cut in two at most once
both-most : (areas : List Area) (first end : ℕ) → first ≤ end → IsMaximal areas → some_pieces (map (clipped 0 first) areas) + some_pieces (map (clipped end (2 ^ 53)) areas) ≤ length areas + 1
unfolding some_pieces
both-most [] first end le maximal = omega arith
both-most (area ∷ areas) first end le maximal =
    let low = one_if_some (clipped 0 first area) in
    let high = one_if_some (clipped end (2 ^ 53) area) in
    let low-one : low ≤ 1 = one-most ((clipped 0 first area).pages == 0) in
    let high-one : high ≤ 1 = one-most ((clipped end (2 ^ 53) area).pages == 0) in
    let rest = both-most areas first end le maximal.3 in
    elim (cases_lt end (end_of area)) [
      | inl behind ↦
          let none = none-below areas first maximal.3 (starts-behind area areas first (omega arith) maximal.2) in
          let more : some_pieces (map (clipped end (2 ^ 53)) areas) ≤ length areas = omega (arith, some-most (map (clipped end (2 ^ 53)) areas), length-map areas (clipped end (2 ^ 53))) in
          omega (arith, none, more, low-one, high-one)
      | inr before ↦
          let empty : high ≡ 0 = one-none (clipped end (2 ^ 53) area) (omega arith) in
          omega (arith, rest, low-one, empty)
    ]

range-most : (first count : ℕ) (rights : Option Rights) → some_pieces (range_of first count rights) ≤ 1
unfolding some_pieces
range-most first count None = omega arith
range-most first count (Some rights) = omega (arith, one-most (count == 0))

-- a change of a range makes at most two areas more
pub painted-few : (areas : List Area) (first count : ℕ) (rights : Option Rights) → IsMaximal areas → length (painted areas first count rights) ≤ length areas + 2
unfolding painted
painted-few areas first count rights maximal =
    let low = map (clipped 0 first) areas in
    let range = range_of first count rights in
    let high = map (clipped (first + count) (2 ^ 53)) areas in
    omega (arith, joined-most (low ++ (range ++ high)), some-append low (range ++ high), some-append range high, range-most first count rights, both-most areas first (first + count) (omega arith) maximal)
