-- The highest place between areas is the highest free range.
use Rattle.std.proofs.Common.{◌≡◌, ℕ, Bool, false, ◌+◌, ◌-◌, ◌<◌, ◌≤◌, min, max, refl, sym, ◌∙◌, ap, subst, arith, inl, inr, List, [], ◌∷◌, Option, Some, None, if◌then◌else◌, nat_le, leb-true, leb-false, le_refl, length, drop, drop-cons, get_or, add-one}
use Rattle.std.specs.Option.{option_or, MatchOption}
use Rattle.std.proofs.lemmas.Bool.{cases_Bool, cases_lt}
use Rattle.vm_areas.specs.declared.runs.Area.{Area}
use Rattle.page_ranges.specs.Ranges.{within}
use Rattle.vm_areas.specs.PageMap.{end_of, rights_at, IsMaximal}
use Rattle.page_ranges.specs.Ranges.{EachPage}
use Rattle.vm_areas.specs.Ranges.{IsFreeAt, IsRoom, IsHighestRoom, HasNoRoom}
use Rattle.vm_areas.specs.Steps.{place_between, highest_place}
use Rattle.vm_areas.proofs.Maximal.{within-true, within-behind, rights_at-head, rights_at-tail, rights_at-before}

-- a free range of so many pages from page `low` on
record IsFreeRange (areas : List Area) (pages low first : ℕ) : Type 0 where
  from : low ≤ first
  below : first + pages ≤ 0x7fff00000
  free : EachPage first pages (IsFreeAt areas)

record IsHighest (areas : List Area) (pages low first : ℕ) : Type 0 where
  range : IsFreeRange areas pages low first
  highest : (other : ℕ) → first < other → IsFreeRange areas pages low other → ⊥

abbrev IsAnswer : List Area → ℕ → ℕ → Option ℕ → Type 0
IsAnswer areas pages low None = (first : ℕ) → IsFreeRange areas pages low first → ⊥
IsAnswer areas pages low (Some first) = IsHighest areas pages low first

-- a place between two pages is the highest there, and there is none where they are too close
abbrev IsPlace : ℕ → ℕ → ℕ → Option ℕ → Type 0
IsPlace pages from to None = to < from + pages
IsPlace pages from to (Some first) = (first + pages ≡ to) × (from ≤ first)

is_place : (pages from to : ℕ) → IsPlace pages from to (place_between pages from to)
is_place pages from to =
    elim (cases_Bool (nat_le (from + pages) to)) [
      | inl e ↦ (let le = leb-true (from + pages) to e in subst (λ (b : Bool). IsPlace pages from to (if b then Some (to - pages) else None)) (sym e) (omega arith, omega arith))
      | inr e ↦ (let lt = leb-false (from + pages) to e in subst (λ (b : Bool). IsPlace pages from to (if b then Some (to - pages) else None)) (sym e) lt)
    ]

-- no areas: each range is free
with_no_areas : (pages low : ℕ) (o : Option ℕ) → IsPlace pages low 0x7fff00000 o → IsAnswer [] pages low o
with_no_areas pages low None place = λ first range. omega (arith, range.from, range.below)
with_no_areas pages low (Some first) place = record {
  range = record { from = place.1; below = omega arith; free = λ page from below. refl };
  highest = λ other above range. omega (arith, range.below);
}

free_rest : (area : Area) (areas : List Area) (page : ℕ) → rights_at (area ∷ areas) page ≡ None → (within area.first area.pages page ≡ false) × (rights_at areas page ≡ None)
free_rest area areas page free =
    elim (cases_Bool (within area.first area.pages page)) [
      | inl e ↦ (let there = rights_at-head area areas page e in cc)
      | inr e ↦ (e, sym (rights_at-tail area areas page e) ∙ free)
    ]

-- a free range, which is not empty, lies before an area or behind it
before_or_behind : (area : Area) (areas : List Area) (pages first : ℕ) → 0 < pages → 0 < area.pages → EachPage first pages (IsFreeAt (area ∷ areas)) → first < end_of area → first + pages ≤ area.first
before_or_behind area areas pages first some some_area free before =
    elim (cases_lt area.first (first + pages)) [
      | inl meets ↦
          (let page = max first area.first in
          let held = rights_at-head area areas page (within-true area.first area.pages page (omega arith) (omega arith)) in
          let none = free page (omega arith) (omega arith) in
          cc)
      | inr apart ↦ apart
    ]

-- a free range behind the area is free among the rest
to_rest : (area : Area) (areas : List Area) (pages low first : ℕ) → end_of area ≤ first → IsFreeRange (area ∷ areas) pages low first → IsFreeRange areas pages (max low (end_of area)) first
to_rest area areas pages low first behind range = record {
  from = omega (arith, range.from);
  below = range.below;
  free = λ page from below. (free_rest area areas page (range.free page from below)).1;
}

from_rest : (area : Area) (areas : List Area) (pages low first : ℕ) → IsFreeRange areas pages (max low (end_of area)) first → IsFreeRange (area ∷ areas) pages low first
from_rest area areas pages low first range = record {
  from = omega (arith, range.from);
  below = range.below;
  free = λ page from below. rights_at-tail area areas page (within-behind area.first area.pages page (omega (arith, range.from))) ∙ range.free page from below;
}

-- one more area before the others
one_more : (area : Area) (areas : List Area) (pages low : ℕ) (later here : Option ℕ) → 0 < pages → IsMaximal (area ∷ areas) → IsAnswer areas pages (max low (end_of area)) later → IsPlace pages low (min area.first 0x7fff00000) here → IsAnswer (area ∷ areas) pages low (option_or later here)
one_more area areas pages low (Some first) here some maximal later place = record {
  range = from_rest area areas pages low first later.range;
  highest = λ other above range. later.highest other above (to_rest area areas pages low other (omega (arith, later.range.from)) range);
}
one_more area areas pages low None (Some first) some maximal later place = record {
  range = record {
    from = place.1;
    below = omega arith;
    free = λ page from below. rights_at-before (area ∷ areas) area.first page maximal (le_refl area.first) (omega arith);
  };
  highest = λ other above range. elim (cases_lt other (end_of area)) [
    | inl before ↦ (let apart = before_or_behind area areas pages other some maximal.0 range.free before in omega (arith, range.below))
    | inr behind ↦ later other (to_rest area areas pages low other behind range)
  ];
}
one_more area areas pages low None None some maximal later place = λ first range. elim (cases_lt first (end_of area)) [
  | inl before ↦ (let apart = before_or_behind area areas pages first some maximal.0 range.free before in omega (arith, range.below, range.from))
  | inr behind ↦ later first (to_rest area areas pages low first behind range)
]

is_answer : (areas : List Area) (pages low : ℕ) → 0 < pages → IsMaximal areas → IsAnswer areas pages low (highest_place pages low areas)
is_answer [] pages low some maximal = with_no_areas pages low (place_between pages low 0x7fff00000) (is_place pages low 0x7fff00000)
is_answer (area ∷ areas) pages low some maximal =
    one_more area areas pages low (highest_place pages (max low (end_of area)) areas) (place_between pages low (min area.first 0x7fff00000)) some maximal
    (is_answer areas pages (max low (end_of area)) some maximal.3) (is_place pages low (min area.first 0x7fff00000))

to_range : (areas : List Area) (pages first : ℕ) → IsRoom areas pages first → IsFreeRange areas pages 16 first
to_range areas pages first room = record { from = room.from; below = room.below; free = room.free }

as_rooms : (areas : List Area) (pages : ℕ) (o : Option ℕ) → IsAnswer areas pages 16 o → MatchOption o (HasNoRoom areas pages) (IsHighestRoom areas pages)
as_rooms areas pages None answer = λ first room. answer first (to_range areas pages first room)
as_rooms areas pages (Some first) answer = record {
  room = record { from = answer.range.from; below = answer.range.below; free = answer.range.free };
  highest = λ other above room. answer.highest other above (to_range areas pages other room);
}

pub highest_room : (areas : List Area) (pages : ℕ) → 0 < pages → IsMaximal areas → MatchOption (highest_place pages 16 areas) (HasNoRoom areas pages) (IsHighestRoom areas pages)
highest_room areas pages some maximal = as_rooms areas pages (highest_place pages 16 areas) (is_answer areas pages 16 some maximal)

option_or-assoc : (x y z : Option ℕ) → option_or (option_or x y) z ≡ option_or x (option_or y z)
option_or-assoc None y z = refl
option_or-assoc (Some v) y z = refl

-- a step of the walk keeps the answer
pub walk_step : (pages from i : ℕ) (areas : List Area) (best answer : Option ℕ) (d : Area) → i < length areas → option_or (highest_place pages from (drop i areas)) best ≡ answer → option_or (highest_place pages (max from (end_of (get_or areas i d))) (drop (i + 1) areas)) (option_or (place_between pages from (min (get_or areas i d).first 0x7fff00000)) best) ≡ answer
walk_step pages from i areas best answer d lt is =
    let area = get_or areas i d in
    let cut : drop i areas ≡ area ∷ drop (i + 1) areas = rw add-one (drop-cons areas i d lt) in
    sym (option_or-assoc (highest_place pages (max from (end_of area)) (drop (i + 1) areas)) (place_between pages from (min area.first 0x7fff00000)) best)
    ∙ ap (λ (r : List Area). option_or (highest_place pages from r) best) (sym cut)
    ∙ is
