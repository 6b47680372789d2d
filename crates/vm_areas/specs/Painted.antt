-- The areas after a change of the rights of a range of pages (mmap(2), mprotect(2), munmap(2)).
use Rattle.std.specs.Prelude.{◌≡◌, ℕ, Bool, ◌+◌, ◌-◌, ◌^◌, ◌≤◌, ◌&&◌, ◌==◌, min, max, if◌then◌else◌, List, [], ◌∷◌, ◌++◌, map, Option, Some, None}
use Rattle.vm_areas.specs.declared.runs.Area.{Area}
use Rattle.page_ranges.specs.declared.rights.Rights.{Rights}
use Rattle.page_ranges.specs.Ranges.{within}
use Rattle.page_ranges.specs.RightsRules.{same_rights}
use Rattle.vm_areas.specs.PageMap.{end_of, rights_at, IsMaximal}

-- the part of an area that lies from page `from` on and below page `to`
abbrev pub clipped : ℕ → ℕ → Area → Area
clipped from to area = record { first = max area.first from; pages = min (end_of area) to - max area.first from; rights = area.rights }

-- whether two areas are parts of one run
abbrev pub touches : Area → Area → Bool
touches area next = (end_of area == next.first) && same_rights area.rights next.rights

-- an area that has grown by the next one
abbrev pub grown : Area → Area → Area
grown area next = record { first = area.first; pages = area.pages + next.pages; rights = area.rights }

-- a piece before the areas behind it: one run with the first of them where it touches it
abbrev pub joined_to : Area → List Area → List Area
joined_to piece [] = piece ∷ []
joined_to piece (next ∷ areas) = if touches piece next then grown piece next ∷ areas else piece ∷ next ∷ areas

-- the same, where an empty piece is left out
abbrev pub join : Area → List Area → List Area
join piece areas = if piece.pages == 0 then areas else joined_to piece areas

-- the areas that pieces in order make
abbrev pub joined : List Area → List Area
joined [] = []
joined (piece ∷ pieces) = join piece (joined pieces)

-- a range with these rights; nothing where they are none
abbrev pub range_of : ℕ → ℕ → Option Rights → List Area
range_of first pages None = []
range_of first pages (Some rights) = record { first = first; pages = pages; rights = rights } ∷ []

-- the areas once each page of a range has these rights, or, for none, once no page of it is mapped:
-- what lies below the range, the range itself, and what lies behind it
unfoldable pub painted : List Area → ℕ → ℕ → Option Rights → List Area
painted areas first pages rights = joined (map (clipped 0 first) areas ++ (range_of first pages rights ++ map (clipped (first + pages) (2 ^ 53)) areas))

-- these are the areas after that change and no others: maximal runs with the new rights at each page of
-- the range and the old ones at each other page
pub record IsPainted (old : List Area) (first pages : ℕ) (rights : Option Rights) (new : List Area) : Type 0 where
  pub maximal : IsMaximal new
  pub at_page : (page : ℕ) → rights_at new page ≡ (if within first pages page then rights else rights_at old page)

-- `painted` are the areas after a change: the old page map painted over the range, page by page
abbrev pub IsPaintedByAChange : Type 0
IsPaintedByAChange = (old : List Area) (first pages : ℕ) (rights : Option Rights) → IsMaximal old → first + pages ≤ 2 ^ 53 → IsPainted old first pages rights (painted old first pages rights)

-- there is one list of areas after a change, and `painted` is it
abbrev pub OneResultOfAChange : Type 0
OneResultOfAChange = (old new : List Area) (first pages : ℕ) (rights : Option Rights) → IsMaximal old → first + pages ≤ 2 ^ 53 → IsPainted old first pages rights new → new ≡ painted old first pages rights

-- a change of no pages changes nothing
abbrev pub NoPagesNoChange : Type 0
NoPagesNoChange = (areas : List Area) (first : ℕ) (rights : Option Rights) → IsMaximal areas → first ≤ 2 ^ 53 → painted areas first 0 rights ≡ areas
