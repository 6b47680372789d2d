-- Areas as the runs of a page map. Pages are numbered from 0. Each range of them ends at or below page 2^53,
-- which lies past the 2^52 pages of 4096 bytes that 64-bit addresses have.
-- Source: this project's own; rights are those of mmap(2).
use Rattle.std.specs.Prelude.{◌≡◌, ◌≢◌, ℕ, ◌+◌, ◌^◌, ◌<◌, ◌≤◌, if◌then◌else◌, List, [], ◌∷◌, length, Option, Some, None}
use Rattle.vm_areas.specs.declared.runs.Area.{Area}
use Rattle.page_ranges.specs.declared.rights.Rights.{Rights}
use Rattle.page_ranges.specs.Ranges.{within}

-- the first page after an area
abbrev pub end_of : Area → ℕ
end_of area = area.first + area.pages

-- the rights at a page: those of the area that holds it, and none where no area does
abbrev pub rights_at : List Area → ℕ → Option Rights
rights_at [] page = None
rights_at (area ∷ areas) page = if within area.first area.pages page then Some area.rights else rights_at areas page

-- the next area lies behind this one, with other rights where it touches it
abbrev pub IsApart : Area → List Area → Type 0
IsApart area [] = Unit {0}
IsApart area (next ∷ _) = (end_of area ≤ next.first) × (end_of area ≡ next.first → area.rights ≢ next.rights)

-- areas in order, ending at or below page 2^53, none of them empty, each as long as the pages with equal rights reach
abbrev pub IsMaximal : List Area → Type 0
IsMaximal [] = Unit {0}
IsMaximal (area ∷ areas) = (0 < area.pages) × (end_of area ≤ 2 ^ 53) × IsApart area areas × IsMaximal areas

-- what an address space holds: at most 1024 areas
pub record IsAreas (areas : List Area) : Type 0 where
  pub maximal : IsMaximal areas
  pub few : length areas ≤ 1024

-- two lists of areas with the same rights at each page are one list
abbrev pub OneListForAPageMap : Type 0
OneListForAPageMap = (one other : List Area) → IsMaximal one → IsMaximal other → ((page : ℕ) → rights_at one page ≡ rights_at other page) → one ≡ other
