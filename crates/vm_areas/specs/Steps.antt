-- What the private functions of this crate compute, area by area.
use Rattle.std.specs.Prelude.{ℕ, Bool, ◌+◌, ◌-◌, ◌&&◌, ◌==◌, min, max, nat_le, nat_lt, if◌then◌else◌, List, [], ◌∷◌, length, Option, Some, None}
use Rattle.std.specs.Option.{option_or}
use Rattle.vm_areas.specs.declared.runs.Area.{Area}
use Rattle.vm_areas.specs.declared.tally.Tally.{Tally}
use Rattle.page_ranges.specs.Ranges.{within}
use Rattle.vm_areas.specs.PageMap.{end_of}
use Rattle.vm_areas.specs.Painted.{clipped, joined_to}

-- an area before those that a change at their far end has left
abbrev pub behind : Area → List Area → List Area → List Area
behind area [] after = joined_to area after
behind area (_ ∷ _) after = area ∷ after

-- areas with one more piece behind them, which is not empty
abbrev pub with_last : List Area → Area → List Area
with_last [] piece = piece ∷ []
with_last (area ∷ areas) piece = behind area areas (with_last areas piece)

-- the same, where an empty piece is left out
abbrev pub with_piece : List Area → Area → List Area
with_piece areas piece = if piece.pages == 0 then areas else with_last areas piece

-- areas with the part of one more area behind them
abbrev pub with_part : ℕ → ℕ → List Area → Area → List Area
with_part from to areas area = with_piece areas (clipped from to area)

-- the last area
abbrev pub last_of : List Area → Option Area
last_of [] = None
last_of (area ∷ areas) = option_or (last_of areas) (Some area)

-- how many areas there are, and the last of them
abbrev pub tally_of : List Area → Tally
tally_of areas = record { count = length areas; last = last_of areas }

-- the page that a walk over mapped pages has reached, past one more area
abbrev pub step_over : ℕ → Area → ℕ
step_over at area = if within area.first area.pages at then end_of area else at

-- whether an area has a page of a range
abbrev pub meets : ℕ → ℕ → Area → Bool
meets from to area = nat_lt 0 (clipped from to area).pages

abbrev pub meets_code : ℕ → ℕ → Area → Bool
meets_code from to area = meets from to area && area.rights.execute

-- the highest place of so many pages from `from` on and below `to`
abbrev pub place_between : ℕ → ℕ → ℕ → Option ℕ
place_between pages from to = if nat_le (from + pages) to then Some (to - pages) else None

-- the highest place of so many pages between areas, from page `from` on
abbrev pub highest_place : ℕ → ℕ → List Area → Option ℕ
highest_place pages from [] = place_between pages from 0x7fff00000
highest_place pages from (area ∷ areas) = option_or (highest_place pages (max from (end_of area)) areas) (place_between pages from (min area.first 0x7fff00000))
