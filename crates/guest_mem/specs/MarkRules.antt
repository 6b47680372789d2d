-- The exclusive marks of the slots: one granule or none for each.
-- Source: the local exclusive monitor, Arm ARM (DDI 0487), B2.9.
use Rattle.std.specs.Prelude.{◌≡◌, ℕ, ◌/◌, ◌≤◌, ◌==◌, ◌&&◌, nat_le, List, map, slice_index_or, slice_set, Option, Some, None, if◌then◌else◌}

-- a write to the granules from first to last ends a mark on one of them
abbrev pub mark_after : ℕ → ℕ → Option ℕ → Option ℕ
mark_after first last None = None
mark_after first last (Some granule) = if nat_le first granule && nat_le granule last then None else Some granule

-- every slot's mark on those granules ends, but that of the slot that writes
abbrev pub marks_after : List (Option ℕ) → ℕ → ℕ → ℕ → List (Option ℕ)
marks_after marks slot first last = slice_set (map (mark_after first last) marks) slot (slice_index_or marks slot None)

-- a mark on a granule of the page ends; a page has 256 granules
abbrev pub mark_off : ℕ → Option ℕ → Option ℕ
mark_off page None = None
mark_off page (Some granule) = if granule / 256 == page then None else Some granule

-- every slot's mark on the page ends
abbrev pub marks_off : List (Option ℕ) → ℕ → List (Option ℕ)
marks_off marks page = map (mark_off page) marks

-- each marked granule is from low to high
abbrev pub IsWithin : List (Option ℕ) → ℕ → ℕ → Type 0
IsWithin marks low high = (slot granule : ℕ) → slice_index_or marks slot None ≡ Some granule → (low ≤ granule) × (granule ≤ high)
