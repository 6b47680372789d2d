-- What holds of the pages of a range.
use Rattle.std.specs.Prelude.{◌≡◌, ℕ, ◌+◌, ◌<◌, ◌≤◌, List, None, IsSome, IsSomeAnd, IsTrue}
use Rattle.vm_areas.specs.declared.runs.Area.{Area}
use Rattle.page_ranges.specs.Ranges.{EachPage}
use Rattle.vm_areas.specs.PageMap.{rights_at}

abbrev pub IsMappedAt : List Area → ℕ → Type 0
IsMappedAt areas page = IsSome (rights_at areas page)

abbrev pub IsFreeAt : List Area → ℕ → Type 0
IsFreeAt areas page = rights_at areas page ≡ None

abbrev pub IsExecutableAt : List Area → ℕ → Type 0
IsExecutableAt areas page = IsSomeAnd (rights_at areas page) (λ rights. IsTrue rights.execute)

-- a free range of so many pages where a new area may lie: from page 16 on, and ending at or below
-- page 0x7fff00000. The bounds are this project's own
pub record IsRoom (areas : List Area) (pages first : ℕ) : Type 0 where
  pub from : 16 ≤ first
  pub below : first + pages ≤ 0x7fff00000
  pub free : EachPage first pages (IsFreeAt areas)

-- the highest of them
pub record IsHighestRoom (areas : List Area) (pages first : ℕ) : Type 0 where
  pub room : IsRoom areas pages first
  pub highest : (other : ℕ) → first < other → IsRoom areas pages other → ⊥

abbrev pub HasNoRoom : List Area → ℕ → Type 0
HasNoRoom areas pages = (first : ℕ) → IsRoom areas pages first → ⊥
