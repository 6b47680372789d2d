-- The kept pages in order, in two parts: those below the place of the last change, and those above it from the highest one
-- down.
use Rattle.std.specs.Prelude.{◌≡◌, ℕ, ◌+◌, ◌<◌, ◌≤◌, slice_index_or, List, ◌++◌, reverse, vec_len, vec_capacity}
use Rattle.page_ranges.specs.declared.rights.Rights.{Rights}
use Rattle.page_store.specs.declared.kept_row.Kept.{Kept}
use Rattle.page_store.specs.declared.kept_row.KeptRow.{KeptRow}

-- all of them
abbrev pub entries : KeptRow → List Kept
entries row = row.below.items ++ reverse row.above.items

-- how many there are
abbrev pub count : KeptRow → ℕ
count row = vec_len row.below + vec_len row.above

-- the page with these rights
abbrev pub allowing : Rights → Kept → Kept
allowing rights kept = record { page = kept.page; rights = rights; frame = kept.frame }

-- either part has room for so many pages
pub record HasRoom (wanted : ℕ) (row : KeptRow) : Type 0 where
  pub below : wanted ≤ vec_capacity row.below
  pub above : wanted ≤ vec_capacity row.above

pub record HasSameRoom (old new : KeptRow) : Type 0 where
  pub below : vec_capacity new.below ≡ vec_capacity old.below
  pub above : vec_capacity new.above ≡ vec_capacity old.above

-- the same pages, of which others may lie below the border
pub record IsMoved (old new : KeptRow) : Type 0 where
  pub items : entries new ≡ entries old
  pub same_count : count new ≡ count old
  pub room : HasSameRoom old new

-- so many pages from a place on have the numbers from the first on
abbrev pub IsRun : List Kept → ℕ → ℕ → ℕ → Type 0
IsRun kept place first n = (j : ℕ) (d : Kept) → j < n → (slice_index_or kept (place + j) d).page ≡ first + j
