-- How instructions and calls look at memory. Source: mmap(2), mprotect(2); the limit of the address space is this
-- project's own.
use Rattle.std.specs.Prelude.{ℕ, zero, suc, ◌-◌, ◌^◌, ◌%◌, Bool, true, ◌&&◌, nat_le, Option, Some, None, is_some, if◌then◌else◌}
use Rattle.std.proofs.Math.Bool.{not}
use Rattle.std.specs.FinMap as map
use Rattle.lx_memory.specs.Access.{has, lacks, allows}
use Rattle.lx_memory.specs.declared.right.Right.{Right}
use Rattle.lx_memory.specs.declared.right.Right.TheVariants.{Execute}
use Rattle.page_store.specs.Pages.{Page, Pages}

-- the first byte of a range that may not be accessed so, if there is one
abbrev pub first_lacking : Right → Pages → ℕ → ℕ → Option ℕ
first_lacking right pages at zero = None
first_lacking right pages at (suc len) =
    if lacks pages (allows right) at then Some (at % 2 ^ 64) else first_lacking right pages (suc at) len

-- Allowed: each byte of the range may be accessed so
abbrev pub is_allowed : Right → Pages → ℕ → ℕ → Bool
is_allowed right pages at len = not (is_some (first_lacking right pages at len))

-- the test holds of each page of a range
abbrev pub all_pages : (Option Page → Bool) → Pages → ℕ → ℕ → Bool
all_pages test pages first zero = true
all_pages test pages first (suc count) = test (map.get pages first) && all_pages test pages (suc first) count

-- each page of a range is mapped; none is
abbrev pub all_mapped : Pages → ℕ → ℕ → Bool
all_mapped pages first count = all_pages is_some pages first count

abbrev pub is_free : Option Page → Bool
is_free page = not (is_some page)

abbrev pub all_free : Pages → ℕ → ℕ → Bool
all_free pages first count = all_pages is_free pages first count

-- some page of a range is mapped with the right to execute
abbrev pub no_code : Option Page → Bool
no_code page = not (has (allows Execute) page)

abbrev pub any_executable : Pages → ℕ → ℕ → Bool
any_executable pages first count = not (all_pages no_code pages first count)

-- the greatest first page, below this one and not below `low`, of so many free pages, if there is one
abbrev pub highest_gap_below : Pages → ℕ → ℕ → ℕ → Option ℕ
highest_gap_below pages count low zero = None
highest_gap_below pages count low (suc first) =
    if nat_le low first && all_free pages first count then Some first else highest_gap_below pages count low first

-- the same among the ranges that end at or below `high`
abbrev pub highest_gap : Pages → ℕ → ℕ → ℕ → Option ℕ
highest_gap pages count low high = if nat_le count high then highest_gap_below pages count low (suc (high - count)) else None
