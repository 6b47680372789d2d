-- What a memory keeps.
use Rattle.std.specs.Prelude.{◌≡◌, ℕ, zero, suc, ◌+◌, ◌^◌, ◌≤◌, Option, Some, None}
use Rattle.std.specs.FinMap as map
use Rattle.page_store.specs.Pages.{Page, Pages}
use Rattle.lx_memory.specs.declared.change.Change.{Change}
use Rattle.lx_memory.specs.declared.change.Change.TheVariants.{Unmap, Protect, Zero}
use Rattle.lx_memory.specs.Ranges.{away, given, cleared}

-- no page past the last one that 64-bit addresses have is mapped
abbrev pub IsInSpace : Pages → Type 0
IsInSpace pages = (number : ℕ) → 2 ^ 52 ≤ number → map.get pages number ≡ None

-- 1 where no page is mapped
abbrev pub one_if_free : Option Page → ℕ
one_if_free None = 1
one_if_free (Some _) = 0

-- how many pages of a range aren't mapped
abbrev pub free_count : Pages → ℕ → ℕ → ℕ
free_count pages first zero = 0
free_count pages first (suc count) = one_if_free (map.get pages first) + free_count pages (first + 1) count

-- what a change makes of the page at a number
abbrev pub becomes : Change → Option Page → Option Page
becomes Unmap = away
becomes (Protect rights) = given rights
becomes Zero = cleared
