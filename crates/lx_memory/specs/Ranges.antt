-- What a call on a range of pages leaves.
-- Source: mmap(2), munmap(2), mprotect(2), and madvise(2) for MADV_DONTNEED, which leaves zeros.
use Rattle.std.specs.Prelude.{◌≡◌, ℕ, zero, suc, ◌+◌, Option, Some, None, option_map, if◌then◌else◌}
use Rattle.std.specs.FinMap as map
use Rattle.page_ranges.specs.declared.rights.Rights.{Rights}
use Rattle.page_ranges.specs.Ranges.{within}
use Rattle.page_store.specs.Pages.{Page, Pages, blank, blanked, with_rights}

-- a page of zeros with these rights, whatever was there (mmap(2), MAP_ANONYMOUS and MAP_FIXED)
abbrev pub anew : Rights → Option Page → Option Page
anew rights _ = Some record { rights = rights; bytes = blank }

-- no page, whatever was there (munmap(2))
abbrev pub away : Option Page → Option Page
away _ = None

-- the page with these rights, if it is mapped (mprotect(2))
abbrev pub given : Rights → Option Page → Option Page
given rights old = option_map (with_rights rights) old

-- the page as zeros with its rights, if it is mapped (madvise(2), MADV_DONTNEED)
abbrev pub cleared : Option Page → Option Page
cleared old = option_map blanked old

-- the pages with this one at a number, or with none there
abbrev pub with_page : Pages → ℕ → Option Page → Pages
with_page pages number None = map.remove pages number
with_page pages number (Some page) = map.insert pages number page

-- the pages where each page of a range has become this of what it was
unfoldable pub on_each : (Option Page → Option Page) → Pages → ℕ → ℕ → Pages
on_each change pages first zero = pages
on_each change pages first (suc count) = with_page (on_each change pages first count) (first + count) (change (map.get pages (first + count)))

-- the same, read page by page: in the range it is this of what was there, elsewhere what was there
abbrev pub IsOnEach : (Option Page → Option Page) → Pages → ℕ → ℕ → Pages → Type 0
IsOnEach change old first count new = (number : ℕ) → map.get new number ≡ (if within first count number then change (map.get old number) else map.get old number)

-- each page of the range is mapped with these rights, as zeros
abbrev pub mapped : Pages → ℕ → ℕ → Rights → Pages
mapped pages first count rights = on_each (anew rights) pages first count

-- no page of the range is mapped
abbrev pub unmapped : Pages → ℕ → ℕ → Pages
unmapped pages first count = on_each away pages first count

-- each mapped page of the range has these rights; its bytes stay
abbrev pub protected : Pages → ℕ → ℕ → Rights → Pages
protected pages first count rights = on_each (given rights) pages first count

-- each mapped page of the range is zeros; its rights stay
abbrev pub zeroed : Pages → ℕ → ℕ → Pages
zeroed pages first count = on_each cleared pages first count
