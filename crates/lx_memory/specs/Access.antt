-- Which accesses are allowed, and the address that one lacks its right at.
-- Source: mmap(2) and mprotect(2) for the rights of a page, sigaction(2) for the address of a fault (si_addr).
use Rattle.std.specs.Prelude.{◌≡◌, ℕ, ◌+◌, ◌%◌, ◌^◌, ◌<◌, ◌≤◌, ◌||◌, Bool, true, false, not, nat_le, Option, Some, None, option_map}
use Rattle.std.specs.FinMap as map
use Rattle.places.specs.Places.{page}
use Rattle.places.specs.Allowed.{Allowed}
use Rattle.page_ranges.specs.declared.rights.Rights.{Rights}
use Rattle.page_store.specs.Pages.{Page, Pages}
use Rattle.lx_memory.specs.declared.right.Right.{Right}
use Rattle.lx_memory.specs.declared.right.Right.TheVariants.{Read, Write, Execute}

-- whether the rights of a page have this one
abbrev pub allows : Right → Rights → Bool
allows Read rights = rights.read
allows Write rights = rights.write
allows Execute rights = rights.execute

-- the rights of a page; none where it isn't mapped
abbrev pub rights_of : Pages → ℕ → Option Rights
rights_of pages number = option_map (λ p. p.rights) (map.get pages number)

-- whether a page is mapped and has the right
abbrev pub has : (Rights → Bool) → Option Page → Bool
has right None = false
has right (Some page) = right page.rights

-- whether the byte at an address may not be accessed: its page isn't mapped or lacks the right, or the address lies
-- past the end of the address space
abbrev pub lacks : Pages → (Rights → Bool) → ℕ → Bool
lacks pages right address = nat_le (2 ^ 64) address || not (has right (map.get pages (page address)))

-- the first byte of a range that may not be accessed
pub record IsFirstWithout (pages : Pages) (right : Rights → Bool) (at len first : ℕ) : Type 0 where
  pub from : at ≤ first
  pub below : first < at + len
  pub lacking : lacks pages right first ≡ true
  pub before : (address : ℕ) → at ≤ address → address < first → lacks pages right address ≡ false

-- none exactly where the whole range may be accessed, and else the address of the first byte that may not. Addresses
-- are taken modulo 2^64, so behind the last byte of the address space that is 0
abbrev pub IsFirstLacking : Pages → (Rights → Bool) → ℕ → ℕ → Option ℕ → Type 0
IsFirstLacking pages right at len None = Allowed (rights_of pages) at len right
IsFirstLacking pages right at len (Some address) = (first : ℕ) × IsFirstWithout pages right at len first × (address ≡ first % 2 ^ 64)

-- the first page of a range that isn't mapped or lacks the right
abbrev pub IsFirstPageWithout : Pages → (Rights → Bool) → ℕ → ℕ → Option ℕ → Type 0
IsFirstPageWithout pages right first count None = (p : ℕ) → first ≤ p → p < first + count → has right (map.get pages p) ≡ true
IsFirstPageWithout pages right first count (Some least) = (first ≤ least) × (least < first + count) × (has right (map.get pages least) ≡ false) × ((p : ℕ) → first ≤ p → p < least → has right (map.get pages p) ≡ true)
