-- The clauses on memory: how the shards and the areas of a machine stand for the pages and the marks of a Linux state, and what
-- holds of the fixed code and the shards alone.
-- Source: mmap(2), mprotect(2), brk(2); the local exclusive monitor, Arm ARM (DDI 0487), B2.9; that pages without rights are not
-- kept, and that no page is both written and executed, is this project's own.
use Rattle.std.specs.Prelude.{◌≡◌, ℕ, ◌/◌, ◌^◌, ◌<◌, ◌≤◌, true, false, is_some, List, length, Option, Some, None}
use Rattle.std.specs.FinMap as map
use Rattle.page_ranges.specs.declared.rights.Rights.{Rights}
use Rattle.vm_areas.specs.declared.runs.Area.{Area}
use Rattle.vm_areas.specs.PageMap.{rights_at, IsAreas}
use Rattle.page_store.specs.Pages.{Page, Pages, blank, page_if}
use Rattle.lx_memory.specs.declared.right.Right.TheVariants.{Execute}
use Rattle.lx_memory.specs.Access.{allows, rights_of}
use Rattle.guest_mem.specs.Held.{Held}
use Rattle.machine_parts.specs.Parts.{Parts, shard_at}
use Rattle.shards_stand.specs.Kept.{kept, marked, standing}

-- ---- shards and Linux pages

-- no right at all
abbrev pub no_rights : Rights
no_rights = record { read = false; write = false; execute = false }

-- a page that has had no right since it was mapped
abbrev pub bare : Page
bare = record { rights = no_rights; bytes = blank }

-- a kept page is the Linux page of that number; a Linux page that is not kept has no right, and its bytes are 0
abbrev pub PageStands : Option Page → Option Page → Type 0
PageStands (Some page) linux = linux ≡ Some page
PageStands None None = Unit {0}
PageStands None (Some page) = page ≡ bare

-- the clause Shards. `granules`: what each slot's thread keeps as its latest mark; `marks`: the marks of the Linux threads. A
-- Linux thread's mark is the kept granule where the shard's mark of that slot stands there
pub record MemoryStands (M : Parts) (granules : ℕ → Option ℕ) (pages : Pages) (marks : ℕ → Option ℕ) : Type 0 where
  pub pages_stand : (p : ℕ) → PageStands (kept M p) (map.get pages p)
  pub marks_stand : (s : ℕ) → marks s ≡ standing M s (granules s)

-- ---- areas and Linux pages

-- the areas are the maximal runs of the Linux pages of equal rights, all of them in the address space
pub record AreasStand (areas : List Area) (pages : Pages) : Type 0 where
  pub areas_are : IsAreas areas
  pub rights_are : (p : ℕ) → rights_at areas p ≡ rights_of pages p
  pub below : (p : ℕ) → 2 ^ 52 ≤ p → rights_at areas p ≡ None

-- ---- the fixed code and the shards alone

-- the shard of an index is there, with a place for the mark of each of the 128 slots
abbrev pub IsShardOf : ℕ → Option Held → Type 0
IsShardOf i None = ⊥
IsShardOf i (Some h) = (h.index ≡ i) × (length h.marks ≡ 128)

-- the 16 shards are there; a kept page has 4096 bytes; a mark stands on a kept page alone; no page is kept past the address
-- space; the fixed code is exactly the kept pages with the right to execute, and none of them may be written
pub record MemorySound (code : Pages) (M : Parts) : Type 0 where
  pub there : (i : ℕ) → i < 16 → IsShardOf i (shard_at M i)
  pub whole : (p : ℕ) (page : Page) → kept M p ≡ Some page → length page.bytes ≡ 4096
  pub marks_kept : (s g : ℕ) → marked M s g ≡ true → is_some (kept M (g / 256)) ≡ true
  pub in_space : (p : ℕ) → 2 ^ 52 ≤ p → kept M p ≡ None
  pub code_is : (p : ℕ) → map.get code p ≡ page_if (allows Execute) (kept M p)
  pub code_fixed : (p : ℕ) (page : Page) → map.get code p ≡ Some page → page.rights.write ≡ false

-- both: the clause, and what holds of the shards alone
pub record Stays (code : Pages) (M : Parts) (granules : ℕ → Option ℕ) (pages : Pages) (marks : ℕ → Option ℕ) : Type 0 where
  pub stands : MemoryStands M granules pages marks
  pub sound : MemorySound code M
