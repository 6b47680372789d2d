-- The first pages: each is laid into its shard, at first empty, mapped with its rights, filled, and given its rights again.
-- Source: execve(2), mmap(2); that a segment's pages without rights are kept, and that no page is both written and executed, is
-- this project's own.
use Rattle.std.specs.Prelude.{◌≡◌, ℕ, ◌*◌, ◌-◌, ◌/◌, ◌<◌, ◌≤◌, false, List, [], ◌∷◌, length, Some}
use Rattle.std.specs.FinMap as map
use Rattle.places.specs.Places as place
use Rattle.vm_areas.specs.declared.runs.Area.{Area}
use Rattle.vm_areas.specs.Painted.{painted}
use Rattle.page_store.specs.Pages.{Page, Pages, AreWhole, page_if}
use Rattle.lx_memory.specs.Access.{allows}
use Rattle.lx_memory.specs.Codes.{IsGuarded}
use Rattle.lx_memory.specs.Space.{IsInSpace}
use Rattle.lx_memory.specs.declared.right.Right.TheVariants.{Execute}
use Rattle.elf_image.specs.declared.parts.Image.{Image}
use Rattle.elf_image.specs.declared.parts.Segment.{Segment}
use Rattle.lx_machine.specs.Stack.{stack_end}
use Rattle.lx_machine.specs.Start.{first_page, end_page, last_end, rights_of, stack_rights, code_rights}
use Rattle.guest_mem.specs.Held.{Held, started}
use Rattle.machine_parts.specs.Parts.{Parts, shard_at}
use Rattle.shards_stand.specs.Kept.{kept, marked}
use Rattle.shards_stand.specs.Clause.{IsShardOf}
use Rattle.shards_stand.specs.Pieces.{change_shard}
use Rattle.shards_stand.specs.SpaceRows.{SpaceParts}

-- a page with its number
pub record Numbered : Type 0 where
  pub number : ℕ
  pub page : Page

-- a shard that keeps the page besides
abbrev pub with_page_laid : Numbered → Held → Held
with_page_laid n h = record { index = h.index; pages = map.insert h.pages n.number n.page; marks = h.marks; spare = h.spare - 1 }

-- the pages are laid, each into its shard
unfoldable pub lay : List Numbered → Parts → Parts
lay [] M = M
lay (n ∷ ns) M = change_shard (lay ns M) (place.shard n.number) (with_page_laid n)

-- the pages by their numbers
unfoldable pub pages_laid : List Numbered → Pages
pages_laid [] = map.empty
pages_laid (n ∷ ns) = map.insert (pages_laid ns) n.number n.page

-- the 16 shards keep nothing, and each has room for its share
abbrev pub AreStarted : ℕ → Parts → Type 0
AreStarted share M = (i : ℕ) → i < 16 → shard_at M i ≡ Some (started i share)

-- ---- what the first shards and pages are

-- the shards keep exactly these pages, and no mark stands
pub record HasFirst (M : Parts) (pages : Pages) : Type 0 where
  pub there : (i : ℕ) → i < 16 → IsShardOf i (shard_at M i)
  pub kept_are : (p : ℕ) → kept M p ≡ map.get pages p
  pub unmarked : (s g : ℕ) → marked M s g ≡ false

-- each page has 4096 bytes and lies in the address space, and none may be both written and executed
pub record AreFirst (pages : Pages) : Type 0 where
  pub whole : AreWhole pages
  pub in_space : IsInSpace pages
  pub guarded : IsGuarded pages

-- the fixed code: the pages with the right to execute
abbrev pub IsCodeOf : Pages → Pages → Type 0
IsCodeOf code pages = (p : ℕ) → map.get code p ≡ page_if (allows Execute) (map.get pages p)

-- ---- the first areas: those of the segments, of the stack, and of the page above it

-- a segment's pages are mapped
abbrev pub with_segment : List Area → Segment → List Area
with_segment areas s = painted areas (first_page s) (end_page s - first_page s) (Some (rights_of s))

-- those of each segment are
abbrev pub with_segments : List Area → List Segment → List Area
with_segments areas [] = areas
with_segments areas (s ∷ ss) = with_segments (with_segment areas s) ss

-- the stack's 64 pages are
abbrev pub with_stack : List Area → List Area
with_stack areas = painted areas (stack_end / 4096 - 64) 64 (Some stack_rights)

-- the page above it is
abbrev pub with_return_page : List Area → List Area
with_return_page areas = painted areas (stack_end / 4096) 1 (Some code_rights)

-- the areas of Start
abbrev pub first_areas : Image → List Area
first_areas image = with_return_page (with_stack (with_segments [] image.segments))

-- at each segment they are no more than an address space holds
abbrev pub SegmentsFit : List Area → List Segment → Type 0
SegmentsFit areas [] = Unit {0}
SegmentsFit areas (s ∷ ss) = (length (with_segment areas s) ≤ 1024) × SegmentsFit (with_segment areas s) ss

-- so the areas of Start fit, one after the other
pub record FirstFit (image : Image) : Type 0 where
  pub segments : SegmentsFit [] image.segments
  pub stack : length (with_stack (with_segments [] image.segments)) ≤ 1024
  pub return_page : length (first_areas image) ≤ 1024

-- the address space of a machine that starts an image: the break stands at the page behind the highest segment
abbrev pub first_parts : Parts → Image → SpaceParts
first_parts M image = record {
  parts = M;
  areas = first_areas image;
  break_at = last_end image.segments * 4096;
  break_start = last_end image.segments * 4096;
}
