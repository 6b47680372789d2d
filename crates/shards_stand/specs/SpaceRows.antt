-- What brk, mmap, munmap, mprotect and madvise do to the areas, the break and the shards, once the tests at their entry have
-- passed. `short` says that a shard's room or the areas would be passed, and then nothing changes.
-- Source: brk(2), mmap(2), munmap(2), mprotect(2), madvise(2). That code can't be changed, that the highest free range is taken,
-- and the bounds are this project's own.
use Rattle.std.specs.Prelude.{◌≡◌, ℕ, zero, suc, ◌-◌, ◌*◌, ◌<◌, ◌≤◌, Bool, true, false, ◌&&◌, nat_lt, nat_le, List, length, Option, Some, None, is_some, if◌then◌else◌, Result, Ok, Err}
use Rattle.std.proofs.Math.Bool.{not}
use Rattle.std.specs.FinMap as map
use Rattle.vm_areas.specs.declared.runs.Area.{Area}
use Rattle.page_ranges.specs.declared.rights.Rights.{Rights}
use Rattle.vm_areas.specs.PageMap.{rights_at}
use Rattle.vm_areas.specs.Painted.{painted}
use Rattle.page_store.specs.Pages.{Pages, has_any}
use Rattle.linux_abi.specs.declared.errno.LinuxErrno.TheVariants as errno
use Rattle.lx_machine.specs.Calls.{answered, refused}
use Rattle.lx_machine.specs.Ranges.{SpaceOutcome, pages_of, rights_asked}
use Rattle.lx_machine.specs.declared.calls.LxCall.{LxCall}
use Rattle.lx_machine.specs.declared.space.Space.{Space}
use Rattle.machine_parts.specs.Parts.{Parts}
use Rattle.shards_stand.specs.Clause.{MemoryStands, MemorySound, AreasStand}
use Rattle.shards_stand.specs.RangeChanges.{unmap_pages, zero_pages, map_pages, protect_pages, has_room}
use Rattle.shards_stand.specs.SlotMarks.{wrote}

-- the parts, and what the process keeps of the address space: its areas, its break, and where that started
pub record SpaceParts : Type 0 where
  pub parts : Parts
  pub areas : List Area
  pub break_at : ℕ
  pub break_start : ℕ

-- why a call is refused: a page of the range is code (EACCES), or pages or room are wanting (ENOMEM)
pub data Refusal : Type 0 where
  NoAccess : Refusal
  NoMemory : Refusal

-- what a call leaves, what it answers, and whether it does so for want of room
pub record After : Type 0 where
  pub space : SpaceParts
  pub answer : Result ℕ Refusal
  pub short : Bool

-- ---- how the areas look at a range

-- the test holds of each page of a range
unfoldable pub each_number : (ℕ → Bool) → ℕ → ℕ → Bool
each_number test first zero = true
each_number test first (suc count) = test first && each_number test (suc first) count

-- the page is mapped with the right to execute
abbrev pub executes : Option Rights → Bool
executes None = false
executes (Some rights) = rights.execute

-- each page of a range is mapped
abbrev pub are_mapped : List Area → ℕ → ℕ → Bool
are_mapped areas first count = each_number (λ p. is_some (rights_at areas p)) first count

-- no page of it is mapped
abbrev pub are_free : List Area → ℕ → ℕ → Bool
are_free areas first count = each_number (λ p. not (is_some (rights_at areas p))) first count

-- some page of it may be executed
abbrev pub have_code : List Area → ℕ → ℕ → Bool
have_code areas first count = not (each_number (λ p. not (executes (rights_at areas p))) first count)

-- the greatest first page, below this one and not below `low`, of so many free pages, if there is one
abbrev pub gap_below : List Area → ℕ → ℕ → ℕ → Option ℕ
gap_below areas count low zero = None
gap_below areas count low (suc first) =
    if nat_le low first && are_free areas first count then Some first else gap_below areas count low first

-- the same among the ranges that end at or below `high`
abbrev pub gap : List Area → ℕ → ℕ → ℕ → Option ℕ
gap areas count low high = if nat_le count high then gap_below areas count low (suc (high - count)) else None

-- no more areas than an address space holds
abbrev pub fit : List Area → Bool
fit areas = nat_le (length areas) 1024

-- the shards have room for a range with these rights; without any right it takes none
abbrev pub rights_fit : Rights → Parts → ℕ → ℕ → Bool
rights_fit rights M first count = if has_any rights then has_room M first count 16 else true

-- ---- how a call ends

-- the call answers a number, and nothing changes
abbrev pub stays : SpaceParts → ℕ → Bool → After
stays G n short = record { space = G; answer = Ok n; short = short }

-- the call is refused, and nothing changes
abbrev pub refuses : SpaceParts → Refusal → Bool → After
refuses G e short = record { space = G; answer = Err e; short = short }

-- the parts, the areas and the break are these, and the call answers a number
abbrev pub changes : SpaceParts → Parts → List Area → ℕ → ℕ → After
changes G M areas at n = record { space = record G { parts = M; areas = areas; break_at = at }; answer = Ok n; short = false }

-- ---- the calls, on the pages from `first` on

-- munmap(2)
abbrev pub munmap : SpaceParts → ℕ → ℕ → After
munmap G first count =
    if have_code G.areas first count then refuses G NoAccess false else (
    if fit (painted G.areas first count None)
    then changes G (unmap_pages G.parts first count) (painted G.areas first count None) G.break_at 0
    else refuses G NoMemory true)

-- mprotect(2)
abbrev pub mprotect : SpaceParts → ℕ → ℕ → Rights → After
mprotect G first count rights =
    if not (are_mapped G.areas first count) then refuses G NoMemory false else (
    if have_code G.areas first count then refuses G NoAccess false else (
    if fit (painted G.areas first count (Some rights)) && rights_fit rights G.parts first count
    then changes G (protect_pages G.parts first count rights) (painted G.areas first count (Some rights)) G.break_at 0
    else refuses G NoMemory true))

-- a mapping is made, whatever was there
abbrev pub map_at : SpaceParts → ℕ → ℕ → Rights → After
map_at G first count rights =
    if fit (painted G.areas first count (Some rights)) && rights_fit rights G.parts first count
    then changes G (map_pages G.parts first count rights) (painted G.areas first count (Some rights)) G.break_at (first * 4096)
    else refuses G NoMemory true

-- with MAP_FIXED, unless code is there
abbrev pub map_fixed : SpaceParts → ℕ → ℕ → Rights → After
map_fixed G first count rights = if have_code G.areas first count then refuses G NoAccess false else map_at G first count rights

-- without it, in the free range that was found
abbrev pub map_in : SpaceParts → ℕ → Rights → Option ℕ → After
map_in G count rights (Some first) = map_at G first count rights
map_in G count rights None = refuses G NoMemory false

-- from page 16 on, and ending at or below page 0x7fff00000
abbrev pub map_free : SpaceParts → ℕ → Rights → After
map_free G count rights = map_in G count rights (gap G.areas count 16 0x7fff00000)

-- mmap(2)
abbrev pub mmap : SpaceParts → Bool → ℕ → ℕ → Rights → After
mmap G fixed first count rights = if fixed then map_fixed G first count rights else map_free G count rights

-- madvise(2). `zeroes`: the advice is MADV_DONTNEED; no other does anything
abbrev pub madvise : SpaceParts → Bool → ℕ → ℕ → After
madvise G zeroes first count =
    if not (are_mapped G.areas first count) then refuses G NoMemory false else (
    if not zeroes then stays G 0 false else (
    if have_code G.areas first count then refuses G NoAccess false
    else changes G (zero_pages G.parts first count) G.areas G.break_at 0))

-- the break moves up where the pages that it gets are free
abbrev pub raise : SpaceParts → ℕ → After
raise G at =
    let first = pages_of G.break_at in
    let count = pages_of at - first in
    if are_free G.areas first count then (
    if fit (painted G.areas first count (Some (rights_asked 3))) && has_room G.parts first count 16
    then changes G (map_pages G.parts first count (rights_asked 3)) (painted G.areas first count (Some (rights_asked 3))) at at
    else stays G G.break_at true)
    else stays G G.break_at false

-- it moves down, and the pages above it are given up
abbrev pub lower : SpaceParts → ℕ → After
lower G at =
    let first = pages_of at in
    let count = pages_of G.break_at - first in
    if fit (painted G.areas first count None)
    then changes G (unmap_pages G.parts first count) (painted G.areas first count None) at at
    else stays G G.break_at true

-- brk(2): below its start the break stays
abbrev pub brk : SpaceParts → ℕ → After
brk G at =
    if nat_lt at G.break_start then stays G G.break_at false else (
    if nat_le G.break_at at then raise G at else lower G at)

-- ---- what it stands for

-- no page of the heap, from the break's start to the break, is code
abbrev pub HasNoCode : Pages → ℕ → ℕ → Type 0
HasNoCode code start at = (p : ℕ) → pages_of start ≤ p → p < pages_of at → map.get code p ≡ None

-- the clauses Shards and Process of the address space
pub record SpaceStands (code : Pages) (G : SpaceParts) (granules marks : ℕ → Option ℕ) (L : Space) : Type 0 where
  pub memory : MemoryStands G.parts granules L.pages marks
  pub areas_stand : AreasStand G.areas L.pages
  pub break_is : L.break_at ≡ G.break_at
  pub start_is : L.break_start ≡ G.break_start
  pub heap : HasNoCode code G.break_start G.break_at

-- the Linux call once it has this answer
abbrev pub with_answer : LxCall → Result ℕ Refusal → LxCall
with_answer c (Ok n) = answered c n
with_answer c (Err NoAccess) = refused c errno.EACCES
with_answer c (Err NoMemory) = refused c errno.ENOMEM

-- the outcome that the label names: that of memory which ran short, or the call's effect
abbrev pub labelled : After → SpaceOutcome → SpaceOutcome → SpaceOutcome
labelled m short effect = if m.short then short else effect

-- a call of the thread in a slot: its answer is the Linux one, what it leaves stands for what the Linux call leaves, and the pages
-- that it gave up or made zeros count as written by the slot
pub record CallStands (code : Pages) (slot : ℕ) (granules marks : ℕ → Option ℕ)
    (c : LxCall) (m : After) (o : SpaceOutcome) : Type 0 where
  pub call_is : o.call ≡ with_answer c m.answer
  pub space_stands : SpaceStands code m.space granules (wrote slot (o.first * 4096) (o.count * 4096) marks) o.space
  pub sound : MemorySound code m.space.parts
