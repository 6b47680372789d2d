-- A call on a range, where all shards are held, is that of the whole machine.
use Rattle.std.proofs.Common.{◌≡◌, ℕ, zero, suc, ◌-◌, ◌*◌, ◌%◌, ◌≤◌, Bool, true, false, ◌&&◌, not, nat_le, nat_lt, List, Option, Some, None, Ok, if◌then◌else◌, refl, sym, ap, subst, ◌∙◌, arith}
use Rattle.page_ranges.specs.declared.rights.Rights.{Rights}
use Rattle.vm_areas.specs.declared.runs.Area.{Area}
use Rattle.vm_areas.specs.Painted.{painted}
use Rattle.page_store.specs.Pages.{has_any}
use Rattle.guest_mem.specs.Held.{Held}
use Rattle.guest_mem.specs.Held as held
use Rattle.lx_machine.specs.Ranges.{pages_of, rights_asked}
use Rattle.machine_parts.specs.Parts.{Parts, shard_at}
use Rattle.shards_stand.specs.RangeChanges.{on_shards, each_page, each_kept, map_in_room, protect_in_room, map_pages, protect_pages, room_in, has_room}
use Rattle.shards_stand.specs.SpaceRows as rows
use Rattle.shards_stand.specs.SpaceRows.{SpaceParts, After, Refusal, have_code, are_mapped, are_free, fit, rights_fit, gap}
use Rattle.shards_stand.specs.SpaceRows.Refusal.{NoAccess, NoMemory}
use Rattle.shards_stand.specs.Holding.{HoldsShards, AreParts, IsLocal, IsCallLocal}
use Rattle.shards_stand.proofs.Local.{local-refl, shards-local, pages-local}

module _ (h M : Parts) (parts : AreParts h M) (all : HoldsShards h) where
  room-same : (first count n : ℕ) → n ≤ 16 → has_room h first count n ≡ has_room M first count n
  unfolding has_room
  room-same first count zero few = refl
  room-same first count (suc n) few =
      ap (λ (b : Bool). b && room_in (shard_at h n) n first count) (room-same first count n (omega arith))
      ∙ ap (λ (o : Option Held). has_room M first count n && room_in o n first count) (sym (parts n (all n (omega arith))))

  fit-same : (rights : Rights) (first count : ℕ) → rights_fit rights h first count ≡ rights_fit rights M first count
  fit-same rights first count = ap (λ (b : Bool). if has_any rights then b else true) (room-same first count 16 (omega arith))

  each-shard : (f : Held → Held) → IsLocal h M (on_shards f h 16) (on_shards f M 16)
  each-shard f = shards-local 16 f h M parts all

  each-page : (change : Held → ℕ → Held) (first count : ℕ) → IsLocal h M (each_page change h first count) (each_page change M first count)
  each-page change first count = pages-local count change h M first parts (λ p from below. all (p % 16) (omega arith))

  either : (b : Bool) (x y x' y' : Parts) → IsLocal h M x x' → IsLocal h M y y' → IsLocal h M (if b then x else y) (if b then x' else y')
  either true x y x' y' one other = one
  either false x y x' y' one other = other

  map-local : (first count : ℕ) (rights : Rights) → IsLocal h M (map_pages h first count rights) (map_pages M first count rights)
  map-local first count rights = either (has_any rights) _ _ _ _ (each-page (map_in_room rights) first count) (each-shard (λ g. each_kept held.unmapped g first count))

  protect-local : (first count : ℕ) (rights : Rights) → IsLocal h M (protect_pages h first count rights) (protect_pages M first count rights)
  protect-local first count rights = either (has_any rights) _ _ _ _ (each-page (protect_in_room rights) first count) (each-shard (λ g. each_kept (λ x p. held.protected x p rights) g first count))

-- what the process keeps is the same, and the shards are those of the machine
module _ (G : SpaceParts) (M : Parts) (parts : AreParts G.parts M) (all : HoldsShards G.parts) where
  abbrev whole : SpaceParts
  whole = record G { parts = M }

  still : (n : ℕ) (short : Bool) → IsCallLocal G.parts M (rows.stays G n short) (rows.stays whole n short)
  still n short = record { parts_are = local-refl G.parts M parts; areas_are = refl; break_is = refl; start_is = refl; answer_is = refl; short_is = refl }

  refusal : (e : Refusal) (short : Bool) → IsCallLocal G.parts M (rows.refuses G e short) (rows.refuses whole e short)
  refusal e short = record { parts_are = local-refl G.parts M parts; areas_are = refl; break_is = refl; start_is = refl; answer_is = refl; short_is = refl }

  -- the parts, the areas and the break after a change
  done : (x x' : Parts) (areas : List Area) (at n : ℕ) → IsLocal G.parts M x x' → IsCallLocal G.parts M (record { space = record G { parts = x; areas = areas; break_at = at }; answer = Ok n; short = false }) (record { space = record whole { parts = x'; areas = areas; break_at = at }; answer = Ok n; short = false })
  done x x' areas at n is = record { parts_are = is; areas_are = refl; break_is = refl; start_is = refl; answer_is = refl; short_is = refl }

  branch : (b : Bool) (x y x' y' : After) → IsCallLocal G.parts M x x' → IsCallLocal G.parts M y y' → IsCallLocal G.parts M (if b then x else y) (if b then x' else y')
  branch true x y x' y' one other = one
  branch false x y x' y' one other = other

  -- the same test, told of what is held and of the machine
  branch-same : (b c : Bool) (x y x' y' : After) → b ≡ c → IsCallLocal G.parts M x x' → IsCallLocal G.parts M y y' → IsCallLocal G.parts M (if b then x else y) (if c then x' else y')
  branch-same b c x y x' y' same one other = subst (λ (d : Bool). IsCallLocal G.parts M (if b then x else y) (if d then x' else y')) same (branch b x y x' y' one other)

  pub munmap-local : (first count : ℕ) → IsCallLocal G.parts M (rows.munmap G first count) (rows.munmap whole first count)
  munmap-local first count =
      branch (have_code G.areas first count) _ _ _ _ (refusal NoAccess false)
      (branch (fit (painted G.areas first count None)) _ _ _ _ (done _ _ (painted G.areas first count None) G.break_at 0 (each-shard G.parts M parts all (λ g. each_kept held.unmapped g first count))) (refusal NoMemory true))

  pub mprotect-local : (first count : ℕ) (rights : Rights) → IsCallLocal G.parts M (rows.mprotect G first count rights) (rows.mprotect whole first count rights)
  mprotect-local first count rights =
      branch (not (are_mapped G.areas first count)) _ _ _ _ (refusal NoMemory false)
      (branch (have_code G.areas first count) _ _ _ _ (refusal NoAccess false)
      (branch-same (fit (painted G.areas first count (Some rights)) && rights_fit rights G.parts first count) (fit (painted G.areas first count (Some rights)) && rights_fit rights M first count) _ _ _ _
      (ap (λ (b : Bool). fit (painted G.areas first count (Some rights)) && b) (fit-same G.parts M parts all rights first count))
      (done _ _ (painted G.areas first count (Some rights)) G.break_at 0 (protect-local G.parts M parts all first count rights)) (refusal NoMemory true)))

  map_at-local : (first count : ℕ) (rights : Rights) → IsCallLocal G.parts M (rows.map_at G first count rights) (rows.map_at whole first count rights)
  map_at-local first count rights =
      branch-same (fit (painted G.areas first count (Some rights)) && rights_fit rights G.parts first count) (fit (painted G.areas first count (Some rights)) && rights_fit rights M first count) _ _ _ _
      (ap (λ (b : Bool). fit (painted G.areas first count (Some rights)) && b) (fit-same G.parts M parts all rights first count))
      (done _ _ (painted G.areas first count (Some rights)) G.break_at (first * 4096) (map-local G.parts M parts all first count rights)) (refusal NoMemory true)

  map_in-local : (count : ℕ) (rights : Rights) (r : Option ℕ) → IsCallLocal G.parts M (rows.map_in G count rights r) (rows.map_in whole count rights r)
  map_in-local count rights None = refusal NoMemory false
  map_in-local count rights (Some first) = map_at-local first count rights

  pub mmap-local : (fixed : Bool) (first count : ℕ) (rights : Rights) → IsCallLocal G.parts M (rows.mmap G fixed first count rights) (rows.mmap whole fixed first count rights)
  mmap-local fixed first count rights =
      branch fixed _ _ _ _ (branch (have_code G.areas first count) _ _ _ _ (refusal NoAccess false) (map_at-local first count rights))
      (map_in-local count rights (gap G.areas count 16 0x7fff00000))

  pub madvise-local : (zeroes : Bool) (first count : ℕ) → IsCallLocal G.parts M (rows.madvise G zeroes first count) (rows.madvise whole zeroes first count)
  madvise-local zeroes first count =
      branch (not (are_mapped G.areas first count)) _ _ _ _ (refusal NoMemory false)
      (branch (not zeroes) _ _ _ _ (still 0 false)
      (branch (have_code G.areas first count) _ _ _ _ (refusal NoAccess false) (done _ _ G.areas G.break_at 0 (each-shard G.parts M parts all (λ g. each_kept held.zeroed g first count)))))

  raise-local : (at : ℕ) → IsCallLocal G.parts M (rows.raise G at) (rows.raise whole at)
  raise-local at =
      let first = pages_of G.break_at in
      let count = pages_of at - first in
      branch (are_free G.areas first count) _ _ _ _
      (branch-same (fit (painted G.areas first count (Some (rights_asked 3))) && has_room G.parts first count 16) (fit (painted G.areas first count (Some (rights_asked 3))) && has_room M first count 16) _ _ _ _
      (ap (λ (b : Bool). fit (painted G.areas first count (Some (rights_asked 3))) && b) (room-same G.parts M parts all first count 16 (omega arith)))
      (done _ _ (painted G.areas first count (Some (rights_asked 3))) at at (map-local G.parts M parts all first count (rights_asked 3))) (still G.break_at true))
      (still G.break_at false)

  lower-local : (at : ℕ) → IsCallLocal G.parts M (rows.lower G at) (rows.lower whole at)
  lower-local at =
      let first = pages_of at in
      let count = pages_of G.break_at - first in
      branch (fit (painted G.areas first count None)) _ _ _ _
      (done _ _ (painted G.areas first count None) at at (each-shard G.parts M parts all (λ g. each_kept held.unmapped g first count))) (still G.break_at true)

  pub brk-local : (at : ℕ) → IsCallLocal G.parts M (rows.brk G at) (rows.brk whole at)
  brk-local at = branch (nat_lt at G.break_start) _ _ _ _ (still G.break_at false) (branch (nat_le G.break_at at) _ _ _ _ (raise-local at) (lower-local at))
