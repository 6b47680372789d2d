-- Every word changes the parts shard by shard: what relates the parts before and after each change of one shard relates those before
-- and after a store, an access, or a call on a range.
use Rattle.std.proofs.Common.{ℕ, zero, suc, ◌+◌, ◌-◌, ◌/◌, ◌%◌, Bool, true, false, ◌&&◌, not, nat_le, nat_lt, List, length, take, drop, Option, Some, None, if◌then◌else◌}
use Rattle.places.specs.Places.{bytes_of, number_of}
use Rattle.page_ranges.specs.declared.rights.Rights.{Rights}
use Rattle.vm_areas.specs.Painted.{painted}
use Rattle.page_store.specs.Pages.{reads, writes, has_any}
use Rattle.guest_mem.specs.Held.{Held, marked_by}
use Rattle.guest_mem.specs.Held as held
use Rattle.a64_model.specs.Swaps.{outcome, has_outcome}
use Rattle.a64_model.specs.declared.access.Access.{Access}
use Rattle.a64_model.specs.declared.access.Access.TheVariants as access
use Rattle.a64_model.specs.declared.access.SwapOp.{SwapOp}
use Rattle.lx_machine.specs.Ranges.{pages_of, rights_asked}
use Rattle.machine_parts.specs.Parts.{Parts}
use Rattle.shards_stand.specs.Pieces.{part, touched, lacking, bytes_in, change_shard, stored_where, store_at, store_in, store_all}
use Rattle.shards_stand.specs.Accesses.{Accessed, accessed, load, store, store_exclusive, swap, has_mark}
use Rattle.shards_stand.specs.RangeChanges.{on_shards, each_page, each_kept, map_in_room, protect_in_room, map_pages, protect_pages, has_room}
use Rattle.shards_stand.specs.SpaceRows as rows
use Rattle.shards_stand.specs.SpaceRows.{SpaceParts, After, are_mapped, are_free, have_code, fit, rights_fit, gap}

module _ (Rel : Parts → Parts → Type 0) (same : (M : Parts) → Rel M M) (then_ : (M N O : Parts) → Rel M N → Rel N O → Rel M O) (one : (M : Parts) (i : ℕ) (f : Held → Held) → Rel M (change_shard M i f)) where
  either : (b : Bool) (M N O : Parts) → Rel M N → Rel M O → Rel M (if b then N else O)
  either true M N O left right = left
  either false M N O left right = right

  -- ---- stores and accesses

  pub by-stores : (n : ℕ) (M : Parts) (slot at : ℕ) (bytes : List ℕ) → Rel M (store_in n M slot at bytes)
  unfolding store_in
  by-stores zero M slot at bytes = same M
  by-stores (suc n) M slot at bytes =
      let here = part at (length bytes) in
      let next = store_at M slot at (take here bytes) in
      then_ M next (store_in n next slot (at + here) (drop here bytes)) (one M (at / 4096 % 16) (stored_where slot at (take here bytes))) (by-stores n next slot (at + here) (drop here bytes))

  pub by-store : (M : Parts) (slot at : ℕ) (bytes : List ℕ) → Rel M (store_all M slot at bytes)
  by-store M slot at bytes = by-stores (touched at (length bytes)) M slot at bytes

  chosen : (b : Bool) (M : Parts) (x y : Accessed) → Rel M x.parts → Rel M y.parts → Rel M (if b then x else y).parts
  chosen true M x y left right = left
  chosen false M x y left right = right

  loads : (M : Parts) (s : ℕ) (granule : Option ℕ) (at len : ℕ) (marks : Bool) (r : Option ℕ) → Rel M (load M s granule at len marks r).parts
  loads M s granule at len true None = one M (at / 4096 % 16) (λ h. marked_by h s (at / 16))
  loads M s granule at len false None = same M
  loads M s granule at len marks (Some lacks) = same M

  stores : (M : Parts) (s : ℕ) (granule : Option ℕ) (at : ℕ) (bytes : List ℕ) (r : Option ℕ) → Rel M (store M s granule at bytes r).parts
  stores M s granule at bytes None = by-store M s at bytes
  stores M s granule at bytes (Some lacks) = same M

  exclusive : (M : Parts) (s : ℕ) (granule : Option ℕ) (at : ℕ) (bytes : List ℕ) (r : Option ℕ) → Rel M (store_exclusive M s granule at bytes r).parts
  exclusive M s granule at bytes None = chosen (has_mark M s granule at) M _ _ (by-store M s at bytes) (same M)
  exclusive M s granule at bytes (Some lacks) = same M

  swaps : (M : Parts) (s : ℕ) (granule : Option ℕ) (at len : ℕ) (op : SwapOp) (value expected : ℕ) (r : Option ℕ) → Rel M (swap M s granule at len op value expected r).parts
  swaps M s granule at len op value expected None = chosen (has_outcome op (number_of (bytes_in M at len)) expected) M _ _ (by-store M s at (bytes_of (outcome op (number_of (bytes_in M at len)) value) len)) (same M)
  swaps M s granule at len op value expected (Some lacks) = same M

  pub by-access : (M : Parts) (s : ℕ) (granule : Option ℕ) (a : Access) → Rel M (accessed M s granule a).parts
  by-access M s granule access.None = same M
  by-access M s granule (access.Load at len marks) = loads M s granule at len marks (lacking reads M at len)
  by-access M s granule (access.Store at len bytes false) = stores M s granule at (take len bytes) (lacking writes M at len)
  by-access M s granule (access.Store at len bytes true) = exclusive M s granule at (take len bytes) (lacking writes M at len)
  by-access M s granule (access.Swap at len op value expected) = swaps M s granule at len op value expected (lacking writes M at len)
  by-access M s granule access.ClearMark = same M

  -- ---- ranges and calls

  by-shards : (n : ℕ) (f : Held → Held) (M : Parts) → Rel M (on_shards f M n)
  unfolding on_shards
  by-shards zero f M = same M
  by-shards (suc n) f M = then_ M (on_shards f M n) (on_shards f M (suc n)) (by-shards n f M) (one (on_shards f M n) n f)

  by-pages : (change : Held → ℕ → Held) (M : Parts) (first count : ℕ) → Rel M (each_page change M first count)
  unfolding each_page
  by-pages change M first zero = same M
  by-pages change M first (suc count) = then_ M (each_page change M first count) (each_page change M first (suc count)) (by-pages change M first count) (one (each_page change M first count) ((first + count) % 16) (λ h. change h (first + count)))

  by-map : (M : Parts) (first count : ℕ) (rights : Rights) → Rel M (map_pages M first count rights)
  by-map M first count rights = either (has_any rights) M _ _ (by-pages (map_in_room rights) M first count) (by-shards 16 (λ h. each_kept held.unmapped h first count) M)

  by-protect : (M : Parts) (first count : ℕ) (rights : Rights) → Rel M (protect_pages M first count rights)
  by-protect M first count rights = either (has_any rights) M _ _ (by-pages (protect_in_room rights) M first count) (by-shards 16 (λ h. each_kept (λ g p. held.protected g p rights) h first count) M)

  branch : (b : Bool) (M : Parts) (x y : After) → Rel M x.space.parts → Rel M y.space.parts → Rel M (if b then x else y).space.parts
  branch true M x y left right = left
  branch false M x y left right = right

  module _ (G : SpaceParts) where
    pub by-munmap : (first count : ℕ) → Rel G.parts (rows.munmap G first count).space.parts
    by-munmap first count =
        branch (have_code G.areas first count) G.parts _ _ (same G.parts)
        (branch (fit (painted G.areas first count None)) G.parts _ _ (by-shards 16 (λ h. each_kept held.unmapped h first count) G.parts) (same G.parts))

    pub by-mprotect : (first count : ℕ) (rights : Rights) → Rel G.parts (rows.mprotect G first count rights).space.parts
    by-mprotect first count rights =
        branch (not (are_mapped G.areas first count)) G.parts _ _ (same G.parts)
        (branch (have_code G.areas first count) G.parts _ _ (same G.parts)
        (branch (fit (painted G.areas first count (Some rights)) && rights_fit rights G.parts first count) G.parts _ _ (by-protect G.parts first count rights) (same G.parts)))

    by-map_at : (first count : ℕ) (rights : Rights) → Rel G.parts (rows.map_at G first count rights).space.parts
    by-map_at first count rights = branch (fit (painted G.areas first count (Some rights)) && rights_fit rights G.parts first count) G.parts _ _ (by-map G.parts first count rights) (same G.parts)

    by-map_in : (count : ℕ) (rights : Rights) (r : Option ℕ) → Rel G.parts (rows.map_in G count rights r).space.parts
    by-map_in count rights None = same G.parts
    by-map_in count rights (Some first) = by-map_at first count rights

    pub by-mmap : (fixed : Bool) (first count : ℕ) (rights : Rights) → Rel G.parts (rows.mmap G fixed first count rights).space.parts
    by-mmap fixed first count rights =
        branch fixed G.parts _ _ (branch (have_code G.areas first count) G.parts _ _ (same G.parts) (by-map_at first count rights))
        (by-map_in count rights (gap G.areas count 16 0x7fff00000))

    pub by-madvise : (zeroes : Bool) (first count : ℕ) → Rel G.parts (rows.madvise G zeroes first count).space.parts
    by-madvise zeroes first count =
        branch (not (are_mapped G.areas first count)) G.parts _ _ (same G.parts)
        (branch (not zeroes) G.parts _ _ (same G.parts)
        (branch (have_code G.areas first count) G.parts _ _ (same G.parts) (by-shards 16 (λ h. each_kept held.zeroed h first count) G.parts)))

    pub by-brk : (at : ℕ) → Rel G.parts (rows.brk G at).space.parts
    by-brk at =
        branch (nat_lt at G.break_start) G.parts _ _ (same G.parts)
        (branch (nat_le G.break_at at) G.parts _ _
        (branch (are_free G.areas (pages_of G.break_at) (pages_of at - pages_of G.break_at)) G.parts _ _
        (branch (fit (painted G.areas (pages_of G.break_at) (pages_of at - pages_of G.break_at) (Some (rights_asked 3))) && has_room G.parts (pages_of G.break_at) (pages_of at - pages_of G.break_at) 16) G.parts _ _ (by-map G.parts (pages_of G.break_at) (pages_of at - pages_of G.break_at) (rights_asked 3)) (same G.parts))
        (same G.parts))
        (branch (fit (painted G.areas (pages_of at) (pages_of G.break_at - pages_of at) None)) G.parts _ _ (by-shards 16 (λ h. each_kept held.unmapped h (pages_of at) (pages_of G.break_at - pages_of at)) G.parts) (same G.parts)))
