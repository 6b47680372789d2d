-- What a call on a range of pages does to the shards, and the room that it needs.
-- Source: mmap(2), munmap(2), mprotect(2), and madvise(2) for MADV_DONTNEED; that pages without rights take no room is this
-- project's own.
use Rattle.std.specs.Prelude.{ℕ, zero, suc, ◌+◌, ◌==◌, Bool, true, ◌&&◌, not, nat_le, Option, Some, None, if◌then◌else◌}
use Rattle.std.specs.FinMap as map
use Rattle.places.specs.Places as place
use Rattle.page_ranges.specs.declared.rights.Rights.{Rights}
use Rattle.page_store.specs.Pages.{has_any}
use Rattle.guest_mem.specs.Held.{Held, unmapped, zeroed, mapped, protected}
use Rattle.machine_parts.specs.Parts.{Parts, shard_at}
use Rattle.shards_stand.specs.Pieces.{change_shard}

-- ---- pages in turn

-- a page of a shard is changed, if it is kept
abbrev pub if_kept : (Held → ℕ → Held) → Held → ℕ → Held
if_kept change h p = if map.contains_key h.pages p then change h p else h

-- each page of a range that a shard keeps is changed
unfoldable pub each_kept : (Held → ℕ → Held) → Held → ℕ → ℕ → Held
each_kept change h first zero = h
each_kept change h first (suc count) = if_kept change (each_kept change h first count) (first + count)

-- each of the first n shards is changed
unfoldable pub on_shards : (Held → Held) → Parts → ℕ → Parts
on_shards f M zero = M
on_shards f M (suc n) = change_shard (on_shards f M n) n f

-- each page of a range is changed in its shard
unfoldable pub each_page : (Held → ℕ → Held) → Parts → ℕ → ℕ → Parts
each_page change M first zero = M
each_page change M first (suc count) =
    change_shard (each_page change M first count) (place.shard (first + count)) (λ h. change h (first + count))

-- a shard doesn't keep the page, and has no room for it
abbrev pub is_full : Held → ℕ → Bool
is_full h p = not (map.contains_key h.pages p) && h.spare == 0

-- a page is mapped, where there is room
abbrev pub map_in_room : Rights → Held → ℕ → Held
map_in_room rights h p = if is_full h p then h else mapped h p rights

-- a page gets its rights, where there is room
abbrev pub protect_in_room : Rights → Held → ℕ → Held
protect_in_room rights h p = if is_full h p then h else protected h p rights

-- ---- the changes

-- each page of a range is given up
abbrev pub unmap_pages : Parts → ℕ → ℕ → Parts
unmap_pages M first count = on_shards (λ h. each_kept unmapped h first count) M 16

-- each kept page of a range becomes zeros
abbrev pub zero_pages : Parts → ℕ → ℕ → Parts
zero_pages M first count = on_shards (λ h. each_kept zeroed h first count) M 16

-- each page of a range is kept as zeros with the rights; pages without any right are not kept
abbrev pub map_pages : Parts → ℕ → ℕ → Rights → Parts
map_pages M first count rights = if has_any rights then each_page (map_in_room rights) M first count else unmap_pages M first count

-- each page of a range has the rights: with none of them, kept pages alone change, and stay kept
abbrev pub protect_pages : Parts → ℕ → ℕ → Rights → Parts
protect_pages M first count rights =
    if has_any rights then each_page (protect_in_room rights) M first count
    else on_shards (λ h. each_kept (λ g p. protected g p rights) h first count) M 16

-- ---- room

-- 1 where the test holds
abbrev pub ones : Bool → ℕ
ones b = if b then 1 else 0

-- how many pages of a range lie in the shard of this index and are not kept there
unfoldable pub needed : Held → ℕ → ℕ → ℕ → ℕ
needed h i first zero = 0
needed h i first (suc count) =
    needed h i first count + ones (place.shard (first + count) == i && not (map.contains_key h.pages (first + count)))

-- the shard of this index has room for all pages of a range that lie in it
abbrev pub room_in : Option Held → ℕ → ℕ → ℕ → Bool
room_in None i first count = true
room_in (Some h) i first count = nat_le (needed h i first count) h.spare

-- each of the first n shards has room for all pages of a range that lie in it
unfoldable pub has_room : Parts → ℕ → ℕ → ℕ → Bool
has_room M first count zero = true
has_room M first count (suc n) = has_room M first count n && room_in (shard_at M n) n first count
