-- Ranges of bytes over several shards: where one lacks a right, its bytes, and what a store leaves, page by page.
-- Source: mmap(2) for the rights of a page, sigaction(2) for the address of a fault; the shards are this project's own.
use Rattle.std.specs.Prelude.{◌≡◌, ◌<◌, ◌≤◌, true, ℕ, zero, suc, ◌+◌, ◌-◌, ◌*◌, ◌/◌, ◌%◌, ◌^◌, ◌==◌, Bool, min, List, [], length, take, drop, Option, Some, None, is_some, slice_index, ◌∷◌, if◌then◌else◌}
use Rattle.std.proofs.Math.Bool.{not}
use Rattle.places.specs.Places as place
use Rattle.page_ranges.specs.declared.rights.Rights.{Rights}
use Rattle.page_store.specs.Pages.{Page, page_for, writes}
use Rattle.lx_memory.specs.declared.right.Right.{Right}
use Rattle.lx_memory.specs.Access.{has, allows}
use Rattle.lx_memory.specs.Bytes.{bytes_of_page}
use Rattle.guest_mem.specs.Held.{Held, stored}
use Rattle.machine_parts.specs.Parts.{Parts, shard_at, put_shard}
use Rattle.shards_stand.specs.Kept.{kept}

-- ---- pages of a range

-- how many of so many bytes from an address on lie in its page
abbrev pub part : ℕ → ℕ → ℕ
part at len = min len (4096 - at % 4096)

-- how many pages a range of one byte or more touches
abbrev pub touched : ℕ → ℕ → ℕ
touched at len = (at % 4096 + len + 4095) / 4096

-- ---- whether a range may be accessed

-- the first of n pages that is not kept or lacks the right
unfoldable pub page_lacking : (Rights → Bool) → Parts → ℕ → ℕ → Option ℕ
page_lacking right M first zero = None
page_lacking right M first (suc n) = if has right (kept M first) then page_lacking right M (first + 1) n else Some first

-- the first byte of a range from `at` on that lies on that page. Addresses are taken modulo 2^64
abbrev pub byte_on : ℕ → Option ℕ → Option ℕ
byte_on at None = None
byte_on at (Some p) = Some (if p == place.page at then at else p * 4096 % 2 ^ 64)

-- the first byte of a range of one byte or more that lacks the right
abbrev pub lacking : (Rights → Bool) → Parts → ℕ → ℕ → Option ℕ
lacking right M at len = byte_on at (page_lacking right M (place.page at) (touched at len))

-- each byte of a range of one byte or more may be accessed so
abbrev pub may_copy : Right → Parts → ℕ → ℕ → Bool
may_copy right M at len = not (is_some (lacking (allows right) M at len))

-- each page of a range of bytes is kept and has the right
abbrev pub AllHave : (Rights → Bool) → Parts → ℕ → ℕ → Type 0
AllHave right M at len = (p : ℕ) → at / 4096 ≤ p → p * 4096 < at + len → has right (kept M p) ≡ true

-- ---- bytes

-- the byte at an address
abbrev pub byte_in : Parts → ℕ → ℕ
byte_in M address = slice_index (bytes_of_page (kept M (place.page address))) (address % 4096)

-- so many bytes from an address on
unfoldable pub bytes_in : Parts → ℕ → ℕ → List ℕ
bytes_in M at zero = []
bytes_in M at (suc len) = byte_in M at ∷ bytes_in M (at + 1) len

-- ---- stores

-- a shard becomes this of what it was, if it is there
abbrev pub changed_shard : Option Held → Parts → ℕ → (Held → Held) → Parts
changed_shard None M i f = M
changed_shard (Some h) M i f = put_shard M i (f h)

-- the shard of an index does
abbrev pub change_shard : Parts → ℕ → (Held → Held) → Parts
change_shard M i f = changed_shard (shard_at M i) M i f

-- a shard after a store, or before it, as its page is one that may be written
abbrev pub where_page : Option Page → Held → Held → Held
where_page None before after = before
where_page (Some page) before after = after

-- a shard where the slot stores bytes in one page, if it may be written
abbrev pub stored_where : ℕ → ℕ → List ℕ → Held → Held
stored_where slot at bytes h = where_page (page_for writes h.pages at) h (stored h slot at bytes)

-- the slot stores bytes in one page, if it may be written
abbrev pub store_at : Parts → ℕ → ℕ → List ℕ → Parts
store_at M slot at bytes = change_shard M (place.shard (place.page at)) (stored_where slot at bytes)

-- the slot stores bytes in a range that touches n pages, in each the part that lies there
unfoldable pub store_in : ℕ → Parts → ℕ → ℕ → List ℕ → Parts
store_in zero M slot at bytes = M
store_in (suc n) M slot at bytes =
    let here = part at (length bytes) in
    store_in n (store_at M slot at (take here bytes)) slot (at + here) (drop here bytes)

-- the slot stores bytes from an address on
abbrev pub store_all : Parts → ℕ → ℕ → List ℕ → Parts
store_all M slot at bytes = store_in (touched at (length bytes)) M slot at bytes
