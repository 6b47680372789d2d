-- The bytes of a range of addresses, and what a store leaves.
-- Source: this project's own: memory is a byte at each address of a mapped page, whatever the page's rights.
use Rattle.std.specs.Prelude.{ℕ, zero, suc, ◌+◌, ◌%◌, ◌<◌, ◌≤◌, List, [], ◌∷◌, Option, Some, None, IsSome, slice_index, slice_set}
use Rattle.std.specs.FinMap as map
use Rattle.places.specs.Places.{page}
use Rattle.page_store.specs.Pages.{Page, Pages, changed}

-- the page of each byte of a range is mapped
abbrev pub IsMapped : Pages → ℕ → ℕ → Type 0
IsMapped pages at len = (address : ℕ) → at ≤ address → address < at + len → IsSome (map.get pages (page address))

-- the bytes of a page; none where it isn't mapped
abbrev pub bytes_of_page : Option Page → List ℕ
bytes_of_page None = []
bytes_of_page (Some page) = page.bytes

-- the byte at an address: that at its place in its page
abbrev pub byte_at : Pages → ℕ → ℕ
byte_at pages address = slice_index (bytes_of_page (map.get pages (page address))) (address % 4096)

-- so many bytes from an address on
unfoldable pub bytes_at : Pages → ℕ → ℕ → List ℕ
bytes_at pages at zero = []
bytes_at pages at (suc len) = byte_at pages at ∷ bytes_at pages (at + 1) len

-- a page with this byte at a place in it
abbrev pub with_byte_in : ℕ → ℕ → Page → Page
with_byte_in place byte page = record { rights = page.rights; bytes = slice_set page.bytes place byte }

-- memory with this byte at an address, where its page is mapped
abbrev pub with_byte : Pages → ℕ → ℕ → Pages
with_byte pages address byte = changed pages (page address) (with_byte_in (address % 4096) byte)

-- memory with these bytes from an address on
unfoldable pub with_bytes : Pages → ℕ → List ℕ → Pages
with_bytes pages at [] = pages
with_bytes pages at (byte ∷ bytes) = with_bytes (with_byte pages at byte) (at + 1) bytes
