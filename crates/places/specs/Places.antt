-- Where an address lies, and the little-endian bytes of a number.
-- Source: pages are those of mmap(2) at 4096 bytes; granules are the exclusive reservation granules of the
-- Arm ARM (DDI 0487, B2.9); little-endian order is that of ELF-64 (e_ident, ELFDATA2LSB) and of A64 loads.
-- The 16 shards and the 64 chains are this project's own.
use Rattle.std.specs.Prelude.{ℕ, ◌/◌, ◌%◌, List, length, drop}
use Rattle.byteorder.specs.Endian.{little_bytes, little_number}

-- the page of an address: 4096 bytes
abbrev pub page : ℕ → ℕ
page address = address / 4096

-- the shard of a page: one of 16
abbrev pub shard : ℕ → ℕ
shard p = p % 16

-- the granule of an address: 16 aligned bytes
abbrev pub granule : ℕ → ℕ
granule address = address / 16

-- the umtx chain of the word at an address: one of 64
abbrev pub chain : ℕ → ℕ
chain address = address / 4 % 64

-- the k little-endian bytes of n
abbrev pub bytes_of : ℕ → ℕ → List ℕ
bytes_of n k = little_bytes k n

-- the number of these little-endian bytes
abbrev pub number_of : List ℕ → ℕ
number_of bytes = little_number (length bytes) bytes

-- the number in the k little-endian bytes from place `at` on
abbrev pub number_at : List ℕ → ℕ → ℕ → ℕ
number_at bytes at k = little_number k (drop at bytes)
