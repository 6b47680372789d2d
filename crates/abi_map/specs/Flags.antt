-- Flags of open files and of mappings, between Linux and FreeBSD. A bit that a table doesn't name is dropped.
-- Source: open(2), fcntl(2) and mmap(2) of Linux and of FreeBSD.
use Rattle.std.specs.Prelude.{◌≡◌, ℕ, ◌==◌, if◌then◌else◌, List, [], ◌∷◌, map, bit_and, bit_or}
use Rattle.std.specs.List.{All}

-- the flags of an open file, Linux's mask and FreeBSD's: O_WRONLY, O_RDWR, O_NONBLOCK, O_CLOEXEC
abbrev pub open_flag_table : List (ℕ × ℕ)
open_flag_table = (1, 1) ∷ (2, 2) ∷ (0x800, 0x4) ∷ (0x80000, 0x100000) ∷ []

-- the flags of a mapping, Linux's mask and FreeBSD's: MAP_SHARED, MAP_PRIVATE, MAP_FIXED, and MAP_ANONYMOUS,
-- which FreeBSD calls MAP_ANON
abbrev pub map_flag_table : List (ℕ × ℕ)
map_flag_table = (1, 1) ∷ (2, 2) ∷ (0x10, 0x10) ∷ (0x20, 0x1000) ∷ []

-- the same table, read from FreeBSD to Linux
abbrev pub turned : List (ℕ × ℕ) → List (ℕ × ℕ)
turned rows = map (λ row. (row.1, row.0)) rows

-- a row's second mask where the flags have its first, and else none
abbrev pub bit_of : ℕ × ℕ → ℕ → ℕ
bit_of row flags = if bit_and flags row.0 == 0 then 0 else row.1

-- what a table makes of flags: those bits of all its rows
abbrev pub moved_by : List (ℕ × ℕ) → ℕ → ℕ
moved_by [] flags = 0
moved_by (row ∷ rows) flags = bit_or (bit_of row flags) (moved_by rows flags)

-- the bits that a table can give
abbrev pub given_by : List (ℕ × ℕ) → ℕ
given_by [] = 0
given_by (row ∷ rows) = bit_or row.1 (given_by rows)

-- Linux's flags of an open file as FreeBSD's
unfoldable pub open_flags_in_of : ℕ → ℕ
open_flags_in_of flags = moved_by open_flag_table flags

-- FreeBSD's flags of an open file as Linux's
unfoldable pub open_flags_out_of : ℕ → ℕ
open_flags_out_of flags = moved_by (turned open_flag_table) flags

-- Linux's flags of a mapping as FreeBSD's
unfoldable pub map_flags_in_of : ℕ → ℕ
map_flags_in_of flags = moved_by map_flag_table flags

-- the new flags have the second mask of each row exactly where the old have its first, and no other bit
pub record IsMovedBy (rows : List (ℕ × ℕ)) (old new : ℕ) : Type 0 where
  pub named : All (λ row. bit_and new row.1 ≡ bit_of row old) rows
  pub no_other : bit_and new (given_by rows) ≡ new
