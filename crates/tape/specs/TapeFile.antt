-- What stands where in the bytes of a tape file. This project's own.
use Rattle.std.specs.Prelude.{ℕ, ◌+◌, ◌-◌, ◌*◌, ◌/◌, Bool, nat_eq, if◌then◌else◌, List, length, map, slice_index}
use Rattle.std.specs.List.{flat_map, range_with_len, starts_with}
use Rattle.places.specs.Places.{number_at}
use Rattle.tape.specs.declared.entry.Entry.{Entry}
use Rattle.tape.specs.declared.run.Run.{Run}
use Rattle.tape.specs.declared.header.Header.{Header}
use Rattle.tape.specs.Runs.{entries_of}
use Rattle.tape.specs.TapeText.{magic_1}

-- ---- both versions

-- the seed stands after the magic
unfoldable pub seed_in : List ℕ → ℕ
seed_in bytes = number_at bytes 8 8

-- then the number of pages
unfoldable pub pages_in : List ℕ → ℕ
pages_in bytes = number_at bytes 16 8

-- ---- version 2

-- then the rules
unfoldable pub rules_in : List ℕ → ℕ
rules_in bytes = number_at bytes 24 8

-- then the number of entries
unfoldable pub count_in : List ℕ → ℕ
count_in bytes = number_at bytes 32 8

-- the run whose thirteen bytes begin at a place: its actor, its length, its amount
abbrev pub run_at : List ℕ → ℕ → Run
run_at bytes at = record { entry = record { actor = slice_index bytes at; amount = number_at bytes (at + 5) 8 }; length = number_at bytes (at + 1) 4 }

-- the runs stand after the count, as many as are whole
unfoldable pub runs_in : List ℕ → List Run
runs_in bytes = map (λ i. run_at bytes (40 + 13 * i)) (range_with_len 0 ((length bytes - 40) / 13))

-- what the header says
abbrev pub header_in_2 : List ℕ → Header
header_in_2 bytes = record { seed = seed_in bytes; pages = pages_in bytes; rules = rules_in bytes; count = count_in bytes }

-- ---- version 1

-- the number of entries stands after the pages
unfoldable pub count_in_1 : List ℕ → ℕ
count_in_1 bytes = number_at bytes 24 8

-- the entry whose nine bytes begin at a place: its actor, then its amount
abbrev pub entry_at_1 : List ℕ → ℕ → Entry
entry_at_1 bytes at = record { actor = slice_index bytes at; amount = number_at bytes (at + 1) 8 }

-- the entries stand after the count, as many as it says
unfoldable pub entries_in_1 : List ℕ → List Entry
entries_in_1 bytes = map (λ i. entry_at_1 bytes (32 + 9 * i)) (range_with_len 0 (count_in_1 bytes))

-- what the header says; the rules are 1
abbrev pub header_in_1 : List ℕ → Header
header_in_1 bytes = record { seed = seed_in bytes; pages = pages_in bytes; rules = 1; count = count_in_1 bytes }

-- ---- either

-- whether a file begins as one of version 1
unfoldable pub is_version_1 : List ℕ → Bool
is_version_1 bytes = starts_with nat_eq bytes magic_1

-- what the header of a file says
unfoldable pub header_in : List ℕ → Header
header_in bytes = if is_version_1 bytes then header_in_1 bytes else header_in_2 bytes

-- the entries that a file keeps
unfoldable pub entries_in : List ℕ → List Entry
entries_in bytes = if is_version_1 bytes then entries_in_1 bytes else flat_map entries_of (runs_in bytes)
