-- The bytes of a tape file, in both versions. This project's own.
use Rattle.std.specs.Prelude.{◌≡◌, ℕ, ◌^◌, ◌<◌, ◌≤◌, ◌⊎◌, IsTrue, List, ◌++◌, length, codes}
use Rattle.std.specs.List.{flat_map, AllByRecursion}
use Rattle.places.specs.Places.{bytes_of}
use Rattle.tape.specs.declared.entry.Entry.{Entry}
use Rattle.tape.specs.Entry.{entry_text, is_actor, FitsEntry, IsRules}
use Rattle.tape.specs.Runs.{run_text, runs_of}

-- what a tape file of version 2 begins with
abbrev pub magic : List ℕ
magic = codes "LXTAPE2\n"

-- version 2: the magic, the seed, the pages, the rules and the count, in eight bytes each, and the runs of the entries in thirteen bytes each
unfoldable pub tape_text : ℕ → ℕ → ℕ → List Entry → List ℕ
tape_text seed pages rules entries =
    magic ++ (bytes_of seed 8 ++ (bytes_of pages 8 ++ (bytes_of rules 8 ++ (bytes_of (length entries) 8 ++ flat_map run_text (runs_of entries)))))

-- what one of version 1 begins with
abbrev pub magic_1 : List ℕ
magic_1 = codes "LXTAPE1\n"

-- version 1: the magic, the seed, the pages and the count, in eight bytes each, and the entries in nine bytes each
unfoldable pub tape_text_1 : ℕ → ℕ → List Entry → List ℕ
tape_text_1 seed pages entries =
    magic_1 ++ (bytes_of seed 8 ++ (bytes_of pages 8 ++ (bytes_of (length entries) 8 ++ flat_map entry_text entries)))

-- the bytes are a text of the tape: that of version 2, or for rules 1 that of version 1
abbrev pub IsTextOf : List ℕ → ℕ → ℕ → ℕ → List Entry → Type 0
IsTextOf bytes seed pages rules entries = (bytes ≡ tape_text seed pages rules entries) ⊎ ((rules ≡ 1) × (bytes ≡ tape_text_1 seed pages entries))

-- what a tape file may keep: 1 to 65,536 pages, rules 1 or 2, and at most 20,000,000 entries, each of an actor under these rules
pub record IsAllowed (pages rules : ℕ) (entries : List Entry) : Type 0 where
  pub some_pages : 1 ≤ pages
  pub few_pages : pages ≤ 65536
  pub known_rules : IsRules rules
  pub few_entries : length entries ≤ 20000000
  pub known_actors : AllByRecursion (λ entry. IsTrue (is_actor rules entry.actor)) entries

-- a tape that a file may keep, whose numbers fit their types, as those of each `Tape` do
pub record FitsFile (seed pages rules : ℕ) (entries : List Entry) : Type 0 where
  pub allowed : IsAllowed pages rules entries
  pub seed_fits : seed < 2 ^ 64
  pub entries_fit : AllByRecursion FitsEntry entries
