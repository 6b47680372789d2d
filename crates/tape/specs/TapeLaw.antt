-- Tape files are the texts of tapes, each of one tape. This project's own.
use Rattle.std.specs.Prelude.{◌≡◌, ℕ, ◌^◌, ◌<◌, List, slice_index, None}
use Rattle.std.specs.List.{flat_map}
use Rattle.tape.specs.declared.entry.Entry.{Entry}
use Rattle.tape.specs.declared.run.Run.{Run}
use Rattle.tape.specs.Runs.{entries_of, runs_of, AreLongest}
use Rattle.tape.specs.TapeText.{IsTextOf, FitsFile}
use Rattle.tape.specs.TapeFault.{tape_fault}

-- the text of a tape that fits, in either version, has no fault
abbrev pub TextsAreFiles : Type 0
TextsAreFiles = (bytes : List ℕ) (seed pages rules : ℕ) (entries : List Entry) → FitsFile seed pages rules entries → IsTextOf bytes seed pages rules entries → tape_fault bytes ≡ None

-- a text is that of one tape alone
abbrev pub TextsAreOne : Type 0
TextsAreOne = (bytes : List ℕ) (seed pages rules other_seed other_pages other_rules : ℕ) (entries other_entries : List Entry)
    → FitsFile seed pages rules entries → FitsFile other_seed other_pages other_rules other_entries
    → IsTextOf bytes seed pages rules entries → IsTextOf bytes other_seed other_pages other_rules other_entries
    → (seed ≡ other_seed) × (pages ≡ other_pages) × (rules ≡ other_rules) × (entries ≡ other_entries)

-- bytes without a fault are the text of a tape that fits
abbrev pub FilesAreTexts : Type 0
FilesAreTexts = (bytes : List ℕ) → ((i : ℕ) → slice_index bytes i < 2 ^ 8) → tape_fault bytes ≡ None
    → (seed pages rules : ℕ) × (entries : List Entry) × FitsFile seed pages rules entries × IsTextOf bytes seed pages rules entries

-- the runs of entries are the longest ones that stand for these entries
abbrev pub RunsAreLongest : Type 0
RunsAreLongest = (entries : List Entry) → AreLongest (runs_of entries) × (flat_map entries_of (runs_of entries) ≡ entries)

-- and no others are
abbrev pub RunsAreOne : Type 0
RunsAreOne = (runs : List Run) → AreLongest runs → runs_of (flat_map entries_of runs) ≡ runs
