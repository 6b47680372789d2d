-- Runs of equal entries. This project's own.
use Rattle.std.specs.Prelude.{◌≡◌, ℕ, ◌+◌, ◌^◌, ◌<◌, ◌≤◌, Bool, false, if◌then◌else◌, List, [], ◌∷◌, ◌++◌, replicate, Option, Some, None}
use Rattle.places.specs.Places.{bytes_of}
use Rattle.tape.specs.declared.entry.Entry.{Entry}
use Rattle.tape.specs.declared.run.Run.{Run}
use Rattle.tape.specs.Entry.{same_entry, FitsEntry}

-- the entries that a run stands for
abbrev pub entries_of : Run → List Entry
entries_of run = replicate run.length run.entry

-- a run of one entry
abbrev pub single : Entry → Run
single entry = record { entry = entry; length = 1 }

-- an entry in front of runs: it joins the first one, where that has equal entries
abbrev pub joined : Entry → List Run → List Run
joined entry [] = single entry ∷ []
joined entry (run ∷ runs) = if same_entry entry run.entry then record { entry = run.entry; length = run.length + 1 } ∷ runs else single entry ∷ run ∷ runs

-- the longest runs of equal entries, in order
abbrev pub runs_of : List Entry → List Run
runs_of [] = []
runs_of (entry ∷ entries) = joined entry (runs_of entries)

-- whether a run of this entry would go on the run before it
abbrev pub goes_on : Option Entry → Entry → Bool
goes_on None entry = false
goes_on (Some before) entry = same_entry before entry

-- each run stands for at least one entry, and none goes on the run before it
abbrev pub AreLongestAfter : Option Entry → List Run → Type 0
AreLongestAfter before [] = Unit {0}
AreLongestAfter before (run ∷ runs) = (1 ≤ run.length) × (goes_on before run.entry ≡ false) × AreLongestAfter (Some run.entry) runs

-- so from the first run on
abbrev pub AreLongest : List Run → Type 0
AreLongest runs = AreLongestAfter None runs

-- the thirteen bytes of a run: the actor, the length, the amount, little-endian
abbrev pub run_text : Run → List ℕ
run_text run = run.entry.actor ∷ (bytes_of run.length 4 ++ bytes_of run.entry.amount 8)

-- the numbers of a run fit their types, as those of each `Run` do
pub record FitsRun (run : Run) : Type 0 where
  pub entry_fits : FitsEntry run.entry
  pub length_fits : run.length < 2 ^ 32
