-- The first fault of bytes that are no tape file: the rules in their order, each with its fault. This project's own.
use Rattle.std.specs.Prelude.{◌≡◌, ℕ, ◌+◌, ◌*◌, ◌==◌, ◌||◌, Bool, not, nat_eq, nat_lt, if◌then◌else◌, List, [], ◌∷◌, length, position, Option, Some, None, option_map}
use Rattle.std.specs.List.{starts_with}
use Rattle.std.specs.Option.{option_or}
use Rattle.tape.specs.declared.fault.TapeFault.{TapeFault}
use Rattle.tape.specs.declared.fault.TapeFault.TheVariants.{BadMagic, Torn, TooLong, BadPages, BadRules, BadRun, BadActor, NoMemory}
use Rattle.tape.specs.declared.header.Header.{Header}
use Rattle.tape.specs.declared.front.Front.{Front}
use Rattle.tape.specs.declared.run.Run.{Run}
use Rattle.tape.specs.Entry.{is_actor}
use Rattle.tape.specs.Runs.{goes_on}
use Rattle.tape.specs.TapeText.{magic}
use Rattle.tape.specs.TapeFile.{pages_in, rules_in, count_in, header_in_2, runs_in, count_in_1, entries_in_1, is_version_1}

-- ---- version 2

-- the first fault of the header: 1 to 65,536 pages, rules 1 or 2, at most 20,000,000 entries
unfoldable pub header_fault : List ℕ → Option TapeFault
header_fault bytes =
    if nat_lt (length bytes) 40 then Some (Torn (length bytes))
    else if pages_in bytes == 0 || nat_lt 65536 (pages_in bytes) then Some (BadPages (pages_in bytes))
    else if rules_in bytes == 0 || nat_lt 2 (rules_in bytes) then Some (BadRules (rules_in bytes))
    else if nat_lt 20000000 (count_in bytes) then Some (TooLong (count_in bytes))
    else None

-- in front of the first run
abbrev pub at_start : Front
at_start = record { before = None; runs = 0; entries = 0 }

-- behind a run
abbrev pub past : Front → Run → Front
past front run = record { before = Some run.entry; runs = front.runs + 1; entries = front.entries + run.length }

-- whether a run is empty, goes on the one before, or has more entries than are left of the count
abbrev pub is_bad_run : Header → Front → Run → Bool
is_bad_run header front run = run.length == 0 || (goes_on front.before run.entry || nat_lt header.count (front.entries + run.length))

-- the fault of one run that is whole
unfoldable pub run_fault : Header → Front → Run → Option TapeFault
run_fault header front run =
    if is_bad_run header front run then Some (BadRun front.runs)
    else if not (is_actor header.rules run.entry.actor) then Some (BadActor front.entries)
    else None

-- behind the last run that is read the file ends
abbrev pub end_fault : ℕ → Front → Option TapeFault
end_fault size front = if size == 40 + 13 * front.runs then None else Some (Torn size)

-- the first fault of the runs in a file of this size: each is read as long as the entries so far are fewer than the count
unfoldable pub runs_fault : ℕ → Header → Front → List Run → Option TapeFault
runs_fault size header front [] = if nat_lt front.entries header.count then Some (Torn size) else end_fault size front
runs_fault size header front (run ∷ runs) =
    if nat_lt front.entries header.count then option_or (run_fault header front run) (runs_fault size header (past front run) runs) else end_fault size front

-- the first fault of a file of version 2
unfoldable pub fault_2 : List ℕ → Option TapeFault
fault_2 bytes = option_or (header_fault bytes) (runs_fault (length bytes) (header_in_2 bytes) at_start (runs_in bytes))

-- ---- version 1

-- the first fault of the header and of the length: 1 to 65,536 pages, at most 20,000,000 entries
unfoldable pub header_fault_1 : List ℕ → Option TapeFault
header_fault_1 bytes =
    if nat_lt (length bytes) 32 then Some (Torn (length bytes))
    else if pages_in bytes == 0 || nat_lt 65536 (pages_in bytes) then Some (BadPages (pages_in bytes))
    else if nat_lt 20000000 (count_in_1 bytes) then Some (TooLong (count_in_1 bytes))
    else if length bytes == 32 + 9 * count_in_1 bytes then None
    else Some (Torn (length bytes))

-- the first entry whose actor is none
unfoldable pub actor_fault_1 : List ℕ → Option TapeFault
actor_fault_1 bytes = option_map BadActor (position (λ entry. not (is_actor 1 entry.actor)) (entries_in_1 bytes))

-- the first fault of a file of version 1
unfoldable pub fault_1 : List ℕ → Option TapeFault
fault_1 bytes = option_or (header_fault_1 bytes) (actor_fault_1 bytes)

-- ---- either

-- the first fault of bytes as a tape file
unfoldable pub tape_fault : List ℕ → Option TapeFault
tape_fault bytes =
    if is_version_1 bytes then fault_1 bytes
    else if starts_with nat_eq bytes magic then fault_2 bytes
    else Some BadMagic

-- the cause of an answer that is no tape: that fault, or, for want of memory, that there is none
abbrev pub IsCause : List ℕ → TapeFault → Type 0
IsCause bytes NoMemory = tape_fault bytes ≡ None
IsCause bytes fault = tape_fault bytes ≡ Some fault
