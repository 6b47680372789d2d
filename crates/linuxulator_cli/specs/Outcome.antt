-- When each end of the program comes, in the order of work: words, image, entries, what the guest put out, last line.
-- This project's own.
use Rattle.std.specs.Prelude.{◌≡◌, ◌≢◌, ◌⊎◌, ◌↔◌, ℕ, ◌<◌, ◌≤◌, List, length, None, Some}
use Rattle.outside.specs.Shelves.{MayHold, MayPass, MayFit, ShelfView}
use Rattle.outside.specs.declared.traits.LoadFault.{LoadFault as Unloaded}
use Rattle.outside.specs.declared.traits.LoadFault.TheVariants as unloaded
use Rattle.outside.specs.Sinks.{SinkView, Took, TookPart, TookAsFaults, IsUntouched}
use Rattle.elf_image.specs.Images.{image_of}
use Rattle.elf_image.specs.Rules.{image_fault}
use Rattle.elf_image.specs.declared.fault.ElfFault.{ElfFault}
use Rattle.plain_machine.specs.Program.{ProgramView}
use Rattle.plain_machine.specs.Plain.{State, plain, step, EndsBy}
use Rattle.plain_machine.specs.declared.running.RunEnd.{RunEnd}
use Rattle.plain_machine.specs.declared.running.RunEnd.TheVariants as run
use Rattle.linuxulator_cli.specs.Lines.{last_line}
use Rattle.linuxulator_cli.specs.Words.{usage_fault, image_name}
use Rattle.linuxulator_cli.specs.Programs.{IsProgramOf, RefusesImage}
use Rattle.linuxulator_cli.specs.declared.outcome.End.{End}
use Rattle.linuxulator_cli.specs.declared.outcome.End.TheVariants.{Exited, FuelSpent, Usage, LoadFault, WriteFault, BadImage, TooLong, NotBuilt, NoMemory}
use Rattle.linuxulator_cli.specs.declared.outcome.TheConstants.{FUEL, IMAGE_LIMIT}

-- what the shelf and the sinks tell at one moment
pub record Outside : Type 0 where
  pub shelf : ShelfView
  pub out : SinkView
  pub err : SinkView

abbrev pub outside : ShelfView → SinkView → SinkView → Outside
outside shelf out err = record { shelf = shelf; out = out; err = err }

-- no sink took anything or failed
pub record IsSilent (before now : Outside) : Type 0 where
  pub out : IsUntouched before.out now.out
  pub err : IsUntouched before.err now.err

-- the end of a run
abbrev pub end_of : RunEnd → End
end_of (run.Exited code) = Exited code
end_of run.FuelSpent = FuelSpent
end_of (run.NotBuilt pc) = NotBuilt pc

-- ---- the image

-- the words were read and the file of that name loaded
pub record IsLoaded (words : List (List ℕ)) (before now : ShelfView) (file : List ℕ) : Type 0 where
  pub words_read : usage_fault words ≡ None
  pub quiet : now.loads ≡ before.loads
  pub held : MayHold (before.file (image_name words)) file
  pub short : length file ≤ IMAGE_LIMIT

-- the end of a run whose image is not loaded
abbrev pub load_end : Unloaded → End
load_end (unloaded.TooLong limit) = TooLong
load_end unloaded.Failed = LoadFault
load_end unloaded.NoMemory = NoMemory

-- why no file was loaded. A file that is too long is never told as want of memory.
abbrev pub LoadsNone : List (List ℕ) → ShelfView → ShelfView → End → Type 0
LoadsNone words before now (Usage fault) = (usage_fault words ≡ Some fault) × (now.loads ≡ before.loads)
LoadsNone words before now LoadFault = (usage_fault words ≡ None) × (before.loads < now.loads)
LoadsNone words before now TooLong = (usage_fault words ≡ None) × (now.loads ≡ before.loads) × MayPass (before.file (image_name words)) IMAGE_LIMIT
LoadsNone words before now NoMemory = (usage_fault words ≡ None) × (now.loads ≡ before.loads) × MayFit (before.file (image_name words)) IMAGE_LIMIT
LoadsNone words before now (Exited code) = ⊥
LoadsNone words before now FuelSpent = ⊥
LoadsNone words before now WriteFault = ⊥
LoadsNone words before now (BadImage fault) = ⊥
LoadsNone words before now (NotBuilt pc) = ⊥

-- the file was loaded, and it has no program for this reason
pub record HasNoProgram (words : List (List ℕ)) (before now : Outside) (count : ℕ) (end : End) : Type 0 where
  pub file : List ℕ
  pub loaded : IsLoaded words before.shelf now.shelf file
  pub refused : RefusesImage file end
  pub none : count ≡ 0
  pub silent : IsSilent before now

-- ---- the run

-- the file was loaded, and its program ran for that many entries, to that state and end
pub record Runs (words : List (List ℕ)) (before now : Outside) (count : ℕ) (file : List ℕ) (program : ProgramView) (state : State) (how : RunEnd) : Type 0 where
  pub loaded : IsLoaded words before.shelf now.shelf file
  pub program_of : IsProgramOf file program
  pub reached : plain program count ≡ Some state
  pub ended : EndsBy program FUEL count state how

-- it ran, and standard output took all that it put out
pub record HasRun (words : List (List ℕ)) (before now : Outside) (count : ℕ) (how : RunEnd) : Type 0 where
  pub file : List ℕ
  pub program : ProgramView
  pub state : State
  pub ran : Runs words before now count file program state how
  pub out : Took before.out now.out state.out
  pub err : IsUntouched before.err now.err

-- it ran, and standard output failed and took a part alone
pub record HasRunCut (words : List (List ℕ)) (before now : Outside) (count : ℕ) : Type 0 where
  pub file : List ℕ
  pub program : ProgramView
  pub state : State
  pub how : RunEnd
  pub ran : Runs words before now count file program state how
  pub out : TookPart before.out now.out state.out
  pub err : IsUntouched before.err now.err

-- ---- the causes

-- no file was loaded, for this reason
pub record HasNoFile (words : List (List ℕ)) (before now : Outside) (count : ℕ) (end : End) : Type 0 where
  pub why : LoadsNone words before.shelf now.shelf end
  pub none : count ≡ 0
  pub silent : IsSilent before now

-- the cause of each end, before the last line. Want of memory is free: it may come at the words, the image or the run.
abbrev pub Cause : List (List ℕ) → Outside → Outside → ℕ → End → Type 0
Cause words before now count (Usage fault) = HasNoFile words before now count (Usage fault)
Cause words before now count LoadFault = HasNoFile words before now count LoadFault
Cause words before now count TooLong = HasNoFile words before now count TooLong
Cause words before now count NoMemory = HasNoFile words before now count NoMemory
Cause words before now count (BadImage fault) = HasNoProgram words before now count (BadImage fault)
Cause words before now count (NotBuilt pc) = HasNoProgram words before now count (NotBuilt pc) ⊎ HasRun words before now count (run.NotBuilt pc)
Cause words before now count (Exited code) = HasRun words before now count (run.Exited code)
Cause words before now count FuelSpent = HasRun words before now count run.FuelSpent
Cause words before now count WriteFault = HasRunCut words before now count

-- the end with its cause, and then the last line on standard error alone
pub record IsProgram (words : List (List ℕ)) (before now : Outside) (count : ℕ) (end : End) : Type 0 where
  -- standard error before the last line
  pub mid : SinkView
  pub cause : Cause words before (record now { err = mid }) count end
  pub write_fault : (end ≡ WriteFault) ↔ ((before.out.faults < now.out.faults) ⊎ (before.err.faults < mid.faults))
  pub last : TookAsFaults mid now.err (last_line end)

-- ---- exactly where each end comes, where the shelf tells its files

-- the words are read, the shelf tells the file and loaded it, it is short enough, and memory was there
pub record IsGiven (words : List (List ℕ)) (before now : ShelfView) (end : End) (file : List ℕ) : Type 0 where
  pub words_read : usage_fault words ≡ None
  pub told : before.file (image_name words) ≡ Some (Some file)
  pub quiet : now.loads ≡ before.loads
  pub short : length file ≤ IMAGE_LIMIT
  pub memory : end ≢ NoMemory

-- a refused image exactly where a rule fails, with the fault of the first
abbrev pub RefusesExactly : List (List ℕ) → ShelfView → ShelfView → End → Type 0
RefusesExactly words before now end = (file : List ℕ) → IsGiven words before now end file → (fault : ElfFault) →
    (end ≡ BadImage fault) ↔ (image_fault file ≡ Some fault)

-- an accepted image with other than one header isn't built, at 0 after no entry
abbrev pub RefusesHeaders : List (List ℕ) → ShelfView → ShelfView → ℕ → End → Type 0
RefusesHeaders words before now count end = (file : List ℕ) → IsGiven words before now end file → image_fault file ≡ None →
    (image_of file).header_count ≢ 1 → (end ≡ NotBuilt 0) × (count ≡ 0)

-- the shelf tells the file, and this is its program's state after count entries
pub record IsReached (words : List (List ℕ)) (before : ShelfView) (count : ℕ) (file : List ℕ) (program : ProgramView) (state : State) : Type 0 where
  pub told : before.file (image_name words) ≡ Some (Some file)
  pub program_of : IsProgramOf file program
  pub reached : plain program count ≡ Some state

-- an exit with a code exactly where that state has ended with it, unless a write failed
abbrev pub ExitsExactly : List (List ℕ) → ShelfView → ℕ → End → Type 0
ExitsExactly words before count end = (file : List ℕ) (program : ProgramView) (state : State) → IsReached words before count file program state →
    end ≢ WriteFault → (code : ℕ) → (end ≡ Exited code) ↔ (state.code ≡ Some code)

-- fuel spent exactly where that state, after so many entries, hasn't ended, unless a write failed
abbrev pub SpendsExactly : List (List ℕ) → ShelfView → ℕ → End → Type 0
SpendsExactly words before count end = (file : List ℕ) (program : ProgramView) (state : State) → IsReached words before count file program state →
    end ≢ WriteFault → (end ≡ FuelSpent) ↔ ((count ≡ FUEL) × (state.code ≡ None))

-- not built, with the state's pc, exactly where fuel is left, that state hasn't ended, and what stands at its pc isn't
-- built, unless a write failed
abbrev pub StopsExactly : List (List ℕ) → ShelfView → ShelfView → ℕ → End → Type 0
StopsExactly words before now count end = (file : List ℕ) (program : ProgramView) (state : State) → IsGiven words before now end file →
    IsReached words before count file program state → end ≢ WriteFault →
    (end ≡ NotBuilt state.registers.pc) ↔ ((count < FUEL) × (state.code ≡ None) × (step program state ≡ None))

-- with good words, a short and accepted image of one header, and no fault of the shelf or of standard output, the end is
-- the run's, or memory ran out
abbrev pub IsComplete : List (List ℕ) → Outside → Outside → ℕ → End → Type 0
IsComplete words before now count end = (file : List ℕ) (program : ProgramView) → IsGiven words before.shelf now.shelf end file →
    IsProgramOf file program → now.out.faults ≡ before.out.faults →
    (how : RunEnd) × (state : State) × (end ≡ end_of how) × (plain program count ≡ Some state) × EndsBy program FUEL count state how
