-- With all that a run needs given, the end is the run's.
use Rattle.std.proofs.Common.{◌≡◌, ◌≢◌, List, ℕ, Some, inl, inr, refl, sym, subst, arith}
use Rattle.std.proofs.lemmas.Grind.{common_steps}
use Rattle.outside.specs.Shelves.{MayHold, Told}
use Rattle.elf_image.specs.Images.{image_of}
use Rattle.plain_machine.specs.Program.{ProgramView}
use Rattle.plain_machine.specs.Plain.{State, plain, EndsBy}
use Rattle.plain_machine.specs.declared.running.RunEnd.{RunEnd}
use Rattle.plain_machine.specs.declared.running.RunEnd.TheVariants as run
use Rattle.linuxulator_cli.specs.Words.{image_name}
use Rattle.linuxulator_cli.specs.Programs.{IsProgramOf}
use Rattle.linuxulator_cli.specs.Outcome.{Outside, HasRun, Cause, IsComplete, end_of}
use Rattle.linuxulator_cli.specs.declared.outcome.TheConstants.{FUEL}
use Rattle.linuxulator_cli.specs.declared.outcome.End.{End}
use Rattle.linuxulator_cli.specs.declared.outcome.End.TheVariants.{Exited, FuelSpent, Usage, LoadFault, WriteFault, BadImage, TooLong, NotBuilt, NoMemory}

-- the file that was loaded is the one that the shelf tells
same_file : (told : Told) (held file : List ℕ) → told ≡ Some (Some file) → MayHold told held → held ≡ file
same_file told held file is may = subst (λ (t : Told). MayHold t held) is may

-- and its program is the one
same_program : (held file : List ℕ) (one other : ProgramView) → held ≡ file → IsProgramOf held one → IsProgramOf file other → one ≡ other
same_program held file one other same is given = let a = is.single in let b = given.single in cc

-- what is to be shown of an end
abbrev Ends : ProgramView → ℕ → End → Type 0
Ends program count end = (how : RunEnd) × (state : State) × (end ≡ end_of how) × (plain program count ≡ Some state) × EndsBy program FUEL count state how

run_ends : (words : List (List ℕ)) (before now : Outside) (count : ℕ) (how : RunEnd) → HasRun words before now count how →
    (file : List ℕ) (program : ProgramView) → before.shelf.file (image_name words) ≡ Some (Some file) → IsProgramOf file program → Ends program count (end_of how)
run_ends words before now count how ran file program told is =
    let same = same_file (before.shelf.file (image_name words)) ran.file file told ran.ran.loaded.held in
    let program_same : ran.program ≡ program = same_program ran.file file ran.program program same ran.ran.program_of is in (
      how,
      ran.state,
      refl,
      subst (λ (p : ProgramView). plain p count ≡ Some ran.state) program_same ran.ran.reached,
      subst (λ (p : ProgramView). EndsBy p FUEL count ran.state how) program_same ran.ran.ended,
    )

-- an image that has a program has one header
has_header : (file : List ℕ) (program : ProgramView) → IsProgramOf file program → (image_of file).header_count ≢ 1 → ⊥
has_header file program is many = let single = is.single in grind (arith, common_steps)

pub complete : (words : List (List ℕ)) (before now : Outside) (count : ℕ) (end : End) → Cause words before now count end → IsComplete words before now count end
complete words before now count (Exited code) cause = λ file program given is quiet. run_ends words before now count (run.Exited code) cause file program given.told is
complete words before now count FuelSpent cause = λ file program given is quiet. run_ends words before now count run.FuelSpent cause file program given.told is
complete words before now count (NotBuilt pc) (inr cause) = λ file program given is quiet. run_ends words before now count (run.NotBuilt pc) cause file program given.told is
complete words before now count (NotBuilt pc) (inl cause) = λ file program given is quiet.
    let same = same_file (before.shelf.file (image_name words)) cause.file file given.told cause.loaded.held in
    absurd (has_header cause.file program (subst (λ (f : List ℕ). IsProgramOf f program) (sym same) is) cause.refused.1)
complete words before now count (BadImage fault) cause = λ file program given is quiet.
    let same = same_file (before.shelf.file (image_name words)) cause.file file given.told cause.loaded.held in
    let accepted = is.accepted in let refused = cause.refused in absurd (cc)
complete words before now count (Usage fault) cause = λ file program given is quiet. let read = given.words_read in let why = cause.why.0 in absurd (cc)
complete words before now count LoadFault cause = λ file program given is quiet. absurd (omega (arith, given.quiet, cause.why.1))
complete words before now count TooLong cause = λ file program given is quiet. absurd (let passes = rw given.told at cause.why.2 in omega (arith, passes, given.short))
complete words before now count WriteFault cause = λ file program given is quiet. absurd (omega (arith, quiet, cause.out.rose))
complete words before now count NoMemory cause = λ file program given is quiet. absurd (given.memory refl)
