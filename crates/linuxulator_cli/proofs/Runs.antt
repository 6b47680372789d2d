-- A run that was put out is the cause of its end, and so is a file that has no program.
use Rattle.std.proofs.Common.{◌≡◌, ◌≤◌, List, ℕ, length, inl, inr, refl, subst, sym}
use Rattle.std.specs.Prelude.{None, Some}
use Rattle.outside.specs.Shelves.{Told, MayHold, MayFit}
use Rattle.plain_machine.specs.declared.running.RunEnd.{RunEnd}
use Rattle.plain_machine.specs.declared.running.RunEnd.TheVariants as run
use Rattle.linuxulator_cli.specs.Words.{image_name}
use Rattle.linuxulator_cli.specs.Programs.{RefusesImage}
use Rattle.linuxulator_cli.specs.Outcome.{Outside, IsLoaded, IsSilent, HasNoFile, HasRun, Cause, end_of}
use Rattle.linuxulator_cli.specs.declared.outcome.TheConstants.{IMAGE_LIMIT}
use Rattle.linuxulator_cli.specs.declared.outcome.End.{End}
use Rattle.linuxulator_cli.specs.declared.outcome.End.TheVariants.{Exited, FuelSpent, Usage, LoadFault, WriteFault, BadImage, TooLong, NotBuilt, NoMemory}

pub cause_of_run : (words : List (List ℕ)) (before now : Outside) (count : ℕ) (how : RunEnd) → HasRun words before now count how → Cause words before now count (end_of how)
cause_of_run words before now count (run.Exited code) ran = ran
cause_of_run words before now count run.FuelSpent ran = ran
cause_of_run words before now count (run.NotBuilt pc) ran = inr ran

-- a file that was loaded may be within the limit
may_fit : (told : Told) (file : List ℕ) (limit : ℕ) → MayHold told file → length file ≤ limit → MayFit told limit
may_fit None file limit held short = tt
may_fit (Some None) file limit held short = absurd held
may_fit (Some (Some xs)) file limit held short = subst (λ (ys : List ℕ). length ys ≤ limit) held short

-- want of memory once a file was loaded
pub cause_of_want : (words : List (List ℕ)) (before now : Outside) (file : List ℕ) → IsLoaded words before.shelf now.shelf file → IsSilent before now → Cause words before now 0 NoMemory
cause_of_want words before now file loaded silent = record {
  why = (loaded.words_read, loaded.quiet, may_fit _ file _ loaded.held loaded.short);
  none = refl;
  silent = silent;
}

-- the file that was loaded has no program
pub cause_of_refusal : (words : List (List ℕ)) (before now : Outside) (file : List ℕ) (end : End) → IsLoaded words before.shelf now.shelf file → RefusesImage file end → IsSilent before now → Cause words before now 0 end
cause_of_refusal words before now file (BadImage fault) loaded refused silent = record { file = file; loaded = loaded; refused = refused; none = refl; silent = silent }
cause_of_refusal words before now file (NotBuilt pc) loaded refused silent = inl (record { file = file; loaded = loaded; refused = refused; none = refl; silent = silent })
cause_of_refusal words before now file NoMemory loaded refused silent = cause_of_want words before now file loaded silent
cause_of_refusal words before now file (Exited code) loaded refused silent = absurd refused
cause_of_refusal words before now file FuelSpent loaded refused silent = absurd refused
cause_of_refusal words before now file (Usage fault) loaded refused silent = absurd refused
cause_of_refusal words before now file LoadFault loaded refused silent = absurd refused
cause_of_refusal words before now file WriteFault loaded refused silent = absurd refused
cause_of_refusal words before now file TooLong loaded refused silent = absurd refused
