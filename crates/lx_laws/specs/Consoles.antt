-- The bytes that were ever put into a console room are those that Drain took from it and those that it still holds, in their
-- order. Source: write(2), pipe(7); what a room is is this project's own.
use Rattle.std.specs.Prelude.{List, None, Option, Some, [], take, if◌then◌else◌, ℕ, ◌++◌, ◌≡◌, ◌∷◌}
use Rattle.elf_image.specs.declared.parts.Image.{Image}
use Rattle.lx_machine.specs.Interests.{is_side, side_holds}
use Rattle.lx_machine.specs.Start.{start}
use Rattle.lx_machine.specs.Step.{LRun, LStep}
use Rattle.lx_machine.specs.declared.files.Files.{Files}
use Rattle.lx_machine.specs.declared.label.Label.{Label}
use Rattle.lx_machine.specs.declared.label.Label.TheVariants as label
use Rattle.lx_machine.specs.declared.label.LxSide.{LxSide}
use Rattle.lx_machine.specs.declared.label.LxSide.TheVariants as side
use Rattle.lx_machine.specs.declared.state.LinuxState.{LinuxState}

-- all bytes that were ever put into a room
abbrev pub ever_put : Files → LxSide → List ℕ
ever_put F side.Out = F.put_out
ever_put F side.Err = F.put_err

-- the bytes that a step takes from a room: Drain of it takes the first ones, and no other step takes any
abbrev pub taken_by : LxSide → LinuxState → Label → List ℕ
taken_by which L (label.Drain drained n) = if is_side which drained then take n (side_holds L.files which) else []
taken_by which L _ = []

-- the bytes that a run takes from a room, step by step
abbrev pub taken_from : LxSide → Option LinuxState → (LinuxState → List ℕ) → List ℕ
taken_from which None f = []
taken_from which (Some next) f = f next

abbrev pub taken_over : LxSide → LinuxState → List Label → List ℕ
taken_over which L [] = []
taken_over which L (l ∷ ls) = taken_by which L l ++ taken_from which (LStep L l) (λ next. taken_over which next ls)

-- these bytes have been taken from a room so far: what was ever put into it are they, and what it holds
abbrev pub AccountsFor : Files → LxSide → List ℕ → Type 0
AccountsFor F which taken = ever_put F which ≡ taken ++ side_holds F which

-- over a run the bytes that were taken before, and those that the run takes
abbrev pub ConsolesAccountFor : Type 0
ConsolesAccountFor =
    (L last : LinuxState) (ls : List Label) (which : LxSide) (before : List ℕ) → LRun L ls ≡ Some last →
    AccountsFor L.files which before → AccountsFor last.files which (before ++ taken_over which L ls)

-- over a run from the start, those that the run takes
abbrev pub ConsolesAccountFromTheStart : Type 0
ConsolesAccountFromTheStart =
    (image : Image) (name : List ℕ) (arguments : List (List ℕ)) (input : List ℕ) (seed rules : ℕ) (ls : List Label) (last : LinuxState) (which : LxSide) →
    LRun (start image name arguments input seed rules) ls ≡ Some last → AccountsFor last.files which (taken_over which (start image name arguments input seed rules) ls)
