-- What steps keep, and runs. This project's own.
use Rattle.std.specs.Prelude.{List, Some, ℕ, ◌≡◌}
use Rattle.elf_image.specs.declared.parts.Image.{Image}
use Rattle.lx_machine.specs.Start.{start}
use Rattle.lx_machine.specs.Step.{LRun, LStep}
use Rattle.lx_machine.specs.declared.label.Label.{Label}
use Rattle.lx_machine.specs.declared.state.LinuxState.{LinuxState}

-- it holds as a program starts
abbrev pub HoldsAtStart : (LinuxState → Type 0) → Type 0
HoldsAtStart P = (image : Image) (name : List ℕ) (arguments : List (List ℕ)) (input : List ℕ) (seed rules : ℕ) → P (start image name arguments input seed rules)

-- each step keeps it
abbrev pub IsKept : (LinuxState → Type 0) → Type 0
IsKept P = (L next : LinuxState) (l : Label) → P L → LStep L l ≡ Some next → P next

-- it holds after each run of a program from its start
abbrev pub HoldsAlways : (LinuxState → Type 0) → Type 0
HoldsAlways P =
    (image : Image) (name : List ℕ) (arguments : List (List ℕ)) (input : List ℕ) (seed rules : ℕ) (ls : List Label) (last : LinuxState) →
    LRun (start image name arguments input seed rules) ls ≡ Some last → P last
