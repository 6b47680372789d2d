-- The program that a file is: an accepted image with one header. That there is one header alone is this project's own,
-- for now.
use Rattle.std.specs.Prelude.{◌≡◌, ◌≢◌, ℕ, List, None, Some, if◌then◌else◌, ◌==◌, slice_get, ⊤}
use Rattle.std.specs.Option.{option_map}
use Rattle.std.specs.declared.option.Option.{Option}
use Rattle.elf_image.specs.declared.parts.Image.{Image}
use Rattle.elf_image.specs.declared.parts.Segment.{Segment}
use Rattle.elf_image.specs.Images.{image_of}
use Rattle.elf_image.specs.Rules.{image_fault}
use Rattle.elf_image.specs.declared.fault.ElfFault.{ElfFault}
use Rattle.elf_image.specs.declared.fault.ElfKind.{ElfKind}
use Rattle.elf_image.specs.declared.fault.ElfKind.TheVariants as kind
use Rattle.plain_machine.specs.Program.{ProgramView}
use Rattle.linuxulator_cli.specs.declared.outcome.End.{End}
use Rattle.linuxulator_cli.specs.declared.outcome.End.TheVariants.{Exited, FuelSpent, Usage, LoadFault, WriteFault, BadImage, TooLong, NotBuilt, NoMemory}

-- the program that begins at `entry` in this segment
abbrev pub segment_program : ℕ → Segment → ProgramView
segment_program entry segment = record { entry = entry; at = segment.at; size = segment.size; bytes = segment.bytes }

-- the program of an image with one header
abbrev pub program_of : Image → Option ProgramView
program_of image =
    if image.header_count == 1 then option_map (segment_program image.entry) (slice_get image.segments 0) else None

-- the file is accepted as an image, and this is its program
pub record IsProgramOf (file : List ℕ) (program : ProgramView) : Type 0 where
  pub accepted : image_fault file ≡ None
  pub single : program_of (image_of file) ≡ Some program

-- the end of a run whose image is refused; want of memory says nothing of the image
abbrev pub refusal_of : ElfFault → ElfKind → End
refusal_of fault kind.NoMemory = NoMemory
refusal_of fault _ = BadImage fault

abbrev pub refusal : ElfFault → End
refusal fault = refusal_of fault fault.kind

-- why a file has no program: a rule of images fails, or there is not one header. Want of memory says nothing of the file.
abbrev pub RefusesImage : List ℕ → End → Type 0
RefusesImage file (BadImage fault) = image_fault file ≡ Some fault
RefusesImage file (NotBuilt pc) = (image_fault file ≡ None) × ((image_of file).header_count ≢ 1) × (pc ≡ 0)
RefusesImage file NoMemory = ⊤
RefusesImage file (Exited code) = ⊥
RefusesImage file FuelSpent = ⊥
RefusesImage file (Usage fault) = ⊥
RefusesImage file LoadFault = ⊥
RefusesImage file WriteFault = ⊥
RefusesImage file TooLong = ⊥
