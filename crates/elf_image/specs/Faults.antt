-- Why a file is refused, and the text of each reason. The texts are this project's own.
use Rattle.std.specs.Prelude.{ℕ, Bool, true, false, List, [], ◌∷◌, codes, Option, Some, None}
use Rattle.elf_image.specs.declared.fault.ElfKind.{ElfKind}
use Rattle.elf_image.specs.declared.fault.ElfKind.TheVariants.{NotElf, WrongClass, WrongType, WrongMachine, TooManySegments, HeaderOutside, Interpreter, WriteAndExecute, SegmentOutside, SegmentsOverlap, EntryOutside, NoMemory}
use Rattle.elf_image.specs.declared.fault.ElfFault.{ElfFault}

-- the text of a reason
abbrev pub kind_text : ElfKind → List ℕ
kind_text NotElf = codes "not an ELF file"
kind_text WrongClass = codes "wrong class"
kind_text WrongType = codes "wrong type"
kind_text WrongMachine = codes "wrong machine"
kind_text TooManySegments = codes "too many segments"
kind_text HeaderOutside = codes "header outside"
kind_text Interpreter = codes "interpreter"
kind_text WriteAndExecute = codes "write and execute"
kind_text SegmentOutside = codes "segment outside"
kind_text SegmentsOverlap = codes "segments overlap"
kind_text EntryOutside = codes "entry outside"
kind_text NoMemory = codes "no memory"

-- what is answered for want of memory
abbrev pub no_memory : ElfFault
no_memory = record { kind = NoMemory; place = 0 }

-- a rule: where the test shows that it fails, its fault of this kind at this place
abbrev pub fault_if : Bool → ElfKind → ℕ → Option ElfFault
fault_if true kind place = Some (record { kind = kind; place = place })
fault_if false kind place = None

-- of rules in their order, the fault of the first that fails
abbrev pub first_fault : List (Option ElfFault) → Option ElfFault
first_fault [] = None
first_fault (None ∷ rest) = first_fault rest
first_fault (Some fault ∷ rest) = Some fault
