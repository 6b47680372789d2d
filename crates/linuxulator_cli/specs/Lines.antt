-- The status of each end, and the last line on standard error. This project's own.
use Rattle.std.specs.Prelude.{ℕ, List, [], ◌++◌, codes, decimal, false}
use Rattle.std.specs.Fmt.{digits_onto}
use Rattle.elf_image.specs.Faults.{kind_text}
use Rattle.linuxulator_cli.specs.Words.{usage_text}
use Rattle.linuxulator_cli.specs.declared.outcome.End.{End}
use Rattle.linuxulator_cli.specs.declared.outcome.End.TheVariants.{Exited, FuelSpent, Usage, LoadFault, WriteFault, BadImage, TooLong, NotBuilt, NoMemory}

-- a number of 64 bits in plain hexadecimal
unfoldable pub hexadecimal : ℕ → List ℕ
hexadecimal number = digits_onto 16 16 false number []

-- a line of the program
abbrev pub line : List ℕ → List ℕ
line text = codes "linuxulator: " ++ text ++ codes "\n"

-- the last line of an end
abbrev pub last_line : End → List ℕ
last_line (Exited code) = []
last_line FuelSpent = line (codes "fuel spent")
last_line (Usage fault) = line (codes "usage: " ++ usage_text fault.kind ++ codes " at word " ++ decimal fault.at)
last_line LoadFault = line (codes "read failed")
last_line WriteFault = line (codes "write failed")
last_line (BadImage fault) = line (codes "image: " ++ kind_text fault.kind ++ codes " at " ++ decimal fault.place)
last_line TooLong = line (codes "too long")
last_line (NotBuilt pc) = line (codes "not built at 0x" ++ hexadecimal pc)
last_line NoMemory = line (codes "no memory")

-- the status of an end
abbrev pub status_of : End → ℕ
status_of (Exited code) = code
status_of FuelSpent = 124
status_of (Usage fault) = 120
status_of LoadFault = 122
status_of WriteFault = 123
status_of (BadImage fault) = 121
status_of TooLong = 119
status_of (NotBuilt pc) = 117
status_of NoMemory = 126
