use Rattle.std.proofs.Common.{◌≡◌, take, None}
use Rattle.std.specs.List.{AllWithin}
use Rattle.elf_image.specs.Faults.{first_fault}
use Rattle.elf_image.specs.Rules.{faults_of, IfSegment, IsInFile, IsInMemory}
use Rattle.elf_image.proofs.rules.check_headers.Given as goal

-- no header so far has a fault, and its segment lies where it may
abbrev pub invariant-loop-index : goal.invariant-loop-index
invariant-loop-index l =
    (first_fault (take l.index (faults_of l.file_length l.headers)) ≡ None) × AllWithin (IfSegment (IsInFile l.file_length)) l.headers 0 l.index
    × AllWithin (IfSegment IsInMemory) l.headers 0 l.index
