-- The rules that an image keeps, in their order, each with the kind and the place of its fault. The first that fails decides.
-- Source: ELF-64 Object File Format, "ELF Header" and "Program Header Table"; which files are taken, of those that
-- the format allows, is this project's own: static programs for arm64, with no interpreter, below 0x7f0000000000.
use Rattle.std.specs.Prelude.{ℕ, ◌*◌, ◌%◌, ◌≤◌, Bool, not, ◌&&◌, ◌||◌, ◌==◌, nat_eq, nat_lt, List, [], ◌∷◌, length, IsTrue, map, take, codes, bit_and, Option}
use Rattle.std.specs.List.{list_any, starts_with, enumerate_from}
use Rattle.elf_image.specs.declared.fault.ElfFault.{ElfFault}
use Rattle.elf_image.specs.declared.fault.ElfKind.TheVariants.{NotElf, WrongClass, WrongType, WrongMachine, TooManySegments, HeaderOutside, Interpreter, WriteAndExecute, SegmentOutside, SegmentsOverlap, EntryOutside}
use Rattle.elf_image.specs.declared.headers.FileHeader.{FileHeader}
use Rattle.elf_image.specs.declared.headers.ProgramHeader.{ProgramHeader}
use Rattle.elf_image.specs.declared.span.Span.{Span}
use Rattle.elf_image.specs.Faults.{fault_if, first_fault}
use Rattle.elf_image.specs.Spans.{end_of, holds, shares_page}
use Rattle.elf_image.specs.Headers.{file_header, headers_of}

-- ---- the file header

-- the file has a whole file header, and begins with e_ident's magic number
abbrev pub not_elf : List ℕ → Option ElfFault
not_elf file = fault_if (nat_lt (length file) 64 || not (starts_with nat_eq file (0x7f ∷ codes "ELF"))) NotElf 0

-- e_ident: 64 bits (ELFCLASS64), little-endian (ELFDATA2LSB), version 1 (EV_CURRENT), each at its own place
abbrev pub wrong_class : FileHeader → Option ElfFault
wrong_class header =
    first_fault
    (fault_if (not (header.class == 2)) WrongClass 4
    ∷ fault_if (not (header.encoding == 1)) WrongClass 5
    ∷ fault_if (not (header.version == 1)) WrongClass 6
    ∷ [])

-- e_type is ET_EXEC
abbrev pub wrong_type : FileHeader → Option ElfFault
wrong_type header = fault_if (not (header.kind == 2)) WrongType 16

-- e_machine is EM_AARCH64
abbrev pub wrong_machine : FileHeader → Option ElfFault
wrong_machine header = fault_if (not (header.machine == 183)) WrongMachine 18

-- e_phnum is at most 64
abbrev pub too_many_segments : FileHeader → Option ElfFault
too_many_segments header = fault_if (nat_lt 64 header.header_count) TooManySegments 56

-- where the program headers lie in the file, 56 bytes each
abbrev pub table_range : FileHeader → Span
table_range header = record { start = header.table; size = 56 * header.header_count }

-- e_phentsize is 56, and the program headers end within the file
abbrev pub header_outside : List ℕ → FileHeader → Option ElfFault
header_outside file header =
    fault_if (not (header.header_size == 56) || nat_lt (length file) (end_of (table_range header))) HeaderOutside 32

-- the fault of the file header
unfoldable pub file_header_fault : List ℕ → Option ElfFault
file_header_fault file =
    first_fault
    (not_elf file
    ∷ wrong_class (file_header file)
    ∷ wrong_type (file_header file)
    ∷ wrong_machine (file_header file)
    ∷ too_many_segments (file_header file)
    ∷ header_outside file (file_header file)
    ∷ [])

-- ---- the program headers

-- a segment to be loaded: p_type is PT_LOAD, and not both sizes are 0. Other headers but PT_INTERP are passed over.
abbrev pub is_segment : ProgramHeader → Bool
is_segment header = header.kind == 1 && not (header.memory_size == 0 && header.file_size == 0)

-- p_flags: PF_X, PF_W and PF_R
abbrev pub is_executable : ProgramHeader → Bool
is_executable header = not (bit_and header.flags 1 == 0)

abbrev pub is_writable : ProgramHeader → Bool
is_writable header = not (bit_and header.flags 2 == 0)

abbrev pub is_readable : ProgramHeader → Bool
is_readable header = not (bit_and header.flags 4 == 0)

-- the bytes of a segment in the file, and those that it takes in memory
abbrev pub file_range : ProgramHeader → Span
file_range header = record { start = header.offset; size = header.file_size }

abbrev pub memory_range : ProgramHeader → Span
memory_range header = record { start = header.address; size = header.memory_size }

-- p_type is not PT_INTERP
abbrev pub interpreter : ℕ → ProgramHeader → Option ElfFault
interpreter index header = fault_if (header.kind == 3) Interpreter index

-- no segment is both writable and executable
abbrev pub write_and_execute : ℕ → ProgramHeader → Option ElfFault
write_and_execute index header =
    fault_if (is_segment header && (is_writable header && is_executable header)) WriteAndExecute index

-- the file range passes the file or the memory range, or the memory range leaves 0x10000 to 0x7f0000000000
abbrev pub is_outside : ℕ → ProgramHeader → Bool
is_outside file_length header =
    nat_lt file_length (end_of (file_range header))
    || nat_lt header.memory_size header.file_size
    || nat_lt header.address 0x10000
    || nat_lt 0x7f0000000000 (end_of (memory_range header))

-- what holds of a segment that is not outside: where it lies in the file, and where in memory
abbrev pub IsInFile : ℕ → ProgramHeader → Type 0
IsInFile file_length header = end_of (file_range header) ≤ file_length

pub record IsInMemory (header : ProgramHeader) : Type 0 where
  pub room : header.file_size ≤ header.memory_size
  pub low : 0x10000 ≤ header.address
  pub high : end_of (memory_range header) ≤ 0x7f0000000000

-- P holds of a header if it is a segment
abbrev pub IfSegment : (ProgramHeader → Type 0) → ProgramHeader → Type 0
IfSegment P header = IsTrue (is_segment header) → P header

-- a segment lies in the file and in memory where it may
abbrev pub segment_outside : ℕ → ℕ → ProgramHeader → Option ElfFault
segment_outside file_length index header =
    fault_if (is_segment header && is_outside file_length header) SegmentOutside index

-- whether a segment has a page in common with an earlier one
abbrev pub overlaps : ProgramHeader → ProgramHeader → Bool
overlaps header earlier = is_segment earlier && shares_page (memory_range earlier) (memory_range header)

-- no page is shared with an earlier segment
abbrev pub segments_overlap : List ProgramHeader → ℕ → ProgramHeader → Option ElfFault
segments_overlap earlier index header =
    fault_if (is_segment header && list_any (overlaps header) earlier) SegmentsOverlap index

-- the fault of one program header, by the length of the file, the headers before it and its index
unfoldable pub header_fault : ℕ → List ProgramHeader → ℕ → ProgramHeader → Option ElfFault
header_fault file_length earlier index header =
    first_fault
    (interpreter index header
    ∷ write_and_execute index header
    ∷ segment_outside file_length index header
    ∷ segments_overlap earlier index header
    ∷ [])

-- the faults of the program headers, one for each, in their order
unfoldable pub faults_of : ℕ → List ProgramHeader → List (Option ElfFault)
faults_of file_length headers =
    map (λ numbered. header_fault file_length (take numbered.0 headers) numbered.0 numbered.1) (enumerate_from 0 headers)

-- ---- the entry

-- whether the four bytes from an address on lie inside this executable segment
abbrev pub holds_instruction : ℕ → ProgramHeader → Bool
holds_instruction address header =
    is_segment header && (is_executable header && holds (memory_range header) (record { start = address; size = 4 }))

-- e_entry is a multiple of 4, and its four bytes lie inside an executable segment
unfoldable pub entry_outside : ℕ → List ProgramHeader → Option ElfFault
entry_outside entry headers =
    fault_if (not (entry % 4 == 0) || not (list_any (holds_instruction entry) headers)) EntryOutside 24

-- ---- the file

-- the first rule that fails, with its place
unfoldable pub image_fault : List ℕ → Option ElfFault
image_fault file =
    first_fault
    (file_header_fault file
    ∷ first_fault (faults_of (length file) (headers_of file))
    ∷ entry_outside (file_header file).entry (headers_of file)
    ∷ [])
