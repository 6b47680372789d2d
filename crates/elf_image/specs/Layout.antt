-- What is true in memory of every accepted image, whatever its file.
-- Source: ELF-64 Object File Format, "Program Header Table"; the bounds on addresses are this project's own.
use Rattle.std.specs.Prelude.{◌≡◌, ℕ, ◌+◌, ◌%◌, ◌<◌, ◌≤◌, length, IsTrue, All, Any, AllPairs}
use Rattle.elf_image.specs.declared.parts.Segment.{Segment}
use Rattle.elf_image.specs.declared.parts.Image.{Image}
use Rattle.elf_image.specs.declared.span.Span.{Span}
use Rattle.elf_image.specs.Spans.{AreApart, IsWithin}

-- the addresses of a segment
abbrev pub addresses_of : Segment → Span
addresses_of segment = record { start = segment.at; size = segment.size }

-- a segment is not empty, has room for its bytes, lies between 0x10000 and 0x7f0000000000, and is not both writable and executable
pub record IsPlaced (segment : Segment) : Type 0 where
  pub some : 0 < segment.size
  pub room : length segment.bytes ≤ segment.size
  pub low : 0x10000 ≤ segment.at
  pub high : segment.at + segment.size ≤ 0x7f0000000000
  pub rights : IsTrue segment.write → IsTrue segment.execute → ⊥

-- an instruction at the address lies inside this executable segment
pub record HoldsInstruction (address : ℕ) (segment : Segment) : Type 0 where
  pub execute : IsTrue segment.execute
  pub first : IsWithin (addresses_of segment) address
  pub last : IsWithin (addresses_of segment) (address + 3)

-- each segment lies where it may, no two share a page, and the entry is an instruction of one
pub record IsLaidOut (image : Image) : Type 0 where
  pub placed : All IsPlaced image.segments
  pub apart : AllPairs (λ one other. AreApart (addresses_of one) (addresses_of other)) image.segments
  pub aligned : image.entry % 4 ≡ 0
  pub entry : Any (HoldsInstruction image.entry) image.segments
