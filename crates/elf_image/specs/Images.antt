-- What an accepted file is: the image that is to be loaded.
-- Source: ELF-64 Object File Format, "Program Header Table"; elf(5), the auxiliary value AT_PHDR, for the address of the headers.
use Rattle.std.specs.Prelude.{◌≡◌, ℕ, ◌+◌, ◌-◌, Bool, ◌&&◌, List, map, filter, find, take, drop, Option, Some, None}
use Rattle.elf_image.specs.declared.headers.FileHeader.{FileHeader}
use Rattle.elf_image.specs.declared.headers.ProgramHeader.{ProgramHeader}
use Rattle.elf_image.specs.declared.parts.Segment.{Segment}
use Rattle.elf_image.specs.declared.parts.Image.{Image}
use Rattle.elf_image.specs.Spans.{holds}
use Rattle.elf_image.specs.Headers.{file_header, headers_of}
use Rattle.elf_image.specs.Rules.{is_segment, is_executable, is_writable, is_readable, file_range, table_range, image_fault}

-- the segment of a program header, with its bytes in the file
abbrev pub segment_of : List ℕ → ProgramHeader → Segment
segment_of file header = record {
  at = header.address;
  size = header.memory_size;
  bytes = take header.file_size (drop header.offset file);
  read = is_readable header;
  write = is_writable header;
  execute = is_executable header;
}

-- the segments of a file, in its order
unfoldable pub segments_of : List ℕ → List ProgramHeader → List Segment
segments_of file headers = map (segment_of file) (filter is_segment headers)

-- whether the file range of this segment holds all program headers
abbrev pub holds_headers : FileHeader → ProgramHeader → Bool
holds_headers file_header header = is_segment header && holds (file_range header) (table_range file_header)

-- the address of the program headers in this segment, or 0 where there is none
abbrev pub address_in : FileHeader → Option ProgramHeader → ℕ
address_in file_header None = 0
address_in file_header (Some header) = header.address + (file_header.table - header.offset)

-- the address of the program headers: that in the first segment whose file range holds them all, or 0
unfoldable pub headers_address : FileHeader → List ProgramHeader → ℕ
headers_address file_header headers = address_in file_header (find (holds_headers file_header) headers)

-- the image that a file is
unfoldable pub image_of : List ℕ → Image
image_of file = record {
  entry = (file_header file).entry;
  headers_at = headers_address (file_header file) (headers_of file);
  header_count = (file_header file).header_count;
  segments = segments_of file (headers_of file);
}

-- The file is accepted as this image: no rule fails, and the image is the one that the file is. (The type of an image
-- has the name Image, so the relation begins with Is.)
pub record IsImage (file : List ℕ) (image : Image) : Type 0 where
  pub accepted : image_fault file ≡ None
  pub read : image ≡ image_of file
