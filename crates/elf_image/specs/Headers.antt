-- The file header and the program headers, each field by its place in the file.
-- Source: ELF-64 Object File Format, "ELF Header" (Elf64_Ehdr) and "Program Header Table" (Elf64_Phdr).
use Rattle.std.specs.Prelude.{ℕ, ◌+◌, ◌*◌, List, map, slice_index}
use Rattle.std.specs.List.{range_with_len}
use Rattle.places.specs.Places.{number_at}
use Rattle.elf_image.specs.declared.headers.FileHeader.{FileHeader}
use Rattle.elf_image.specs.declared.headers.ProgramHeader.{ProgramHeader}

-- an Elf64_Half, of 2 bytes, at a place of the file
unfoldable pub half_at : List ℕ → ℕ → ℕ
half_at file place = number_at file place 2

-- an Elf64_Word, of 4 bytes
unfoldable pub word_at : List ℕ → ℕ → ℕ
word_at file place = number_at file place 4

-- an Elf64_Xword, Elf64_Addr or Elf64_Off, of 8 bytes
unfoldable pub xword_at : List ℕ → ℕ → ℕ
xword_at file place = number_at file place 8

-- the file header, at the file's start: e_ident[EI_CLASS], e_ident[EI_DATA], e_ident[EI_VERSION], e_type, e_machine,
-- e_entry, e_phoff, e_phentsize, e_phnum
unfoldable pub file_header : List ℕ → FileHeader
file_header file = record {
  class = slice_index file 4;
  encoding = slice_index file 5;
  version = slice_index file 6;
  kind = half_at file 16;
  machine = half_at file 18;
  entry = xword_at file 24;
  table = xword_at file 32;
  header_size = half_at file 54;
  header_count = half_at file 56;
}

-- the program header at a place of the file: p_type, p_flags, p_offset, p_vaddr, p_filesz, p_memsz
unfoldable pub program_header : List ℕ → ℕ → ProgramHeader
program_header file place = record {
  kind = word_at file place;
  flags = word_at file (place + 4);
  offset = xword_at file (place + 8);
  address = xword_at file (place + 16);
  file_size = xword_at file (place + 32);
  memory_size = xword_at file (place + 40);
}

-- the program headers, `count` of them and 56 bytes each, from a place of the file on
unfoldable pub program_headers : List ℕ → ℕ → ℕ → List ProgramHeader
program_headers file table count = map (λ index. program_header file (table + 56 * index)) (range_with_len 0 count)

-- the program headers of a file: e_phnum of them, from e_phoff on
abbrev pub headers_of : List ℕ → List ProgramHeader
headers_of file = program_headers file (file_header file).table (file_header file).header_count
