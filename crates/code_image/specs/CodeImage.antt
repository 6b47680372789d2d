-- The image of a program that is nothing but code. Source: elf(5), Elf64_Ehdr and Elf64_Phdr.
use Rattle.std.specs.Prelude.{ℕ, ◌+◌, ◌*◌, ◌/◌, ◌%◌, ◌^◌, List, [], ◌∷◌, ◌++◌, length}
use Rattle.places.specs.Places.{bytes_of}

-- words of 4 bytes each
abbrev pub words : List ℕ → List ℕ
words [] = []
words (n ∷ ns) = bytes_of n 4 ++ words ns

-- the file header: a static program for arm64 that starts at 0x400078, with one program header
abbrev pub file_header : List ℕ
file_header =
    0x464c457f ∷ 0x10102 ∷ 0 ∷ 0 ∷ 0xb70002 ∷ 1 ∷ 0x400078 ∷ 0 ∷
    0x40 ∷ 0 ∷ 0 ∷ 0 ∷ 0 ∷ 0x380040 ∷ 1 ∷ 0 ∷ []

-- the program header: a file of so many bytes, all of it at 0x400000, with the rights to read and execute
abbrev pub program_header : ℕ → List ℕ
program_header len =
    1 ∷ 5 ∷ 0 ∷ 0 ∷ 0x400000 ∷ 0 ∷ 0x400000 ∷ 0 ∷
    len % 2 ^ 32 ∷ len / 2 ^ 32 ∷ len % 2 ^ 32 ∷ len / 2 ^ 32 ∷ 0x1000 ∷ 0 ∷ []

-- the headers, of 120 bytes, and the code
abbrev pub image_of : List ℕ → List ℕ
image_of code = words file_header ++ (words (program_header (120 + 4 * length code)) ++ words code)
