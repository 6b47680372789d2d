-- A program of one segment. Source: ELF-64, program header (p_vaddr, p_filesz, p_memsz).
use Rattle.std.specs.Prelude.{ℕ, ◌+◌, ◌-◌, ◌%◌, Bool, ◌==◌, ◌&&◌, nat_le, if◌then◌else◌, List, ◌++◌, length, take, drop, replicate, Option, Some, None, option_and_then}
use Rattle.places.specs.Places.{number_at}
use Rattle.a64_model.specs.Rows.{row}
use Rattle.a64_model.specs.declared.instr.Instr.{Instr}

-- a program: the address where it begins, the segment's address and its size in memory, and the bytes that the file
-- has of it; behind these the segment is zeros
pub record ProgramView : Type 0 where
  pub entry : ℕ
  pub at : ℕ
  pub size : ℕ
  pub bytes : List ℕ

-- whether a range lies in the segment
abbrev pub is_inside : ProgramView → ℕ → ℕ → Bool
is_inside program address len = nat_le program.at address && nat_le (address + len) (program.at + program.size)

-- as many of these bytes as there are, and zeros behind them, len in all
abbrev pub padded : ℕ → List ℕ → List ℕ
padded len bytes = bytes ++ replicate (len - length bytes) 0

-- the bytes of a range of the segment
abbrev pub bytes_at : ProgramView → ℕ → ℕ → List ℕ
bytes_at program address len = padded len (take len (drop (address - program.at) program.bytes))

-- the instruction word at an address, where all of it lies in the segment (what is behind the file's bytes reads 0)
abbrev pub word_at : ProgramView → ℕ → Option ℕ
word_at program address =
    if is_inside program address 4 then Some (number_at program.bytes (address - program.at) 4) else None

-- the instruction at an address: the row of the word there, where the address is a multiple of 4
abbrev pub instruction_at : ProgramView → ℕ → Option Instr
instruction_at program address = if address % 4 == 0 then option_and_then row (word_at program address) else None
