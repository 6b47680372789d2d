-- What the forms in memory keep. This project's own.
use Rattle.std.specs.Prelude.{ℕ, List, [], ◌∷◌, None, Some, if◌then◌else◌, ◌+◌, ◌-◌, ◌^◌, min, string_bytes}
use Rattle.std.specs.declared.option.Option.{Option}
use Rattle.std.specs.Str.{bytes_eq}
use Rattle.std.specs.declared.string.String.{String}
use Rattle.std.specs.declared.vec.Vec.{Vec}
use Rattle.std.specs.Global.{Global}

-- a count that stops at 2^64 - 1
abbrev pub counted : ℕ → ℕ
counted n = min (n + 1) (2 ^ 64 - 1)

-- a source in memory: the bytes left, the numbers of the calls that fail, the calls so far, the faults
pub record MemorySource : Type 0 where
  pub left : List ℕ
  pub failing : List ℕ
  pub calls : ℕ
  pub faults : ℕ

-- a sink in memory: the bytes taken, the most bytes of one write, the numbers of the calls that fail, the calls so
-- far, the faults, and the room for `taken` that has been had already
pub record MemorySink : Type 0 where
  pub taken : List ℕ
  pub piece : ℕ
  pub failing : List ℕ
  pub calls : ℕ
  pub faults : ℕ
  pub room : ℕ

-- a named file
pub record NamedFile : Type 0 where
  pub name : List ℕ
  pub bytes : List ℕ

-- a shelf in memory: its files, the numbers of the calls that fail, the calls so far (loads and saves together),
-- and the failed loads and saves
pub record MemoryShelf : Type 0 where
  pub files : List NamedFile
  pub failing : List ℕ
  pub calls : ℕ
  pub loads : ℕ
  pub saves : ℕ

-- the later of two, where it is there
abbrev pub or_else : Option (List ℕ) → Option (List ℕ) → Option (List ℕ)
or_else None before = before
or_else (Some later) before = Some later

-- the last file of that name
abbrev pub file_in : List NamedFile → List ℕ → Option (List ℕ)
file_in [] name = None
file_in (file ∷ rest) name = or_else (file_in rest name) (if bytes_eq file.name name then Some file.bytes else None)

-- a name and bytes of the program as a named file
abbrev pub file_of : String Global × Vec ℕ Global → NamedFile
file_of pair = record { name = string_bytes pair.0; bytes = pair.1.items }
