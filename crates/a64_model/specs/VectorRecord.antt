-- The record of the vector registers in a signal frame (Linux for arm64: struct fpsimd_context, with its magic number and size),
-- here with its words of status and control 0.
use Rattle.std.specs.Prelude.{ℕ, zero, suc, Bool, ◌==◌, ◌&&◌, if◌then◌else◌, List, [], ◌∷◌, ◌++◌, drop, replicate, Option, Some, None}
use Rattle.std.specs.Int.{from_le_bytes, to_le_bytes, w32, w128}

-- the bytes of vector registers, one after the other
unfoldable pub vectors_bytes : List ℕ → List ℕ
vectors_bytes [] = []
vectors_bytes (n ∷ ns) = to_le_bytes w128 n ++ vectors_bytes ns

-- the record of the registers v0 to v31: its magic number FPSIMD_MAGIC, its size, status and control, and the registers
abbrev pub vector_record : List ℕ → List ℕ
vector_record v = to_le_bytes w32 0x46508001 ++ to_le_bytes w32 528 ++ replicate 8 0 ++ vectors_bytes v

-- so many vector registers, from the first of these bytes on
unfoldable pub vectors_in : List ℕ → ℕ → List ℕ
vectors_in bytes zero = []
vectors_in bytes (suc n) = from_le_bytes w128 bytes ∷ vectors_in (drop 16 bytes) n

-- these bytes begin as a record of vector registers does
abbrev pub is_vector_record : List ℕ → Bool
is_vector_record bytes = (from_le_bytes w32 bytes == 0x46508001) && (from_le_bytes w32 (drop 4 bytes) == 528)

-- the registers of a record
abbrev pub recorded_vectors : List ℕ → Option (List ℕ)
recorded_vectors bytes = if is_vector_record bytes then Some (vectors_in (drop 16 bytes) 32) else None
