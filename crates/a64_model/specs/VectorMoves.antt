-- VectorMoves: what the rows that move vector registers ask of memory, and what they do to the registers once it has answered
-- (DDI 0487, C7.2: LDR, STR, LDP and STP (SIMD&FP), DUP (general)). A vector register is a number of 128 bits.
use Rattle.std.specs.Prelude.{ℕ, zero, suc, ◌+◌, ◌*◌, ◌%◌, ◌^◌, Bool, true, false, if◌then◌else◌, List, ◌++◌, drop, replicate, slice_index, slice_set, Result}
use Rattle.std.specs.Int.{from_le_bytes, to_le_bytes, w128}
use Rattle.a64_model.specs.Registers.{x_zr, x_sp, advanced}
use Rattle.a64_model.specs.Shifts.{sign_extended}
use Rattle.a64_model.specs.Memory.{low_part}
use Rattle.a64_model.specs.ExecLoadsStores.{with_base}
use Rattle.a64_model.specs.declared.regs.Regs.{Regs}
use Rattle.a64_model.specs.declared.operands.Reg.{Reg}
use Rattle.a64_model.specs.declared.operands.Size.{Size}
use Rattle.a64_model.specs.declared.operands.Size.TheVariants.{Byte, Half, Word, Double}
use Rattle.a64_model.specs.declared.instr.LoadStoreVector.{LoadStoreVector}
use Rattle.a64_model.specs.declared.instr.LoadStoreVectorPair.{LoadStoreVectorPair}
use Rattle.a64_model.specs.declared.instr.Duplicate.{Duplicate}
use Rattle.a64_model.specs.declared.access.Access.{Access}
use Rattle.a64_model.specs.declared.access.Access.TheVariants as access
use Rattle.a64_model.specs.declared.access.Answer.{Answer}
use Rattle.a64_model.specs.declared.access.Answer.TheVariants as answer
use Rattle.a64_model.specs.declared.access.Next.{Next}

-- V[n]: what a vector register holds
abbrev pub vector : Regs → Reg → ℕ
vector regs r = slice_index regs.v r.number

-- V[n] written
abbrev pub with_vector : Regs → Reg → ℕ → Regs
with_vector regs r value = record regs { v = slice_set regs.v r.number value }

-- ---- LDR and STR of a Q register: 16 bytes, the lowest first

-- the base plus so many accesses
abbrev pub vector_address : Regs → LoadStoreVector → ℕ
vector_address regs i = (x_sp regs i.rn + i.imm12 * 16) % 2 ^ 64

-- the 16 bytes of a register, and zeros
abbrev pub vector_bytes : ℕ → List ℕ
vector_bytes n = to_le_bytes w128 n ++ replicate 16 0

abbrev pub vector_access : Regs → LoadStoreVector → ℕ → Access
vector_access regs i at = if i.load then access.Load at 16 false else access.Store at 16 (vector_bytes (vector regs i.rt)) false

abbrev pub need_vector_access : Regs → LoadStoreVector → Result Access Next
need_vector_access regs i = with_base regs i.rn (vector_access regs i (vector_address regs i))

-- the register after a load, whose bytes are the answer
abbrev pub with_loaded_vector : Regs → Reg → Answer → Regs
with_loaded_vector regs rt (answer.Bytes bytes) = with_vector regs rt (from_le_bytes w128 bytes)
with_loaded_vector regs rt _ = regs

abbrev pub load_store_vector : Regs → LoadStoreVector → Answer → Regs
load_store_vector regs i a = advanced (with_loaded_vector regs i.rt a)

-- ---- LDP and STP of Q registers: one access of 32 bytes, Rt first

-- the base plus a signed number of registers
abbrev pub vector_pair_address : Regs → LoadStoreVectorPair → ℕ
vector_pair_address regs i = (x_sp regs i.rn + sign_extended 11 (i.imm7 * 16)) % 2 ^ 64

-- the bytes of two registers
abbrev pub vector_pair_bytes : ℕ → ℕ → List ℕ
vector_pair_bytes a b = to_le_bytes w128 a ++ to_le_bytes w128 b

abbrev pub vector_pair_access : Regs → LoadStoreVectorPair → ℕ → Access
vector_pair_access regs i at =
    if i.load then access.Load at 32 false
    else access.Store at 32 (vector_pair_bytes (vector regs i.rt) (vector regs i.rt2)) false

abbrev pub need_vector_pair : Regs → LoadStoreVectorPair → Result Access Next
need_vector_pair regs i = with_base regs i.rn (vector_pair_access regs i (vector_pair_address regs i))

-- the two registers after a load, whose bytes are the answer
abbrev pub with_vector_pair : Regs → LoadStoreVectorPair → Answer → Regs
with_vector_pair regs i (answer.Bytes bytes) =
    with_vector (with_vector regs i.rt (from_le_bytes w128 bytes)) i.rt2 (from_le_bytes w128 (drop 16 bytes))
with_vector_pair regs i _ = regs

abbrev pub load_store_vector_pair : Regs → LoadStoreVectorPair → Answer → Regs
load_store_vector_pair regs i a = advanced (with_vector_pair regs i a)

-- ---- DUP from a general register

-- Replicate: so many copies of an element of so many bits, the first one lowest
abbrev pub copies : ℕ → ℕ → ℕ → ℕ
copies bits element zero = 0
copies bits element (suc n) = element + copies bits element n * 2 ^ bits

-- the low bytes of a number over 8 bytes
abbrev pub repeated : Size → ℕ → ℕ
repeated Byte n = copies 8 (low_part Byte n) 8
repeated Half n = copies 16 (low_part Half n) 4
repeated Word n = copies 32 (low_part Word n) 2
repeated Double n = n

-- and over 8 bytes, with zeros above them, or over the whole register
abbrev pub duplicated : Size → Bool → ℕ → ℕ
duplicated s false n = repeated s n
duplicated s true n = copies 64 (repeated s n) 2

abbrev pub duplicate : Regs → Duplicate → Regs
duplicate regs i = advanced (with_vector regs i.rd (duplicated i.size i.whole (x_zr regs i.rn)))
