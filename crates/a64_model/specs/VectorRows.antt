-- The rows that move vector registers (DDI 0487, C4.1: Load/store register (unsigned immediate) and pair (offset) with V,
-- and Advanced SIMD copy): the fields of each row, or none where its condition fails.
use Rattle.std.specs.Prelude.{ℕ, Bool, true, false, Option, Some, None, if◌then◌else◌}
use Rattle.std.specs.Option.{option_and_then}
use Rattle.a64_model.specs.Bits.{bit, bits}
use Rattle.a64_model.specs.Operands.{reg}
use Rattle.a64_model.specs.LoadsStores.{may_pair}
use Rattle.a64_model.specs.declared.instr.Instr.{Instr}
use Rattle.a64_model.specs.declared.instr.Instr.TheVariants as instr
use Rattle.a64_model.specs.declared.instr.TheConstants.{WORD_ALIGNED}
use Rattle.a64_model.specs.declared.operands.Size.{Size}
use Rattle.a64_model.specs.declared.operands.Size.TheVariants.{Byte, Half, Word, Double}

-- the instruction is of a row that moves vector registers
abbrev pub is_vector : Instr → Bool
is_vector (instr.LoadStoreVector i) = true
is_vector (instr.LoadStoreVectorPair i) = true
is_vector (instr.Duplicate i) = true
is_vector _ = false

-- Load/store register (unsigned immediate), LDR and STR of a Q register: imm12 21 to 10
abbrev pub load_store_vector : Bool → ℕ → Option Instr
load_store_vector load word =
    Some (instr.LoadStoreVector (record {
      aligned = WORD_ALIGNED;
      load = load;
      imm12 = bits word 21 10;
      rn = reg word 5;
      rt = reg word 0;
    }))

-- Load/store register pair (offset), LDP and STP of Q registers: imm7 21 to 15. What LDP does into one register twice the
-- manual leaves open, and here it has no row
abbrev pub load_store_vector_pair : Bool → ℕ → Option Instr
load_store_vector_pair load word =
    if may_pair load (reg word 0) (reg word 10)
    then Some (instr.LoadStoreVectorPair (record {
      aligned = WORD_ALIGNED;
      load = load;
      imm7 = bits word 21 15;
      rt2 = reg word 10;
      rn = reg word 5;
      rt = reg word 0;
    }))
    else None

-- the size of an element: the place of the lowest bit that is set of imm5, 20 to 16, tells it
abbrev pub element_size : ℕ → Option Size
element_size word =
    if bit word 16 then Some Byte else (
    if bit word 17 then Some Half else (
    if bit word 18 then Some Word else (
    if bit word 19 then Some Double else None)))

-- one element of 8 bytes alone is reserved
abbrev pub may_duplicate : Size → Bool → Bool
may_duplicate Double whole = whole
may_duplicate _ whole = true

-- Advanced SIMD copy, DUP (general): Q, bit 30, fills the whole register
abbrev pub duplicate : ℕ → Option Instr
duplicate word =
    option_and_then (λ s.
    if may_duplicate s (bit word 30)
    then Some (instr.Duplicate (record {
      aligned = WORD_ALIGNED;
      size = s;
      whole = bit word 30;
      rn = reg word 5;
      rd = reg word 0;
    }))
    else None) (element_size word)
