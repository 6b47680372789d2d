-- Loads and Stores (DDI 0487, C4.1): the fields of each row, or none where its condition fails.
use Rattle.std.specs.Prelude.{ℕ, Bool, true, false, ◌&&◌, ◌||◌, ◌==◌, Option, Some, None, if◌then◌else◌}
use Rattle.std.specs.Option.{option_map}
use Rattle.std.proofs.Math.Bool.{not}
use Rattle.a64_model.specs.Bits.{bit, bits}
use Rattle.a64_model.specs.Operands.{reg, is_same, is_31, size, extend}
use Rattle.a64_model.specs.declared.instr.Instr.{Instr}
use Rattle.a64_model.specs.declared.instr.Instr.TheVariants as instr
use Rattle.a64_model.specs.declared.instr.TheConstants.{WORD_ALIGNED}
use Rattle.a64_model.specs.declared.operands.Reg.{Reg}
use Rattle.a64_model.specs.declared.operands.Size.{Size}
use Rattle.a64_model.specs.declared.operands.Size.TheVariants.{Byte, Half, Double}
use Rattle.a64_model.specs.declared.operands.Transfer.{Transfer}
use Rattle.a64_model.specs.declared.operands.Transfer.TheVariants as transfers
use Rattle.a64_model.specs.declared.operands.Indexing.{Indexing}
use Rattle.a64_model.specs.declared.operands.Indexing.TheVariants.{Offset}
use Rattle.a64_model.specs.declared.operands.LiteralKind.{LiteralKind}
use Rattle.a64_model.specs.declared.operands.LiteralKind.TheVariants as literals
use Rattle.a64_model.specs.declared.operands.PairKind.{PairKind}
use Rattle.a64_model.specs.declared.operands.PairKind.TheVariants as pairs
use Rattle.a64_model.specs.declared.operands.AtomicOp.{AtomicOp}

-- ---- what an access of one register does: size 31 to 30, opc 23 to 22

-- the base register stays as it is
abbrev pub is_offset : Indexing → Bool
is_offset Offset = true
is_offset _ = false

-- opc 2 loads with a sign to 64 bits; size 3 is a prefetch, where the form has one
abbrev pub load_signed_64 : Size → Bool → Option Transfer
load_signed_64 Double prefetches = if prefetches then Some transfers.Prefetch else None
load_signed_64 _ prefetches = Some transfers.LoadSigned64

-- opc 3 loads with a sign to 32 bits, from fewer
abbrev pub load_signed_32 : Size → Option Transfer
load_signed_32 Byte = Some transfers.LoadSigned32
load_signed_32 Half = Some transfers.LoadSigned32
load_signed_32 _ = None

-- what opc does at a size, in a form that has prefetches or has not
abbrev pub transfer : Size → ℕ → Bool → Option Transfer
transfer s opc prefetches =
    if opc == 0 then Some transfers.Store else (
    if opc == 1 then Some transfers.Load else (
    if opc == 2 then load_signed_64 s prefetches else load_signed_32 s))

-- where the base is written back it is the stack pointer or no register that is moved. The manual leaves open what a
-- word does that is otherwise (CONSTRAINED UNPREDICTABLE, at each of these instructions in C6.2); here it has no row
abbrev pub may_write_back : Indexing → Reg → Reg → Bool
may_write_back Offset rn rt = true
may_write_back _ rn rt = is_31 rn || not (is_same rn rt)

-- ---- the rows

-- Load/store register (unsigned immediate): imm12 21 to 10
abbrev pub load_store_unsigned : ℕ → Option Instr
load_store_unsigned word =
    let s = size (bits word 31 30) in
    option_map (λ t. instr.LoadStoreUnsigned (record {
      aligned = WORD_ALIGNED;
      size = s;
      transfer = t;
      imm12 = bits word 21 10;
      rn = reg word 5;
      rt = reg word 0;
    })) (transfer s (bits word 23 22) true)

-- Load/store register (unscaled immediate), (immediate post-indexed) and (immediate pre-indexed): imm9 20 to 12
abbrev pub load_store_indexed : Indexing → ℕ → Option Instr
load_store_indexed indexing word =
    let s = size (bits word 31 30) in
    if may_write_back indexing (reg word 5) (reg word 0)
    then option_map (λ t. instr.LoadStoreIndexed (record {
      aligned = WORD_ALIGNED;
      imm9 = bits word 20 12;
      size = s;
      transfer = t;
      indexing = indexing;
      rn = reg word 5;
      rt = reg word 0;
    })) (transfer s (bits word 23 22) (is_offset indexing))
    else None

-- Load/store register (register offset): option 15 to 13 has to extend 32 or 64 bits, so it is 2, 3, 6 or 7, those
-- with bit 14; bit 12 scales
abbrev pub load_store_register : ℕ → Option Instr
load_store_register word =
    let s = size (bits word 31 30) in
    if bit word 14
    then option_map (λ t. instr.LoadStoreRegister (record {
      aligned = WORD_ALIGNED;
      size = s;
      transfer = t;
      extend = extend (bits word 15 13);
      scaled = bit word 12;
      rm = reg word 16;
      rn = reg word 5;
      rt = reg word 0;
    })) (transfer s (bits word 23 22) true)
    else None

-- opc 31 to 30 of a literal
abbrev pub literal_kind : ℕ → LiteralKind
literal_kind opc =
    if opc == 0 then literals.Word else (
    if opc == 1 then literals.Double else (
    if opc == 2 then literals.SignedWord else literals.Prefetch))

-- Load register (literal): imm19 23 to 5
abbrev pub load_literal : ℕ → Option Instr
load_literal word =
    Some (instr.LoadLiteral (record {
      imm19 = bits word 23 5;
      kind = literal_kind (bits word 31 30);
      rt = reg word 0;
    }))

-- opc 31 to 30 of a pair: 0 W, 1 signed W and load only, 2 X
abbrev pub pair_kind : ℕ → Bool → Option PairKind
pair_kind opc load =
    if opc == 0 then Some pairs.Word else (
    if opc == 2 then Some pairs.Double else (
    if opc == 1 && load then Some pairs.SignedWord else None))

-- a load into two registers has two different ones, also where both are the zero register; otherwise the manual leaves
-- open what the word does, and here it has no row
abbrev pub may_pair : Bool → Reg → Reg → Bool
may_pair load rt rt2 = not (load && is_same rt rt2)

-- Load/store register pair (post-indexed), (offset) and (pre-indexed): load 22, imm7 21 to 15
abbrev pub load_store_pair : Indexing → ℕ → Option Instr
load_store_pair indexing word =
    let rn = reg word 5 in
    let rt = reg word 0 in
    let rt2 = reg word 10 in
    let load = bit word 22 in
    if may_write_back indexing rn rt && may_write_back indexing rn rt2 && may_pair load rt rt2
    then option_map (λ kind. instr.LoadStorePair (record {
      aligned = WORD_ALIGNED;
      kind = kind;
      load = load;
      indexing = indexing;
      imm7 = bits word 21 15;
      rt2 = rt2;
      rn = rn;
      rt = rt;
    })) (pair_kind (bits word 31 30) load)
    else None

-- the status goes to a register that is neither stored nor the base, also where it is the zero register; otherwise the
-- manual leaves open what the word does, and here it has no row
abbrev pub may_take_status : Reg → Reg → Reg → Bool
may_take_status rs rt rn = not (is_same rs rt) && (is_31 rn || not (is_same rs rn))

-- Load/store exclusive register: STXR, STLXR. Rs 20 to 16 is not Rt, nor Rn unless that is 31
abbrev pub store_exclusive : ℕ → Option Instr
store_exclusive word =
    if may_take_status (reg word 16) (reg word 0) (reg word 5)
    then Some (instr.StoreExclusive (record {
      aligned = WORD_ALIGNED;
      size = size (bits word 31 30);
      rs = reg word 16;
      rn = reg word 5;
      rt = reg word 0;
    }))
    else None

-- Load/store exclusive register: LDXR, LDAXR
abbrev pub load_exclusive : ℕ → Option Instr
load_exclusive word =
    Some (instr.LoadExclusive (record {
      aligned = WORD_ALIGNED;
      size = size (bits word 31 30);
      rn = reg word 5;
      rt = reg word 0;
    }))

-- Load/store ordered: STLR
abbrev pub store_ordered : ℕ → Option Instr
store_ordered word =
    Some (instr.StoreOrdered (record {
      aligned = WORD_ALIGNED;
      size = size (bits word 31 30);
      rn = reg word 5;
      rt = reg word 0;
    }))

-- Load/store ordered: LDAR
abbrev pub load_ordered : ℕ → Option Instr
load_ordered word =
    Some (instr.LoadOrdered (record {
      aligned = WORD_ALIGNED;
      size = size (bits word 31 30);
      rn = reg word 5;
      rt = reg word 0;
    }))

-- Compare and swap: CAS, with acquire (22) and release (15)
abbrev pub compare_swap : ℕ → Option Instr
compare_swap word =
    Some (instr.CompareSwap (record {
      aligned = WORD_ALIGNED;
      size = size (bits word 31 30);
      rs = reg word 16;
      rn = reg word 5;
      rt = reg word 0;
    }))

-- Atomic memory operations: LDADD, LDCLR, LDEOR, LDSET, SWP, with acquire (23) and release (22)
abbrev pub atomic : AtomicOp → ℕ → Option Instr
atomic op word =
    Some (instr.Atomic (record {
      aligned = WORD_ALIGNED;
      size = size (bits word 31 30);
      op = op;
      rs = reg word 16;
      rn = reg word 5;
      rt = reg word 0;
    }))
