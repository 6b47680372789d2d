-- The operands that many rows have, by the bits of the word.
use Rattle.std.specs.Prelude.{ℕ, ◌/◌, ◌%◌, ◌^◌, Bool, ◌==◌, if◌then◌else◌}
use Rattle.std.proofs.lemmas.Nat.{mod_below}
use Rattle.std.proofs.Common.{lit<}
use Rattle.a64_model.specs.Bits.{bit}
use Rattle.a64_model.specs.declared.operands.Reg.{Reg}
use Rattle.a64_model.specs.declared.operands.Width.{Width}
use Rattle.a64_model.specs.declared.operands.Width.TheVariants.{W, X}
use Rattle.a64_model.specs.declared.operands.Size.{Size}
use Rattle.a64_model.specs.declared.operands.Size.TheVariants.{Byte, Half, Word, Double}
use Rattle.a64_model.specs.declared.operands.Condition.{Condition}
use Rattle.a64_model.specs.declared.operands.Condition.TheVariants as conditions
use Rattle.a64_model.specs.declared.operands.ShiftKind.{ShiftKind}
use Rattle.a64_model.specs.declared.operands.ShiftKind.TheVariants as shifts
use Rattle.a64_model.specs.declared.operands.Extend.{Extend}
use Rattle.a64_model.specs.declared.operands.Extend.TheVariants as extends
use Rattle.a64_model.specs.declared.operands.AddOp.{AddOp}
use Rattle.a64_model.specs.declared.operands.AddOp.TheVariants.{Add, Subtract}
use Rattle.a64_model.specs.declared.operands.LogicalOp.{LogicalOp}
use Rattle.a64_model.specs.declared.operands.LogicalOp.TheVariants as logical

-- the register whose number stands in the five bits from `low` upwards
abbrev pub reg : ℕ → ℕ → Reg
reg word low = record { number = word / 2 ^ low % 32; in_range = mod_below (word / 2 ^ low) 32 (lit< tt) }

-- two register fields name one register
abbrev pub is_same : Reg → Reg → Bool
is_same r s = r.number == s.number

-- the field names the zero register or the stack pointer
abbrev pub is_31 : Reg → Bool
is_31 r = r.number == 31

-- sf, bit 31: 64 bits where it is set, and else 32
abbrev pub width : ℕ → Width
width word = if bit word 31 then X else W

-- the number of bits of a width
abbrev pub width_bits : Width → ℕ
width_bits W = 32
width_bits X = 64

-- size: the binary logarithm of the number of bytes
abbrev pub size : ℕ → Size
size n = if n == 0 then Byte else (if n == 1 then Half else (if n == 2 then Word else Double))

-- cond: the condition of a number of four bits (DDI 0487, C1.2.4)
abbrev pub condition : ℕ → Condition
condition n =
    if n == 0 then conditions.Equal else (
    if n == 1 then conditions.NotEqual else (
    if n == 2 then conditions.CarrySet else (
    if n == 3 then conditions.CarryClear else (
    if n == 4 then conditions.Minus else (
    if n == 5 then conditions.Plus else (
    if n == 6 then conditions.OverflowSet else (
    if n == 7 then conditions.OverflowClear else (
    if n == 8 then conditions.Higher else (
    if n == 9 then conditions.LowerOrSame else (
    if n == 10 then conditions.GreaterOrEqual else (
    if n == 11 then conditions.Less else (
    if n == 12 then conditions.Greater else (
    if n == 13 then conditions.LessOrEqual else (
    if n == 14 then conditions.Always else conditions.AlwaysToo))))))))))))))

-- shift: DecodeShift
abbrev pub shift : ℕ → ShiftKind
shift n =
    if n == 0 then shifts.Left else (
    if n == 1 then shifts.LogicalRight else (
    if n == 2 then shifts.ArithmeticRight else shifts.RotateRight))

-- option: DecodeRegExtend
abbrev pub extend : ℕ → Extend
extend n =
    if n == 0 then extends.UnsignedByte else (
    if n == 1 then extends.UnsignedHalf else (
    if n == 2 then extends.UnsignedWord else (
    if n == 3 then extends.UnsignedDouble else (
    if n == 4 then extends.SignedByte else (
    if n == 5 then extends.SignedHalf else (
    if n == 6 then extends.SignedWord else extends.SignedDouble))))))

-- op, bit 30: a subtraction where it is set
abbrev pub add_op : ℕ → AddOp
add_op word = if bit word 30 then Subtract else Add

-- opc of the logical operations
abbrev pub logical_op : ℕ → LogicalOp
logical_op opc =
    if opc == 0 then logical.And else (
    if opc == 1 then logical.Or else (
    if opc == 2 then logical.ExclusiveOr else logical.AndSetFlags))
