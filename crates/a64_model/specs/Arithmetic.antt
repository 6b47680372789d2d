-- Arithmetic on numbers of a width: AddWithCarry of the Arm manual (DDI 0487, shared pseudocode), and the logical
-- operations.
use Rattle.std.specs.Prelude.{ℕ, ◌+◌, ◌-◌, ◌*◌, ◌/◌, ◌%◌, ◌^◌, Bool, true, false, ◌==◌, nat_le, bit_and, bit_or, bit_xor}
use Rattle.std.proofs.Math.Bool.{not}
use Rattle.std.specs.Int.{from_bool}
use Rattle.a64_model.specs.declared.operands.Width.{Width}
use Rattle.a64_model.specs.declared.operands.Width.TheVariants.{W, X}
use Rattle.a64_model.specs.declared.operands.AddOp.{AddOp}
use Rattle.a64_model.specs.declared.operands.AddOp.TheVariants.{Add, Subtract}
use Rattle.a64_model.specs.declared.operands.LogicalOp.{LogicalOp}
use Rattle.a64_model.specs.declared.operands.LogicalOp.TheVariants.{And, Or, ExclusiveOr, AndSetFlags}

-- 2 to the number of bits of a width
abbrev pub modulus : Width → ℕ
modulus W = 2 ^ 32
modulus X = 2 ^ 64

-- the low bits of a number, as many as the width has
abbrev pub low : Width → ℕ → ℕ
low w n = n % modulus w

-- the highest bit of a number of the width is set
abbrev pub is_negative : Width → ℕ → Bool
is_negative w n = nat_le (modulus w / 2) n

-- NOT: each bit of a number of the width is the other one
abbrev pub complement : Width → ℕ → ℕ
complement w n = modulus w - 1 - n

-- SInt, plus half the modulus: what a number of the width means with a sign, moved up so that it is natural
abbrev pub biased : Width → ℕ → ℕ
biased w n = (n + modulus w / 2) % modulus w

-- N:Z:C:V as a number
abbrev pub flags : Bool → Bool → Bool → Bool → ℕ
flags n z c v = from_bool n * 8 + from_bool z * 4 + from_bool c * 2 + from_bool v

-- ---- AddWithCarry

-- the result: the low bits of the sum
abbrev pub add_with_carry : Width → ℕ → ℕ → ℕ → ℕ
add_with_carry w a b carry = low w (a + b + carry)

-- C: the result is not the sum of the unsigned numbers
abbrev pub carries : Width → ℕ → ℕ → ℕ → Bool
carries w a b carry = not (add_with_carry w a b carry == a + b + carry)

-- V: the result, with a sign, is not the sum of the signed numbers
abbrev pub overflows : Width → ℕ → ℕ → ℕ → Bool
overflows w a b carry = not (biased w (add_with_carry w a b carry) + modulus w / 2 == biased w a + biased w b + carry)

-- its flags
abbrev pub add_with_carry_flags : Width → ℕ → ℕ → ℕ → ℕ
add_with_carry_flags w a b carry =
    flags (is_negative w (add_with_carry w a b carry)) (add_with_carry w a b carry == 0) (carries w a b carry) (overflows w a b carry)

-- what is added: a subtraction adds NOT of the operand, and 1
abbrev pub addend : Width → AddOp → ℕ → ℕ
addend w Add b = b
addend w Subtract b = complement w b

-- the carry in, where it is not the C flag
abbrev pub carry_in : AddOp → ℕ
carry_in Add = 0
carry_in Subtract = 1

-- ---- logical operations

abbrev pub logical : LogicalOp → ℕ → ℕ → ℕ
logical And a b = bit_and a b
logical Or a b = bit_or a b
logical ExclusiveOr a b = bit_xor a b
logical AndSetFlags a b = bit_and a b

-- the operation sets the flags
abbrev pub sets_flags : LogicalOp → Bool
sets_flags AndSetFlags = true
sets_flags _ = false

-- N and Z of the result; C and V are clear
abbrev pub logical_flags : Width → ℕ → ℕ
logical_flags w n = flags (is_negative w n) (n == 0) false false
