-- Products and quotients (DDI 0487, C6.2: MADD, MSUB, SMADDL and its kin, SMULH, UMULH, UDIV, SDIV).
use Rattle.std.specs.Prelude.{ℕ, ◌+◌, ◌-◌, ◌*◌, ◌/◌, ◌%◌, ◌^◌, Bool, ◌&&◌, ◌||◌, ◌==◌, if◌then◌else◌}
use Rattle.std.proofs.Math.Bool.{not}
use Rattle.a64_model.specs.Arithmetic.{modulus, low, is_negative}
use Rattle.a64_model.specs.Shifts.{sign_extended, widened}
use Rattle.a64_model.specs.declared.operands.Width.{Width}
use Rattle.a64_model.specs.declared.operands.Width.TheVariants.{X}
use Rattle.a64_model.specs.declared.operands.AddOp.{AddOp}
use Rattle.a64_model.specs.declared.operands.AddOp.TheVariants.{Add, Subtract}

-- MADD, MSUB: the addend plus or minus the product, in the width
abbrev pub multiplied : Width → AddOp → ℕ → ℕ → ℕ → ℕ
multiplied w Add c a b = low w (c + a * b)
multiplied w Subtract c a b = low w (c + (modulus w - low w (a * b)))

-- the low half of a register, read with a sign or without, as 64 bits
abbrev pub low_half : Bool → ℕ → ℕ
low_half signed n = if signed then sign_extended 32 n else n % 2 ^ 32

-- SMULH, UMULH: the upper 64 bits of the product of 128 bits
abbrev pub high_product : Bool → ℕ → ℕ → ℕ
high_product signed a b = if signed then widened X a * widened X b % 2 ^ 128 / 2 ^ 64 else a * b / 2 ^ 64

-- UDIV: 0 where the divisor is 0
abbrev pub unsigned_quotient : ℕ → ℕ → ℕ
unsigned_quotient a b = if b == 0 then 0 else a / b

-- the absolute value of a number of the width that is read with a sign
abbrev pub magnitude : Width → ℕ → ℕ
magnitude w n = if is_negative w n then modulus w - n else n

-- one of two numbers of the width is below 0, and the other is not
abbrev pub have_other_signs : Width → ℕ → ℕ → Bool
have_other_signs w a b = (is_negative w a && not (is_negative w b)) || (not (is_negative w a) && is_negative w b)

-- SDIV: the quotient rounded towards zero, and 0 where the divisor is 0
abbrev pub signed_quotient : Width → ℕ → ℕ → ℕ
signed_quotient w a b =
    if b == 0 then 0 else (
    if have_other_signs w a b then low w (modulus w - magnitude w a / magnitude w b) else magnitude w a / magnitude w b)
