-- Numbers of a width.
use Rattle.std.proofs.Common.{ℕ, ◌≡◌, ◌<◌, ◌≤◌, ◌%◌, ◌^◌, bit_or, arith, refl}
use Rattle.std.specs.Int.RustNames.{bit_xor}
use Rattle.std.proofs.lemmas.Nat.{or_lt, xor_lt}
use Rattle.a64_model.specs.Operands.{width_bits}
use Rattle.a64_model.specs.Arithmetic.{modulus, low}
use Rattle.a64_model.specs.declared.operands.Width.{Width}
use Rattle.a64_model.specs.declared.operands.Width.TheVariants.{W, X}

pub or_below : (w : Width) (a b : ℕ) → a < modulus w → b < modulus w → bit_or a b < modulus w
or_below W a b g h = or_lt 32 a b g h
or_below X a b g h = or_lt 64 a b g h

pub xor_below : (w : Width) (a b : ℕ) → a < modulus w → b < modulus w → bit_xor a b < modulus w
xor_below W a b g h = xor_lt 32 a b g h
xor_below X a b g h = xor_lt 64 a b g h

-- 64 bits keep what is left in a width
pub low_mod : (w : Width) (n : ℕ) → low w (n % 2 ^ 64) ≡ low w n
low_mod W n = omega arith
low_mod X n = omega arith

pub width_bits_le : (w : Width) → width_bits w ≤ 64
width_bits_le W = omega arith
width_bits_le X = omega arith

pub modulus_is : (w : Width) → 2 ^ width_bits w ≡ modulus w
modulus_is W = refl
modulus_is X = refl
