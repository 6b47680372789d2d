-- C and V as they are computed: by a bit above the width, and by the signs.
use Rattle.std.proofs.Common.{ℕ, ◌≡◌, ◌+◌, ◌<◌, ◌≤◌, ◌&&◌, ◌||◌, arith}
use Rattle.std.specs.Prelude.{nat_le}
use Rattle.std.proofs.Math.Bool.{not}
use Rattle.std.proofs.lemmas.Bool.Decides.{nat_tests}
use Rattle.a64_model.specs.Arithmetic.{modulus, is_negative, add_with_carry, carries, overflows}
use Rattle.a64_model.specs.declared.operands.Width.{Width}
use Rattle.a64_model.specs.declared.operands.Width.TheVariants.{W, X}

-- the sum of the unsigned numbers has a bit above the width
pub carries_past : (w : Width) (a b carry : ℕ) → carries w a b carry ≡ nat_le (modulus w) (a + b + carry)
carries_past W a b carry = grind (arith, nat_tests)
carries_past X a b carry = grind (arith, nat_tests)

-- both numbers are negative and the result is not, or neither is and the result is
pub overflows_by_signs : (w : Width) (a b carry : ℕ) → a < modulus w → b < modulus w → carry ≤ 1 →
    overflows w a b carry ≡ ((is_negative w a && is_negative w b && not (is_negative w (add_with_carry w a b carry))) || (not (is_negative w a) && not (is_negative w b) && is_negative w (add_with_carry w a b carry)))
overflows_by_signs W a b carry g h k = grind (arith, nat_tests)
overflows_by_signs X a b carry g h k = grind (arith, nat_tests)
