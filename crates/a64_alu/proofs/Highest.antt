-- The highest bit set of a number.
use Rattle.std.proofs.Common.{◌≡◌, ℕ, ◌+◌, ◌*◌, ◌^◌, ◌<◌, ◌≤◌, arith, inl, inr}
use Rattle.std.proofs.Math.Pow.{pow_mono}
use Rattle.std.proofs.lemmas.Nat.{leading_length}
use Rattle.std.proofs.lemmas.Bool.{cases_lt}
use Rattle.std.specs.Int.{leading_zeros, w32}
use Rattle.a64_model.specs.BitMasks.{highest_set_bit}

-- a number of seven bits has it at place 6 at most
pub highest_set_bit-le : (n : ℕ) → n < 128 → highest_set_bit n ≤ 6
highest_set_bit-le n h = below (leading_length 32 n (omega arith))
  where
    below : ((m : ℕ) × (leading_zeros w32 n + m ≡ 32) × (n < 2 ^ m) × (2 ^ m ≤ 2 * n + 1)) → highest_set_bit n ≤ 6
    below (m, sum, _, to) =
        elim (cases_lt m 8) [
          | inl less ↦ omega arith
          | inr more ↦ let large : 2 ^ 8 ≤ 2 ^ m = pow_mono more in absurd (omega arith)
        ]
