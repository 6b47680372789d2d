-- N and imms are those of a pattern where two bits at least of N and then the complement of imms are set.
use Rattle.std.proofs.Common.{◌≡◌, ℕ, zero, suc, ◌+◌, ◌-◌, ◌*◌, ◌%◌, ◌<◌, ◌==◌, Bool, true, false, ◌&&◌, refl, sym, ap, ◌∙◌, arith, inl, inr}
use Rattle.std.specs.Prelude.{nat_le}
use Rattle.std.specs.Int.Count.{ones}
use Rattle.std.proofs.Math.Bool.{not}
use mathlib.Core.Bool.{beq}
use Rattle.std.proofs.lemmas.Bool.{and_parts, cases_lt}
use Rattle.a64_model.specs.declared.operands.Width.{Width}
use Rattle.a64_model.specs.BitMasks.{element_log, element_size, may_have, is_pattern}

-- a test of each number below m
abbrev passes_below : (ℕ → Bool) → ℕ → Bool
passes_below test zero = true
passes_below test (suc m) = test m && passes_below test m

passes_below-at : (test : ℕ → Bool) (m k : ℕ) → k < m → passes_below test m ≡ true → test k ≡ true
passes_below-at test zero k less passed = absurd (omega arith)
passes_below-at test (suc m) k less passed =
    let parts : (test m ≡ true) × (passes_below test m ≡ true) = and_parts (test m) (passes_below test m) passed in
    elim (cases_lt k m) [
      | inl below ↦ passes_below-at test m k below parts.1
      | inr above ↦ let same : k ≡ m = omega arith in ap test same ∙ parts.0
    ]

beq-true : (a b : Bool) → beq a b ≡ true → a ≡ b
beq-true true true is = refl
beq-true true false is = sym is
beq-true false true is = is
beq-true false false is = refl

-- two bits are set
abbrev has_two_bits : ℕ → ℕ → Bool
has_two_bits n imms = nat_le 2 (ones (n * 64 + (63 - imms)))

-- the element has two bits and a zero
abbrev has_zero : ℕ → ℕ → Bool
has_zero n imms = nat_le 1 (element_log n imms) && not (imms % element_size n imms == element_size n imms - 1)

abbrev agree : ℕ → ℕ → Bool
agree n imms = beq (has_two_bits n imms) (has_zero n imms)

-- for each N and imms, by computation
agree-each : (n imms : ℕ) → n < 2 → imms < 64 → agree n imms ≡ true
unfolding ones lib.Count.count_leading_zeros
agree-each n imms bit six_bits =
    passes_below-at (agree n) 64 imms six_bits (passes_below-at (λ n. passes_below (agree n) 64) 2 n bit refl)

pub two_bits : (width : Width) (n imms : ℕ) → n < 2 → imms < 64 → may_have width n ≡ true → nat_le 2 (ones (n * 64 + (63 - imms))) ≡ is_pattern width n imms
two_bits width n imms bit six_bits may =
    beq-true (has_two_bits n imms) (has_zero n imms) (agree-each n imms bit six_bits)
    ∙ sym (ap (λ b. b && nat_le 1 (element_log n imms) && not (imms % element_size n imms == element_size n imms - 1)) may)
