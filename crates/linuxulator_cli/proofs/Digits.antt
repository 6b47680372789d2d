-- The digits of a number: those of its sixteenth, and then its last.
use Rattle.std.proofs.Common.{◌≡◌, ℕ, zero, suc, ◌-◌, ◌/◌, ◌%◌, ◌<◌, ◌≤◌, List, [], ◌∷◌, ◌++◌, refl, ap, sym, ◌∙◌, arith, append_assoc, false, true, Bool}
use Rattle.std.specs.Prelude.{if◌then◌else◌, ◌==◌}
use Rattle.std.specs.Fmt.{digits_onto, digit_glyph}

-- the last digit
abbrev last : ℕ → ℕ
last n = digit_glyph false (n % 16)

-- digits before other text
onto : (k n : ℕ) (acc : List ℕ) → digits_onto k 16 false n acc ≡ digits_onto k 16 false n [] ++ acc
onto zero n acc = refl
onto (suc k) n acc =
    elim (n / 16 == 0) as (λ (b : Bool). (if b then last n ∷ acc else digits_onto k 16 false (n / 16) (last n ∷ acc)) ≡ (if b then last n ∷ [] else digits_onto k 16 false (n / 16) (last n ∷ [])) ++ acc) [
      | true ↦ refl
      | false ↦ onto k (n / 16) (last n ∷ acc) ∙ sym (append_assoc (digits_onto k 16 false (n / 16) []) (last n ∷ []) acc) ∙ ap (λ (xs : List ℕ). xs ++ acc) (sym (onto k (n / 16) (last n ∷ [])))
    ]

-- more digits
pub more_digits : (k n : ℕ) → 1 < k → 16 ≤ n → digits_onto k 16 false n [] ≡ digits_onto (k - 1) 16 false (n / 16) [] ++ digit_glyph false (n % 16) ∷ []
more_digits zero n some many = absurd (omega arith)
more_digits (suc k) n some many = grind (arith, onto k (n / 16) (last n ∷ []))
