-- A law of `|` that std lacks.
use Rattle.std.proofs.Common.{◌≡◌, ℕ, bit_or, arith}
use Rattle.std.proofs.lemmas.Nat.Bits.{bit_at_or, same_from_bits}

-- the order of two `|` is free
pub or_assoc : (a b c : ℕ) → bit_or (bit_or a b) c ≡ bit_or a (bit_or b c)
or_assoc a b c = same_from_bits _ _ (λ i. simp bit_at_or (omega arith))
