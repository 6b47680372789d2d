-- A list of nothing but `None`.
use Rattle.std.proofs.Common.{◌≡◌, ℕ, zero, suc, ◌<◌, List, [], ◌∷◌, length, replicate, slice_index_or, Option, None, arith, refl}

pub all_none : {T : Type 0} (xs : List (Option T)) (n : ℕ) → length xs ≡ n → ((i : ℕ) (e : Option T) → i < n → slice_index_or xs i e ≡ None) → xs ≡ replicate n None
all_none [] zero long each = refl
all_none [] (suc n) long each = absurd (omega arith)
all_none (x ∷ xs) zero long each = absurd (omega arith)
all_none {T} (x ∷ xs) (suc n) long each =
    let first : x ≡ None = each 0 None (omega arith) in
    let rest : xs ≡ replicate n None = all_none xs n (omega arith) (λ i e lt. each (suc i) e (omega arith)) in
    λ i. first i ∷ rest i
