-- The places of a wait, one after the other.
use Rattle.std.proofs.Common.{◌≡◌, ℕ, suc, ◌+◌, ◌-◌, ◌<◌, ◌≤◌, [], ◌∷◌, refl, arith}
use Rattle.std.specs.List.{range_with_len}

-- one more
pub next_place : (i n : ℕ) → i < n → range_with_len i (n - i) ≡ i ∷ range_with_len (i + 1) (n - (i + 1))
next_place i n h = let e : n - i ≡ suc (n - (i + 1)) = omega arith in rw e refl

-- none is left
pub no_place : (i n : ℕ) → n ≤ i → range_with_len i (n - i) ≡ []
no_place i n h = let e : n - i ≡ 0 = omega arith in rw e refl
