-- The registers that rt_sigreturn restores, one after the other.
use Rattle.std.proofs.Common.{◌≡◌, ℕ, suc, ◌+◌, ◌-◌, ◌*◌, ◌<◌, ◌≤◌, List, [], ◌∷◌, ◌++◌, length, take, slice_set, sym, arith, ap, ◌∙◌, append_assoc, append-nil}
use Rattle.std.proofs.lemmas.List.{take_more_set, take_all}
use Rattle.places.specs.Places.{number_at}
use Rattle.lx_machine.specs.Sigreturn.{numbers}

numbers_more : (bytes : List ℕ) (i : ℕ) → i < 31
    → numbers bytes (184 + 8 * i) (31 - i) ≡ number_at bytes (184 + 8 * i) 8 ∷ numbers bytes (184 + 8 * (i + 1)) (31 - (i + 1))
unfolding numbers
numbers_more bytes i within =
    let left : 31 - i ≡ suc (31 - (i + 1)) = omega (arith, within) in
    let next : 184 + 8 * i + 8 ≡ 184 + 8 * (i + 1) = omega arith in
    ap (numbers bytes (184 + 8 * i)) left ∙ ap (λ (at : ℕ). number_at bytes (184 + 8 * i) 8 ∷ numbers bytes at (31 - (i + 1))) next

-- one more register, and then the rest
pub read_more : (bytes x : List ℕ) (i n : ℕ) → i < 31 → length x ≡ 31 → n ≡ number_at bytes (184 + 8 * i) 8
    → take (i + 1) (slice_set x i n) ++ numbers bytes (184 + 8 * (i + 1)) (31 - (i + 1)) ≡ take i x ++ numbers bytes (184 + 8 * i) (31 - i)
read_more bytes x i n within long is =
    let rest = numbers bytes (184 + 8 * (i + 1)) (31 - (i + 1)) in
    ap (λ (front : List ℕ). front ++ rest) (take_more_set x i n (omega (arith, within, long)))
    ∙ append_assoc (take i x) (n ∷ []) rest
    ∙ ap (λ (m : ℕ). take i x ++ m ∷ rest) is
    ∙ ap (λ (back : List ℕ). take i x ++ back) (sym (numbers_more bytes i within))

-- no register is left
pub read_all : (bytes x : List ℕ) (i : ℕ) → 31 ≤ i → length x ≡ 31 → x ≡ take i x ++ numbers bytes (184 + 8 * i) (31 - i)
unfolding numbers
read_all bytes x i past long =
    let left : 31 - i ≡ 0 = omega (arith, past) in
    sym (ap (λ (n : ℕ). take i x ++ numbers bytes (184 + 8 * i) n) left ∙ append-nil (take i x) ∙ take_all i x (omega (arith, past, long)))
