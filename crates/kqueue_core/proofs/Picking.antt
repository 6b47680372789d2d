-- The elements of a list that pass a test, by their places.
use Rattle.std.proofs.Common.{◌≡◌, ℕ, zero, suc, ◌+◌, ◌<◌, ◌≤◌, Bool, true, false, List, [], ◌∷◌, take, length, get_or, refl, arith, Some, None}
use Rattle.std.specs.Prelude.{filter, slice_get, if◌then◌else◌}
use Rattle.std.proofs.lemmas.Grind.{common_steps}

module _ {X : Type 0} (p : X → Bool) where
  -- one element more
  pub length-filter_more : (xs : List X) (i : ℕ) (d : X) → i < length xs → length (filter p (take (suc i) xs)) ≡ length (filter p (take i xs)) + (if p (get_or xs i d) then 1 else 0)
  length-filter_more [] i d h = absurd (omega arith)
  length-filter_more (x ∷ xs) zero d h = grind (arith, common_steps)
  length-filter_more (x ∷ xs) (suc i) d h = let a = length-filter_more xs i d (omega arith) in grind (arith, common_steps)

  -- an element that passes stands behind as many as pass before it
  pub picked : (xs : List X) (i : ℕ) (d : X) → i < length xs → p (get_or xs i d) ≡ true → slice_get (filter p xs) (length (filter p (take i xs))) ≡ Some (get_or xs i d)
  picked [] i d h e = absurd (omega arith)
  picked (x ∷ xs) zero d h e = rw e refl
  picked (x ∷ xs) (suc i) d h e = by (p x) refl (picked xs i d (omega arith) e)
    where
      by : (b : Bool) → p x ≡ b → slice_get (filter p xs) (length (filter p (take i xs))) ≡ Some (get_or xs i d) → slice_get (filter p (x ∷ xs)) (length (filter p (x ∷ take i xs))) ≡ Some (get_or xs i d)
      by true f a = rw f a
      by false f a = rw f a

  pub past : (xs : List X) (n : ℕ) → length xs ≤ n → slice_get xs n ≡ None
  past [] n h = refl
  past (x ∷ xs) zero h = absurd (omega arith)
  past (x ∷ xs) (suc n) h = past xs n (omega arith)
