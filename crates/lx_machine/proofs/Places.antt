-- Lists of places: reading after a write, and the lowest free place.
use Rattle.std.proofs.Common.{◌≡◌, ℕ, zero, suc, ◌+◌, ◌<◌, ◌≤◌, ◌≢◌, List, [], ◌∷◌, length, Option, Some, None, is_some, refl, ap, ◌∙◌, arith, slice_index_or}
use Rattle.std.specs.Prelude.{slice_set}
use Rattle.lx_machine.specs.Lists.{at_place, first_free_from}

module _ {P : Type 0} where
  -- ---- a place that was written, and any other

  pub place-set_same : (m : List (Option P)) (k : ℕ) (p : P) (x : P) → at_place m k ≡ Some p → at_place (slice_set m k (Some x)) k ≡ Some x
  place-set_same [] k p x e = absurd (cc)
  place-set_same (y ∷ m) zero p x e = refl
  place-set_same (y ∷ m) (suc k) p x e = place-set_same m k p x e

  pub place-set_other : (m : List (Option P)) (k j : ℕ) (x : Option P) → j ≢ k → at_place (slice_set m k x) j ≡ at_place m j
  place-set_other [] k j x ne = refl
  place-set_other (y ∷ m) zero zero x ne = absurd (ne refl)
  place-set_other (y ∷ m) zero (suc j) x ne = refl
  place-set_other (y ∷ m) (suc k) zero x ne = refl
  place-set_other (y ∷ m) (suc k) (suc j) x ne = place-set_other m k j x (λ e. ne (ap suc e))

  -- a place that is made free and filled again
  pub place-refilled : (m : List (Option P)) (k : ℕ) (p x : P) → at_place m k ≡ Some p → at_place (slice_set (slice_set m k None) k (Some x)) k ≡ Some x
  place-refilled [] k p x e = absurd (cc)
  place-refilled (y ∷ m) zero p x e = refl
  place-refilled (y ∷ m) (suc k) p x e = place-refilled m k p x e

  pub place-refilled_other : (m : List (Option P)) (k j : ℕ) (x : P) → j ≢ k → at_place (slice_set (slice_set m k None) k (Some x)) j ≡ at_place m j
  place-refilled_other m k j x ne = place-set_other (slice_set m k None) k j (Some x) ne ∙ place-set_other m k j None ne

pub place-within : {P : Type 0} (m : List (Option P)) (k : ℕ) (x : P) → k < length m → at_place (slice_set m k (Some x)) k ≡ Some x
place-within [] k x e = absurd (omega arith)
place-within (y ∷ m) zero x e = refl
place-within (y ∷ m) (suc k) x e = place-within m k x (omega arith)

pub place-there : {P : Type 0} (m : List (Option P)) (k : ℕ) (p : P) → at_place m k ≡ Some p → k < length m
place-there [] k p e = absurd (cc)
place-there (x ∷ m) zero p e = omega arith
place-there (x ∷ m) (suc k) p e = let a = place-there m k p e in omega arith

-- past the last place there is nothing
pub place-past : {P : Type 0} (m : List (Option P)) (k : ℕ) → length m ≤ k → at_place m k ≡ None
place-past [] k e = refl
place-past (x ∷ m) zero e = absurd (omega arith)
place-past (x ∷ m) (suc k) e = place-past m k (omega arith)

-- ---- the lowest free place

-- it is the same in two lists that are free in the same places
pub free_same : {A B : Type 0} (k : ℕ) (xs : List (Option A)) (ys : List (Option B)) → length xs ≡ length ys
    → ((y : ℕ) → is_some (at_place xs y) ≡ is_some (slice_index_or ys y None)) → first_free_from k xs ≡ first_free_from k ys
free_same k [] [] long same = refl
free_same k [] (y ∷ ys) long same = absurd (omega arith)
free_same k (x ∷ xs) [] long same = absurd (omega arith)
free_same k (None ∷ xs) (None ∷ ys) long same = refl
free_same k (None ∷ xs) (Some b ∷ ys) long same = absurd (let h = same 0 in cc)
free_same k (Some a ∷ xs) (None ∷ ys) long same = absurd (let h = same 0 in cc)
free_same k (Some a ∷ xs) (Some b ∷ ys) long same = free_same (suc k) xs ys (omega arith) (λ y. same (suc y))

-- a free place is within the list, and free
pub record FreeAt {A : Type 0} (k x : ℕ) (xs : List (Option A)) : Type 0 where
  pub at : ℕ
  pub is : x ≡ k + at
  pub within : at < length xs
  pub free : slice_index_or xs at None ≡ None

pub free_at : {A : Type 0} (k x : ℕ) (xs : List (Option A)) → first_free_from k xs ≡ Some x → FreeAt k x xs
free_at k x [] e = absurd (cc)
free_at k x (None ∷ xs) e = record { at = 0; is = (let f : k ≡ x = cc in omega arith); within = omega arith; free = refl }
free_at k x (Some a ∷ xs) e = let f = free_at (suc k) x xs e in record { at = suc f.at; is = (let g = f.is in omega arith); within = (let g = f.within in omega arith); free = f.free }
