-- A list of places after a write to one of them.
use Rattle.std.proofs.Common.{◌≡◌, ◌≢◌, ℕ, zero, suc, ◌<◌, List, [], ◌∷◌, length, Option, Some, None, is_some, true, set, get_or, refl, sym, ap, ◌∙◌, arith, ◌⊎◌, inl, inr}
use Rattle.std.proofs.lemmas.List.{get_or-set_same, get_or-set_other, length-set}
use Rattle.std.specs.Prelude.{slice_set}
use Rattle.machine_parts.specs.Parts.{part_at, lacking}

pub same_or_not : (i j : ℕ) → (j ≡ i) ⊎ (j ≢ i)
same_or_not i j = grind arith

pub some_value : {X : Type 0} (o : Option X) → is_some o ≡ true → (x : X) × (o ≡ Some x)
some_value None e = absurd (cc)
some_value (Some x) e = (x, refl)

module _ {P : Type 0} where
  pub length-put : (m : List (Option P)) (k : ℕ) (x : Option P) → length (slice_set m k x) ≡ length m
  length-put m k x = length-set m k x

  -- a part that is there stands within the list
  pub part_there : (m : List (Option P)) (k : ℕ) (p : P) → part_at m k ≡ Some p → k < length m
  part_there [] k p e = absurd (cc)
  part_there (x ∷ m) zero p e = omega arith
  part_there (x ∷ m) (suc k) p e = let a = part_there m k p e in omega arith

  pub part_at-put_within : (m : List (Option P)) (k : ℕ) (x : Option P) → k < length m → part_at (slice_set m k x) k ≡ x
  part_at-put_within m k x within = get_or-set_same m k x None within

  pub part_at-put_same : (m : List (Option P)) (k : ℕ) (p : P) (x : Option P) → part_at m k ≡ Some p → part_at (slice_set m k x) k ≡ x
  part_at-put_same m k p x e = part_at-put_within m k x (part_there m k p e)

  pub part_at-put_other : (m : List (Option P)) (k j : ℕ) (x : Option P) → j ≢ k → part_at (slice_set m k x) j ≡ part_at m j
  part_at-put_other m k j x other = get_or-set_other m k j x None other

  -- a place that was written twice
  pub set_again : (m : List (Option P)) (k : ℕ) (x y : Option P) → slice_set (slice_set m k x) k y ≡ slice_set m k y
  set_again [] k x y = refl
  set_again (z ∷ m) zero x y = refl
  set_again (z ∷ m) (suc k) x y = ap (λ l. z ∷ l) (set_again m k x y)

  -- the part that is there, put there
  pub set_back : (m : List (Option P)) (k : ℕ) (p : P) → part_at m k ≡ Some p → slice_set m k (Some p) ≡ m
  set_back [] k p e = absurd (cc)
  set_back (x ∷ m) zero p e = ap (λ z. z ∷ m) (sym e)
  set_back (x ∷ m) (suc k) p e = ap (λ l. x ∷ l) (set_back m k p e)

  -- writes to two places in either order
  pub set_both : (m : List (Option P)) (k j : ℕ) (x y : Option P) → j ≢ k → slice_set (slice_set m k x) j y ≡ slice_set (slice_set m j y) k x
  set_both [] k j x y other = refl
  set_both (z ∷ m) zero zero x y other = absurd (other refl)
  set_both (z ∷ m) zero (suc j) x y other = refl
  set_both (z ∷ m) (suc k) zero x y other = refl
  set_both (z ∷ m) (suc k) (suc j) x y other = ap (λ l. z ∷ l) (set_both m k j x y (λ e. other (ap suc e)))
