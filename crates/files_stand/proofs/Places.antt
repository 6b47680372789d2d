-- Places of a list: what stands there after one of them is set, or all are changed.
use Rattle.std.proofs.Common.{◌≡◌, ◌≢◌, ◌⊎◌, inl, inr, ℕ, zero, suc, ◌<◌, true, false, List, [], ◌∷◌, map, Option, Some, None, length, refl, sym, ap, ◌∙◌, arith}
use Rattle.std.specs.Prelude.{is_some, slice_set}
use Rattle.std.specs.Option.{option_map}
use Rattle.lx_machine.specs.Lists.{at_place, with_place, without_place}

pub same_or_not : (i j : ℕ) → (j ≡ i) ⊎ (j ≢ i)
same_or_not i j = grind arith

pub set_here : {X : Type 0} (xs : List (Option X)) (n : ℕ) (o : Option X) (y : X) → at_place xs n ≡ Some y → at_place (slice_set xs n o) n ≡ o
set_here [] n o y h = let z : None ≡ Some y = h in absurd (cc)
set_here (x ∷ xs) zero o y h = refl
set_here (x ∷ xs) (suc n) o y h = set_here xs n o y h

pub set_other : {X : Type 0} (xs : List (Option X)) (n m : ℕ) (o : Option X) → m ≢ n → at_place (slice_set xs n o) m ≡ at_place xs m
set_other [] n m o ne = refl
set_other (x ∷ xs) zero zero o ne = absurd (ne refl)
set_other (x ∷ xs) zero (suc m) o ne = refl
set_other (x ∷ xs) (suc n) zero o ne = refl
set_other (x ∷ xs) (suc n) (suc m) o ne = set_other xs n m o (λ e. ne (ap suc e))

pub set_back : {X : Type 0} (xs : List (Option X)) (n : ℕ) (x : X) → at_place xs n ≡ Some x → slice_set xs n (Some x) ≡ xs
set_back [] n x h = refl
set_back (y ∷ xs) zero x h = let e : y ≡ Some x = h in ap (λ z. z ∷ xs) (sym e)
set_back (y ∷ xs) (suc n) x h = ap (λ l. y ∷ l) (set_back xs n x h)

pub set_is : {X : Type 0} (xs : List (Option X)) (p i : ℕ) (o : Option X) (a : X) → at_place (slice_set xs p o) i ≡ Some a → (at_place xs i ≡ Some a) ⊎ (o ≡ Some a)
set_is [] p i o a h = inl h
set_is (x ∷ xs) zero zero o a h = inr h
set_is (x ∷ xs) zero (suc i) o a h = inl h
set_is (x ∷ xs) (suc p) zero o a h = inl h
set_is (x ∷ xs) (suc p) (suc i) o a h = set_is xs p i o a h

pub placed_here : {X : Type 0} (xs : List (Option X)) (p : ℕ) (x y : X) → at_place xs p ≡ Some y → at_place (with_place xs p x) p ≡ Some x
placed_here xs p x y h = set_here xs p (Some x) y h

pub placed_other : {X : Type 0} (xs : List (Option X)) (p q : ℕ) (x : X) → q ≢ p → at_place (with_place xs p x) q ≡ at_place xs q
placed_other xs p q x ne = set_other xs p q (Some x) ne

pub at_other : {X : Type 0} (xs : List (Option X)) (n m : ℕ) → m ≢ n → at_place (without_place xs n) m ≡ at_place xs m
at_other xs n m ne = set_other xs n m None ne

pub none_here : {X : Type 0} (xs : List (Option X)) (n : ℕ) → at_place (without_place xs n) n ≡ None
none_here [] n = refl
none_here (x ∷ xs) zero = refl
none_here (x ∷ xs) (suc n) = none_here xs n

-- as many places are taken
pub some_placed : {X : Type 0} (xs : List (Option X)) (p : ℕ) (x y : X) → at_place xs p ≡ Some y → (q : ℕ) → is_some (at_place (with_place xs p x) q) ≡ is_some (at_place xs q)
some_placed {X = X} xs p x y h q = by (same_or_not p q)
  where
    here : (r : ℕ) → r ≡ p → is_some (at_place (with_place xs p x) r) ≡ is_some (at_place xs r)
    here r e = rw e (ap (λ (o : Option X). is_some o) (placed_here xs p x y h) ∙ sym (ap (λ (o : Option X). is_some o) h))

    by : (q ≡ p) ⊎ (q ≢ p) → is_some (at_place (with_place xs p x) q) ≡ is_some (at_place xs q)
    by (inl e) = here q e
    by (inr ne) = ap (λ (o : Option X). is_some o) (placed_other xs p q x ne)

pub placed_there : {X : Type 0} (xs : List (Option X)) (p : ℕ) (x : X) → p < length xs → at_place (with_place xs p x) p ≡ Some x
placed_there [] p x l = absurd (omega arith)
placed_there (y ∷ xs) zero x l = refl
placed_there (y ∷ xs) (suc p) x l = placed_there xs p x (omega arith)

pub placed_is : {X : Type 0} (xs : List (Option X)) (p i : ℕ) (x a : X) → at_place (with_place xs p x) i ≡ Some a → (at_place xs i ≡ Some a) ⊎ ((i ≡ p) × (x ≡ a))
placed_is [] p i x a h = inl h
placed_is (y ∷ xs) zero zero x a h = inr (refl, cc)
placed_is (y ∷ xs) zero (suc i) x a h = inl h
placed_is (y ∷ xs) (suc p) zero x a h = inl h
placed_is (y ∷ xs) (suc p) (suc i) x a h = by (placed_is xs p i x a h)
  where
    by : (at_place xs i ≡ Some a) ⊎ ((i ≡ p) × (x ≡ a)) → (at_place xs i ≡ Some a) ⊎ ((suc i ≡ suc p) × (x ≡ a))
    by (inl k) = inl k
    by (inr k) = inr (ap suc k.0, k.1)

pub still_there : {X : Type 0} (xs : List (Option X)) (p i : ℕ) (x : X) → is_some (at_place xs i) ≡ true → is_some (at_place (with_place xs p x) i) ≡ true
still_there [] p i x h = h
still_there (y ∷ xs) zero zero x h = refl
still_there (y ∷ xs) zero (suc i) x h = h
still_there (y ∷ xs) (suc p) zero x h = h
still_there (y ∷ xs) (suc p) (suc i) x h = still_there xs p i x h

-- who lives isn't at a free place
pub apart_free : {X : Type 0} (xs : List (Option X)) (p i : ℕ) → at_place xs p ≡ None → is_some (at_place xs i) ≡ true → i ≢ p
apart_free {X = X} xs p i free h e = let z : false ≡ true = sym (ap (λ (o : Option X). is_some o) (ap (at_place xs) e ∙ free)) ∙ h in absurd (cc)

pub at_mapped : {X Y : Type 0} (f : X → Y) (xs : List (Option X)) (n : ℕ) → at_place (map (option_map f) xs) n ≡ option_map f (at_place xs n)
at_mapped f [] n = refl
at_mapped f (x ∷ xs) zero = refl
at_mapped f (x ∷ xs) (suc n) = at_mapped f xs n

pub at_without : {X : Type 0} (xs : List (Option X)) (n m : ℕ) → (at_place (without_place xs n) m ≡ None) ⊎ (at_place (without_place xs n) m ≡ at_place xs m)
at_without [] n m = inr refl
at_without (x ∷ xs) zero zero = inl refl
at_without (x ∷ xs) zero (suc m) = inr refl
at_without (x ∷ xs) (suc n) zero = inr refl
at_without (x ∷ xs) (suc n) (suc m) = at_without xs n m

pub at_emptied : {X Y : Type 0} (xs : List (Option X)) (ys : List (Option Y)) (n m : ℕ) → (n ≡ m) × ((at_place (without_place xs n) m ≡ None) × (at_place (without_place ys n) m ≡ None)) ⊎ (at_place (without_place xs n) m ≡ at_place xs m) × (at_place (without_place ys n) m ≡ at_place ys m)
at_emptied xs ys n m = by (same_or_not m n)
  where
    by : (n ≡ m) ⊎ (n ≢ m) → (n ≡ m) × ((at_place (without_place xs n) m ≡ None) × (at_place (without_place ys n) m ≡ None)) ⊎ (at_place (without_place xs n) m ≡ at_place xs m) × (at_place (without_place ys n) m ≡ at_place ys m)
    by (inl e) = inl (e, (rw (sym e) (none_here xs n), rw (sym e) (none_here ys n)))
    by (inr ne) = inr (at_other xs n m (λ e. ne (sym e)), at_other ys n m (λ e. ne (sym e)))

pub length_map : {X Y : Type 0} (f : X → Y) (xs : List X) → length (map f xs) ≡ length xs
length_map f [] = refl
length_map f (x ∷ xs) = ap (λ n. suc n) (length_map f xs)
