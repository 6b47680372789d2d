-- One place of a list is changed: what sums to a number, and what tells of one, stays.
use Rattle.std.specs.Prelude.{◌≡◌, refl, ℕ, zero, suc, ◌+◌, ◌<◌, ◌≤◌, Bool, true, false, ◌||◌, ◌-◌, ◌⊎◌, drop, List, [], ◌∷◌, length, Option, Some, None, is_some, sum_by, slice_set}
use Rattle.std.specs.List.{list_any}
use Rattle.std.proofs.Common.{arith, ap, sym, ◌∙◌, subst, inl, inr}
use Rattle.std.proofs.lemmas.List.Sums.{sum_by-cons}
use Rattle.lx_machine.specs.Lists.{at_place, first_free_from}
use Rattle.open_files.proofs.Pigeons.{no_yes}

by_cases : {X : Type 0} (x : Option X) → at_place (x ∷ []) zero ≡ x
by_cases None = refl
by_cases (Some x) = refl

-- a place that holds no more than before but for k; what is free holds nothing
pub sum_edit : {X : Type 0} (f : Option X → ℕ) (k : ℕ) (xs : List (Option X)) (i : ℕ) (y : Option X) → f y ≤ f (at_place xs i) + k
    → sum_by f (slice_set xs i y) ≤ sum_by f xs + k
sum_edit f k [] i y h = omega arith
sum_edit f k (x ∷ xs) zero y h =
    let a = sum_by-cons f x xs in
    let b = sum_by-cons f y xs in
    let c = by_cases x in
    let d = ap f c in
    omega (arith, a, b, d, h)
sum_edit f k (x ∷ xs) (suc i) y h =
    let a = sum_by-cons f x xs in
    let b = sum_by-cons f x (slice_set xs i y) in
    let c = sum_edit f k xs i y h in
    omega (arith, a, b, c)

-- where one passes a test, one passes it still if what is put there passes it where what stood there did
either : (a b c : Bool) → (a ≡ true → b ≡ true) → (a || c) ≡ true → (b || c) ≡ true
either true b c h k = rw (h refl) refl
either false true c h k = refl
either false false c h k = k

behind : (a b c : Bool) → (b ≡ true → c ≡ true) → (a || b) ≡ true → (a || c) ≡ true
behind true b c h k = refl
behind false b c h k = h k

pub any_edit : {X : Type 0} (p : Option X → Bool) (xs : List (Option X)) (i : ℕ) (y : Option X) → (p (at_place xs i) ≡ true → p y ≡ true)
    → list_any p xs ≡ true → list_any p (slice_set xs i y) ≡ true
any_edit p [] i y h k = k
any_edit p (x ∷ xs) zero y h k = either (p x) (p y) (list_any p xs) (λ e. h (ap p (by_cases x) ∙ e)) k
any_edit p (x ∷ xs) (suc i) y h k = behind (p x) (list_any p xs) (list_any p (slice_set xs i y)) (any_edit p xs i y h) k

-- what is put there passes it
or_true : (a : Bool) → (a || true) ≡ true
or_true true = refl
or_true false = refl

pub any_new : {X : Type 0} (p : Option X → Bool) (xs : List (Option X)) (i : ℕ) (y : Option X) → i < length xs → p y ≡ true → list_any p (slice_set xs i y) ≡ true
any_new p [] i y h k = absurd (omega (arith, h))
any_new p (x ∷ xs) zero y h k = ap (λ b. b || list_any p xs) k
any_new p (x ∷ xs) (suc i) y h k = ap (λ b. p x || b) (any_new p xs i y (omega (arith, h)) k) ∙ or_true (p x)

-- ---- where a free place stands

abbrev number_or_zero : Option ℕ → ℕ
number_or_zero None = 0
number_or_zero (Some n) = n

pub first_there : {X : Type 0} (n m : ℕ) (xs : List (Option X)) → first_free_from n xs ≡ Some m → (n ≤ m) × ((m - n < length xs) × (at_place xs (m - n) ≡ None))
first_there n m [] e = absurd (no_yes (ap is_some e))
first_there n m (None ∷ xs) e =
    let h : n ≡ m = ap number_or_zero e in
    let z : 0 ≡ m - n = omega (arith, h) in
    (omega (arith, h), (omega (arith, h), subst (λ i. at_place (None ∷ xs) i ≡ None) z refl))
first_there n m (Some x ∷ xs) e =
    let h = first_there (suc n) m xs e in
    let z : suc (m - suc n) ≡ m - n = omega (arith, h.0) in
    (omega (arith, h.0), (omega (arith, h.0, h.1.0), subst (λ i. at_place (Some x ∷ xs) i ≡ None) z h.1.1))

at_drop : {X : Type 0} (k j : ℕ) (xs : List (Option X)) → at_place (drop k xs) j ≡ at_place xs (k + j)
at_drop zero j xs = ap (at_place xs) (omega arith)
at_drop (suc k) j [] = refl
at_drop (suc k) j (x ∷ xs) = let e : suc (k + j) ≡ suc k + j = omega arith in at_drop k j xs ∙ ap (at_place (x ∷ xs)) e

at_other : {X : Type 0} (xs : List (Option X)) (i j : ℕ) (y : Option X) → i < j → at_place (slice_set xs i y) j ≡ at_place xs j
at_other [] i j y h = refl
at_other (x ∷ xs) zero zero y h = absurd (omega (arith, h))
at_other (x ∷ xs) zero (suc j) y h = refl
at_other (x ∷ xs) (suc i) zero y h = absurd (omega (arith, h))
at_other (x ∷ xs) (suc i) (suc j) y h = at_other xs i j y (omega (arith, h))

pub second_there : {X : Type 0} (xs : List (Option X)) (r w : ℕ) (y : Option X) → first_free_from (suc r) (drop (suc r) xs) ≡ Some w → at_place (slice_set xs r y) w ≡ None
second_there xs r w y e =
    let h = first_there (suc r) w (drop (suc r) xs) e in
    let same : suc r + (w - suc r) ≡ w = omega (arith, h.0) in
    at_other xs r w y (omega (arith, h.0)) ∙ sym (ap (at_place xs) same) ∙ sym (at_drop (suc r) (w - suc r) xs) ∙ h.1.1

-- where something stands, something stands still
pub still_some : {X : Type 0} (xs : List (Option X)) (i j : ℕ) (y : Option X) → is_some (at_place xs i) ≡ true → is_some (at_place (slice_set xs i y) j) ≡ true → is_some (at_place xs j) ≡ true
still_some [] i j y h k = k
still_some (x ∷ xs) zero zero y h k = h
still_some (x ∷ xs) zero (suc j) y h k = k
still_some (x ∷ xs) (suc i) zero y h k = k
still_some (x ∷ xs) (suc i) (suc j) y h k = still_some xs i j y h k

one_later : {X : Type 0} (xs : List (Option X)) (i j : ℕ) (x : Option X) → (i ≡ j) ⊎ (is_some (at_place xs j) ≡ true) → (suc i ≡ suc j) ⊎ (is_some (at_place (x ∷ xs) (suc j)) ≡ true)
one_later xs i j x (inl e) = inl (ap suc e)
one_later xs i j x (inr h) = inr h

-- a place is set, or something stood there
pub set_or_other : {X : Type 0} (xs : List (Option X)) (i j : ℕ) (y : Option X) → is_some (at_place (slice_set xs i y) j) ≡ true → (i ≡ j) ⊎ (is_some (at_place xs j) ≡ true)
set_or_other [] i j y k = inr k
set_or_other (x ∷ xs) zero zero y k = inl refl
set_or_other (x ∷ xs) zero (suc j) y k = inr k
set_or_other (x ∷ xs) (suc i) zero y k = inr k
set_or_other (x ∷ xs) (suc i) (suc j) y k = one_later xs i j x (set_or_other xs i j y k)
