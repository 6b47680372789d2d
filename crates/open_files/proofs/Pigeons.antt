-- Places of one list that are each told of by something in another are no more than these.
use Rattle.std.specs.Prelude.{◌≡◌, refl, ℕ, zero, suc, ◌+◌, ◌<◌, ◌≤◌, ◌==◌, Bool, true, false, ◌||◌, cond, List, [], ◌∷◌, length, Option, Some, None, is_some, is_none, count_by, drop}
use Rattle.std.specs.List.{list_any}
use Rattle.std.proofs.Common.{arith, ap, sym, ◌∙◌, subst}
use Rattle.std.proofs.lemmas.Bool.{eqb-true}
use Rattle.std.proofs.lemmas.List.Sums.{sum_by-cons}
use Rattle.lx_machine.specs.Lists.{at_place, first_free_from, without_place}
use Rattle.open_files.specs.Named.{tells}

-- one more
pub count-cons : {X : Type 0} (p : X → Bool) (x : X) (xs : List X) → count_by p (x ∷ xs) ≡ cond (p x) 1 0 + count_by p xs
count-cons p x xs = sum_by-cons (λ y. cond (p y) 1 0) x xs

abbrev is_yes : Bool → Type 0
is_yes true = Unit {0}
is_yes false = ⊥

pub no_yes : false ≡ true → ⊥
no_yes e = subst is_yes (sym e) tt

-- ---- a place that is let go

pub gone_here : {X : Type 0} (xs : List (Option X)) (n : ℕ) → is_some (at_place (without_place xs n) n) ≡ false
gone_here [] n = refl
gone_here (x ∷ xs) zero = refl
gone_here (x ∷ xs) (suc n) = gone_here xs n

pub others_here : {X : Type 0} (xs : List (Option X)) (n i : ℕ) → is_some (at_place (without_place xs n) i) ≡ true → is_some (at_place xs i) ≡ true
others_here [] n i h = h
others_here (x ∷ xs) zero zero h = absurd (no_yes h)
others_here (x ∷ xs) zero (suc i) h = h
others_here (x ∷ xs) (suc n) zero h = h
others_here (x ∷ xs) (suc n) (suc i) h = others_here xs n i h

one_gone : {X : Type 0} (xs : List (Option X)) (n : ℕ) → count_by is_some xs ≤ count_by is_some (without_place xs n) + 1
one_gone [] n = omega arith
one_gone (None ∷ xs) zero = let a = count-cons is_some None xs in omega (arith, a)
one_gone (Some x ∷ xs) zero =
    let a = count-cons is_some (Some x) xs in
    let b = count-cons is_some None xs in
    omega (arith, a, b)
one_gone (x ∷ xs) (suc n) =
    let a = count-cons is_some x xs in
    let b = count-cons is_some x (without_place xs n) in
    let h = one_gone xs n in
    omega (arith, a, b, h)

-- ---- all that are told of

none_lives : {X : Type 0} (xs : List (Option X)) → ((i : ℕ) → is_some (at_place xs i) ≡ true → ⊥) → count_by is_some xs ≤ 0
none_lives [] h = omega arith
none_lives (Some x ∷ xs) h = absurd (h zero refl)
none_lives (None ∷ xs) h =
    let a = count-cons is_some None xs in
    let b = none_lives xs (λ i. h (suc i)) in
    omega (arith, a, b)

untold : {X : Type 0} (n i : ℕ) (xs : List (Option X)) (b c : Bool) → (n == i) ≡ b → is_some (at_place (without_place xs n) i) ≡ true → (b || c) ≡ true → c ≡ true
untold n i xs false c e h k = k
untold n i xs true c e h k =
    let same : n ≡ i = eqb-true n i e in
    absurd (no_yes (sym (gone_here xs n) ∙ ap (λ j. is_some (at_place (without_place xs n) j)) same ∙ h))

-- the first of them tells of none, or of one
told_by : {X Y : Type 0} (number : Y → Option ℕ) (xs : List (Option X)) (ys : List Y) (o : Option ℕ)
    → ((zs : List (Option X)) → ((i : ℕ) → is_some (at_place zs i) ≡ true → list_any (λ y. tells (number y) i) ys ≡ true) → count_by is_some zs ≤ count_by (λ y. is_some (number y)) ys)
    → ((i : ℕ) → is_some (at_place xs i) ≡ true → (tells o i || list_any (λ y. tells (number y) i) ys) ≡ true)
    → count_by is_some xs ≤ cond (is_some o) 1 0 + count_by (λ y. is_some (number y)) ys
told_by number xs ys None all h = let rest = all xs h in omega (arith, rest)
told_by number xs ys (Some n) all h =
    let rest = all (without_place xs n) (λ i k. untold n i xs (n == i) (list_any (λ y. tells (number y) i) ys) refl k (h i (others_here xs n i k))) in
    let one = one_gone xs n in
    omega (arith, rest, one)

pub told_of : {X Y : Type 0} (number : Y → Option ℕ) (xs : List (Option X)) (ys : List Y)
    → ((i : ℕ) → is_some (at_place xs i) ≡ true → list_any (λ y. tells (number y) i) ys ≡ true)
    → count_by is_some xs ≤ count_by (λ y. is_some (number y)) ys
told_of number xs [] h = none_lives xs (λ i k. no_yes (h i k))
told_of number xs (y ∷ ys) h =
    rw (count-cons (λ y. is_some (number y)) y ys) (told_by number xs ys (number y) (λ zs k. told_of number zs ys k) h)

-- ---- free places

-- places that are taken, and places that are free
pub taken_and_free : {X : Type 0} (xs : List (Option X)) → count_by is_some xs + count_by is_none xs ≡ length xs
taken_and_free [] = refl
taken_and_free (None ∷ xs) =
    let a = count-cons is_some None xs in let b = count-cons is_none None xs in let h = taken_and_free xs in omega (arith, a, b, h)
taken_and_free (Some x ∷ xs) =
    let a = count-cons is_some (Some x) xs in let b = count-cons is_none (Some x) xs in let h = taken_and_free xs in omega (arith, a, b, h)

pub one_free : {X : Type 0} (n : ℕ) (xs : List (Option X)) → count_by is_some xs < length xs → is_some (first_free_from n xs) ≡ true
one_free n [] h = absurd (omega (arith, h))
one_free n (None ∷ xs) h = refl
one_free n (Some x ∷ xs) h = let a = count-cons is_some (Some x) xs in one_free (suc n) xs (omega (arith, a, h))

abbrev number_or_zero : Option ℕ → ℕ
number_or_zero None = 0
number_or_zero (Some n) = n

first_after : {X : Type 0} (n r : ℕ) (xs : List (Option X)) → first_free_from n xs ≡ Some r → n ≤ r
first_after n r [] e = absurd (no_yes (ap is_some e))
first_after n r (None ∷ xs) e = let h : n ≡ r = ap number_or_zero e in omega (arith, h)
first_after n r (Some x ∷ xs) e = let h = first_after (suc n) r xs e in omega (arith, h)

-- behind the first free place there is another
pub another_free : {X : Type 0} (n r : ℕ) (xs : List (Option X)) → count_by is_some xs + 1 < length xs → first_free_from n xs ≡ Some (n + r)
    → is_some (first_free_from (suc (n + r)) (drop (suc r) xs)) ≡ true
another_free n r [] h e = absurd (omega (arith, h))
another_free n zero (None ∷ xs) h e = let a = count-cons is_some None xs in one_free (suc (n + zero)) xs (omega (arith, a, h))
another_free n (suc r) (None ∷ xs) h e = let k : n ≡ n + suc r = ap number_or_zero e in absurd (omega (arith, k))
another_free n zero (Some x ∷ xs) h e = let k = first_after (suc n) (n + zero) xs e in absurd (omega (arith, k))
another_free n (suc r) (Some x ∷ xs) h e =
    let a = count-cons is_some (Some x) xs in
    let same : n + suc r ≡ suc n + r = omega arith in
    subst (λ m. is_some (first_free_from (suc m) (drop (suc r) xs)) ≡ true) (sym same) (another_free (suc n) r xs (omega (arith, a, h)) (e ∙ ap Some same))
