-- What the words on lists give.
use Rattle.std.proofs.Common.{◌≡◌, ◌≢◌, ℕ, zero, suc, Bool, true, false, ◌||◌, not, List, [], ◌∷◌, map, refl, sym, ap, arith, cond, ◌⊎◌}
use Rattle.std.specs.Prelude.{◌==◌}
use Rattle.std.specs.List.{All, AllByRecursion, filter, list_any}
use Rattle.std.proofs.lemmas.Grind.{common_steps}
use Rattle.std.proofs.lemmas.Bool.Decides.{nat_tests}
use Rattle.std.proofs.lemmas.List.Elements.{All-from_recursion, recursion_from_All}
use Rattle.umtx_queue.specs.Lists.{first_of, without_first}
use Rattle.umtx_queue.proofs.Picking.{all_left, none_first}
use Rattle.umtx_queue.proofs.Tallies.{Each-filter, Each-first_of, Each-without_first}
use Rattle.lx_machine.specs.Queue as queue

pub same_or_not : (i j : ℕ) → (j ≡ i) ⊎ (j ≢ i)
same_or_not i j = grind arith

pub is_same : (i j : ℕ) → i ≡ j → (i == j) ≡ true
is_same i j e = grind (arith, nat_tests)

pub is_other : (i j : ℕ) → i ≢ j → (i == j) ≡ false
is_other i j ne = grind (arith, nat_tests)

-- ---- the first that pass, in the words of the Linux machine and in those of chains

pub first_is : {X : Type 0} (n : ℕ) (p : X → Bool) (xs : List X) → queue.first_of n p xs ≡ first_of p n xs
first_is zero p [] = refl
first_is zero p (x ∷ xs) = refl
first_is (suc n) p [] = refl
first_is (suc n) p (x ∷ xs) = let a = first_is n p xs in let b = first_is (suc n) p xs in grind arith

pub without_is : {X : Type 0} (n : ℕ) (p : X → Bool) (xs : List X) → queue.without_first n p xs ≡ without_first p n xs
without_is zero p [] = refl
without_is zero p (x ∷ xs) = refl
without_is (suc n) p [] = refl
without_is (suc n) p (x ∷ xs) = let a = without_is n p xs in let b = without_is (suc n) p xs in grind arith

-- ---- parts

-- the first n that pass p stand in the part that passes q, where q passes whatever p does
pub first_of-filter : {X : Type 0} (p q : X → Bool) (within : (x : X) → p x ≡ true → q x ≡ true) (n : ℕ) (xs : List X) → first_of p n (filter q xs) ≡ first_of p n xs
first_of-filter p q within n [] = refl
first_of-filter p q within zero (x ∷ xs) = none_first p (filter q (x ∷ xs))
first_of-filter p q within (suc n) (x ∷ xs) = let h = within x in let a = first_of-filter p q within n xs in let b = first_of-filter p q within (suc n) xs in grind arith

-- what is left of the part that passes q, where q passes whatever p does
pub filter-without_first : {X : Type 0} (p q : X → Bool) (within : (x : X) → p x ≡ true → q x ≡ true) (n : ℕ) (xs : List X) → filter q (without_first p n xs) ≡ without_first p n (filter q xs)
filter-without_first p q within n [] = refl
filter-without_first p q within zero (x ∷ xs) = sym (all_left p (filter q (x ∷ xs)))
filter-without_first p q within (suc n) (x ∷ xs) = let h = within x in let a = filter-without_first p q within n xs in let b = filter-without_first p q within (suc n) xs in grind arith

-- the part that passes q stays, where q and p have nothing in common
pub filter-without_first_apart : {X : Type 0} (p q : X → Bool) (apart : (x : X) → p x ≡ true → q x ≡ false) (n : ℕ) (xs : List X) → filter q (without_first p n xs) ≡ filter q xs
filter-without_first_apart p q apart n [] = refl
filter-without_first_apart p q apart zero (x ∷ xs) = refl
filter-without_first_apart p q apart (suc n) (x ∷ xs) = let h = apart x in let a = filter-without_first_apart p q apart n xs in let b = filter-without_first_apart p q apart (suc n) xs in grind arith

pub first_of-map : {X Y : Type 0} (f : X → Y) (p : Y → Bool) (n : ℕ) (xs : List X) → first_of p n (map f xs) ≡ map f (first_of (λ x. p (f x)) n xs)
first_of-map f p n [] = refl
first_of-map f p zero (x ∷ xs) = refl
first_of-map f p (suc n) (x ∷ xs) = let a = first_of-map f p n xs in let b = first_of-map f p (suc n) xs in grind arith

pub without_first-map : {X Y : Type 0} (f : X → Y) (p : Y → Bool) (n : ℕ) (xs : List X) → without_first p n (map f xs) ≡ map f (without_first (λ x. p (f x)) n xs)
without_first-map f p n [] = refl
without_first-map f p zero (x ∷ xs) = refl
without_first-map f p (suc n) (x ∷ xs) = let a = without_first-map f p n xs in let b = without_first-map f p (suc n) xs in grind arith

pub filter-both : {X : Type 0} (p q : X → Bool) (xs : List X) → filter p (filter q xs) ≡ filter q (filter p xs)
filter-both p q [] = refl
filter-both p q (x ∷ xs) = let a = filter-both p q xs in grind (arith, common_steps)

pub filter-absent : {X : Type 0} (p : X → Bool) (xs : List X) → list_any p xs ≡ false → filter (λ x. not (p x)) xs ≡ xs
filter-absent p [] h = refl
filter-absent p (x ∷ xs) h = let a = filter-absent p xs in grind (arith, common_steps)

pub filter-none : {X : Type 0} (p : X → Bool) (xs : List X) → list_any p xs ≡ false → filter p xs ≡ []
filter-none p [] h = refl
filter-none p (x ∷ xs) h = let a = filter-none p xs in grind (arith, common_steps)

-- ---- whether one passes

pub any-first_of : {X : Type 0} (p q : X → Bool) (n : ℕ) (xs : List X) → list_any q (first_of p n xs) ≡ true → list_any q xs ≡ true
any-first_of p q n [] h = h
any-first_of p q zero (x ∷ xs) h = absurd (grind arith)
any-first_of p q (suc n) (x ∷ xs) h = let a = any-first_of p q n xs in let b = any-first_of p q (suc n) xs in grind (arith, common_steps)

pub any-without_first : {X : Type 0} (p q : X → Bool) (n : ℕ) (xs : List X) → list_any q (without_first p n xs) ≡ true → list_any q xs ≡ true
any-without_first p q n [] h = h
any-without_first p q zero (x ∷ xs) h = h
any-without_first p q (suc n) (x ∷ xs) h = let a = any-without_first p q n xs in let b = any-without_first p q (suc n) xs in grind (arith, common_steps)

pub any-map : {X Y : Type 0} (f : X → Y) (p : Y → Bool) (xs : List X) → list_any p (map f xs) ≡ list_any (λ x. p (f x)) xs
any-map f p [] = refl
any-map f p (x ∷ xs) = ap (λ b. p (f x) || b) (any-map f p xs)

pub any-filter : {X : Type 0} (p q : X → Bool) (xs : List X) → list_any p (filter q xs) ≡ true → list_any p xs ≡ true
any-filter p q [] h = h
any-filter p q (x ∷ xs) h = let a = any-filter p q xs in grind (arith, common_steps)

pub any-filter_both : {X : Type 0} (p q : X → Bool) (xs : List X) → list_any p (filter q xs) ≡ true → list_any q xs ≡ true
any-filter_both p q [] h = h
any-filter_both p q (x ∷ xs) h = let a = any-filter_both p q xs in grind (arith, common_steps)

pub none-filter : {X : Type 0} (p q : X → Bool) (xs : List X) → list_any p xs ≡ false → list_any p (filter q xs) ≡ false
none-filter p q [] h = refl
none-filter p q (x ∷ xs) h = let a = none-filter p q xs in grind (arith, common_steps)

-- none passes of a list where none passes of any of its parts
pub none_by_parts : {X : Type 0} (p : X → Bool) (q : ℕ → X → Bool) (key : X → ℕ) (own : (x : X) → q (key x) x ≡ true) (xs : List X) → ((a : ℕ) → list_any p (filter (q a) xs) ≡ false) → list_any p xs ≡ false
none_by_parts p q key own [] h = refl
none_by_parts p q key own (x ∷ xs) h =
    let here = h (key x) in
    let mine = own x in
    let a = none_by_parts p q key own xs (λ a. less a (h a)) in
    grind (arith, common_steps)
  where
    less : (a : ℕ) → list_any p (filter (q a) (x ∷ xs)) ≡ false → list_any p (filter (q a) xs) ≡ false
    less a e = grind (arith, common_steps)

-- one that passes stands in the part with its key
pub some_part : {X : Type 0} (p : X → Bool) (q : ℕ → X → Bool) (key : X → ℕ) (own : (x : X) → q (key x) x ≡ true) (xs : List X) → list_any p xs ≡ true → (a : ℕ) × (list_any p (filter (q a) xs) ≡ true)
some_part p q key own [] e = absurd (cc)
some_part p q key own (x ∷ xs) e = by (p x) refl (some_part p q key own xs)
  where
    here : p x ≡ true → list_any p (filter (q (key x)) (x ∷ xs)) ≡ true
    here h = let mine = own x in grind (arith, common_steps)

    later : (a : ℕ) → list_any p (filter (q a) xs) ≡ true → list_any p (filter (q a) (x ∷ xs)) ≡ true
    later a h = grind (arith, common_steps)

    rest : p x ≡ false → list_any p xs ≡ true
    rest h = grind (arith, common_steps)

    by : (b : Bool) → p x ≡ b → (list_any p xs ≡ true → (a : ℕ) × (list_any p (filter (q a) xs) ≡ true)) → (a : ℕ) × (list_any p (filter (q a) (x ∷ xs)) ≡ true)
    by true h more = (key x, here h)
    by false h more = let r = more (rest h) in (r.0, later r.0 r.1)

-- ---- what holds of all

pub All-filter : {X : Type 0} (P : X → Type 0) (p : X → Bool) (xs : List X) → All P xs → All P (filter p xs)
All-filter P p xs h = All-from_recursion P _ (Each-filter P p xs (recursion_from_All P xs h))

pub All-first_of : {X : Type 0} (P : X → Type 0) (p : X → Bool) (n : ℕ) (xs : List X) → All P xs → All P (first_of p n xs)
All-first_of P p n xs h = All-from_recursion P _ (Each-first_of P p n xs (recursion_from_All P xs h))

pub All-without_first : {X : Type 0} (P : X → Type 0) (p : X → Bool) (n : ℕ) (xs : List X) → All P xs → All P (without_first p n xs)
All-without_first P p n xs h = All-from_recursion P _ (Each-without_first P p n xs (recursion_from_All P xs h))

-- the first that pass do
pub each_passes : {X : Type 0} (p : X → Bool) (n : ℕ) (xs : List X) → AllByRecursion (λ x. p x ≡ true) (first_of p n xs)
each_passes p n [] = tt
each_passes p zero (x ∷ xs) = tt
each_passes p (suc n) (x ∷ xs) = by (p x) refl (each_passes p n xs) (each_passes p (suc n) xs)
  where
    by : (b : Bool) → p x ≡ b → AllByRecursion (λ y. p y ≡ true) (first_of p n xs) → AllByRecursion (λ y. p y ≡ true) (first_of p (suc n) xs) → AllByRecursion (λ y. p y ≡ true) (cond b (x ∷ first_of p n xs) (first_of p (suc n) xs))
    by true h f g = (h, f)
    by false h f g = g

pub all_pass : {X : Type 0} (p : X → Bool) (n : ℕ) (xs : List X) → All (λ x. p x ≡ true) (first_of p n xs)
all_pass p n xs = All-from_recursion (λ x. p x ≡ true) _ (each_passes p n xs)

-- one that passes, of which holds what holds of all
found_by : {X : Type 0} (P : X → Type 0) (p : X → Bool) (xs : List X) → AllByRecursion P xs → list_any p xs ≡ true → (x : X) × P x × (p x ≡ true)
found_by P p [] e h = absurd (cc)
found_by {X = X} P p (x ∷ xs) e h = by (p x) refl (found_by P p xs e.1)
  where
    rest : p x ≡ false → list_any p xs ≡ true
    rest k = grind (arith, common_steps)

    by : (b : Bool) → p x ≡ b → (list_any p xs ≡ true → (y : X) × P y × (p y ≡ true)) → (y : X) × P y × (p y ≡ true)
    by true k more = (x, e.0, k)
    by false k more = more (rest k)

pub found_in : {X : Type 0} (P : X → Type 0) (p : X → Bool) (xs : List X) → All P xs → list_any p xs ≡ true → (x : X) × P x × (p x ≡ true)
found_in P p xs e h = found_by P p xs (recursion_from_All P xs e) h
