-- How many pass: of parts of a list, and of elements of which each stands once.
use Rattle.std.proofs.Common.{◌≡◌, ◌≢◌, ℕ, zero, suc, ◌+◌, ◌*◌, ◌<◌, ◌≤◌, Bool, true, false, not, List, [], ◌∷◌, ◌++◌, length, map, min, refl, ap, ◌∙◌, arith, cond}
use Rattle.std.specs.Prelude.{◌==◌}
use Rattle.std.specs.List.{AllByRecursion, filter, list_any}
use Rattle.std.proofs.lemmas.Bool.Decides.{nat_tests}
use Rattle.std.proofs.lemmas.Grind.{common_steps}
use Rattle.umtx_queue.specs.Lists.{first_of, without_first, tally}

pub tally-append : {X : Type 0} (p : X → Bool) (xs ys : List X) → tally p (xs ++ ys) ≡ tally p xs + tally p ys
tally-append p [] ys = omega arith
tally-append p (x ∷ xs) ys = let a = tally-append p xs ys in omega arith

pub tally-map : {X Y : Type 0} (f : X → Y) (p : Y → Bool) (xs : List X) → tally p (map f xs) ≡ tally (λ x. p (f x)) xs
tally-map f p [] = refl
tally-map f p (x ∷ xs) = ap (λ n. cond (p (f x)) 1 0 + n) (tally-map f p xs)

-- each is picked or left
pub tally_split : {X : Type 0} (p q : X → Bool) (n : ℕ) (xs : List X) → tally q (first_of p n xs) + tally q (without_first p n xs) ≡ tally q xs
tally_split p q n [] = refl
tally_split p q zero (x ∷ xs) = omega arith
tally_split p q (suc n) (x ∷ xs) = let a = tally_split p q n xs in let b = tally_split p q (suc n) xs in grind arith

pub lengths : {X : Type 0} (p : X → Bool) (n : ℕ) (xs : List X) → length (first_of p n xs) + length (without_first p n xs) ≡ length xs
lengths p n [] = refl
lengths p zero (x ∷ xs) = omega arith
lengths p (suc n) (x ∷ xs) = let a = lengths p n xs in let b = lengths p (suc n) xs in grind arith

-- how many are picked
pub length-first_of : {X : Type 0} (p : X → Bool) (n : ℕ) (xs : List X) → length (first_of p n xs) ≡ min n (tally p xs)
length-first_of p n [] = omega arith
length-first_of p zero (x ∷ xs) = omega arith
length-first_of p (suc n) (x ∷ xs) = let a = length-first_of p n xs in let b = length-first_of p (suc n) xs in grind arith

pub tally-filter : {X : Type 0} (p q : X → Bool) (xs : List X) → tally p (filter q xs) ≤ tally p xs
tally-filter p q [] = omega arith
tally-filter p q (x ∷ xs) = let a = tally-filter p q xs in grind arith

pub length-filter : {X : Type 0} (p : X → Bool) (xs : List X) → length (filter p xs) ≡ tally p xs
length-filter p [] = refl
length-filter p (x ∷ xs) = let a = length-filter p xs in grind arith

pub tally_any : {X : Type 0} (p : X → Bool) (xs : List X) → list_any p xs ≡ true → 1 ≤ tally p xs
tally_any p [] h = cc
tally_any p (x ∷ xs) h = let a = tally_any p xs in grind (arith, common_steps)

pub tally_none : {X : Type 0} (p : X → Bool) (xs : List X) → list_any p xs ≡ false → tally p xs ≡ 0
tally_none p [] h = refl
tally_none p (x ∷ xs) h = let a = tally_none p xs in grind (arith, common_steps)

pub none_tally : {X : Type 0} (p : X → Bool) (xs : List X) → tally p xs ≡ 0 → list_any p xs ≡ false
none_tally p [] h = refl
none_tally p (x ∷ xs) h = let a = none_tally p xs in grind (arith, common_steps)

-- where a test passes only what another does, and where they pass the same
pub tally_within : {X : Type 0} (p q : X → Bool) (xs : List X) → ((x : X) → p x ≡ true → q x ≡ true) → tally p xs ≤ tally q xs
tally_within p q [] h = omega arith
tally_within p q (x ∷ xs) h = let a = tally_within p q xs h in let b = h x in grind arith

-- of a part
pub Each-first_of : {X : Type 0} (P : X → Type 0) (p : X → Bool) (n : ℕ) (xs : List X) → AllByRecursion P xs → AllByRecursion P (first_of p n xs)
Each-first_of P p n [] e = tt
Each-first_of P p zero (x ∷ xs) e = tt
Each-first_of P p (suc n) (x ∷ xs) e = by (p x) (Each-first_of P p n xs e.1) (Each-first_of P p (suc n) xs e.1)
  where
    by : (b : Bool) → AllByRecursion P (first_of p n xs) → AllByRecursion P (first_of p (suc n) xs) → AllByRecursion P (cond b (x ∷ first_of p n xs) (first_of p (suc n) xs))
    by true f g = (e.0, f)
    by false f g = g

pub Each-without_first : {X : Type 0} (P : X → Type 0) (p : X → Bool) (n : ℕ) (xs : List X) → AllByRecursion P xs → AllByRecursion P (without_first p n xs)
Each-without_first P p n [] e = tt
Each-without_first P p zero (x ∷ xs) e = e
Each-without_first P p (suc n) (x ∷ xs) e = by (p x) (Each-without_first P p n xs e.1) (Each-without_first P p (suc n) xs e.1)
  where
    by : (b : Bool) → AllByRecursion P (without_first p n xs) → AllByRecursion P (without_first p (suc n) xs) → AllByRecursion P (cond b (without_first p n xs) (x ∷ without_first p (suc n) xs))
    by true f g = f
    by false f g = (e.0, g)

pub Each-filter : {X : Type 0} (P : X → Type 0) (p : X → Bool) (xs : List X) → AllByRecursion P xs → AllByRecursion P (filter p xs)
Each-filter P p [] e = tt
Each-filter P p (x ∷ xs) e = by (p x) (Each-filter P p xs e.1)
  where
    by : (b : Bool) → AllByRecursion P (filter p xs) → AllByRecursion P (cond b (x ∷ filter p xs) (filter p xs))
    by true f = (e.0, f)
    by false f = f

pub Each-append : {X : Type 0} (P : X → Type 0) (xs ys : List X) → AllByRecursion P xs → AllByRecursion P ys → AllByRecursion P (xs ++ ys)
Each-append P [] ys e f = f
Each-append P (x ∷ xs) ys e f = (e.0, Each-append P xs ys e.1 f)

pub Each-map : {X Y : Type 0} (P : X → Type 0) (Q : Y → Type 0) (f : X → Y) (gives : (x : X) → P x → Q (f x)) (xs : List X) → AllByRecursion P xs → AllByRecursion Q (map f xs)
Each-map P Q f gives [] e = tt
Each-map P Q f gives (x ∷ xs) e = (gives x e.0, Each-map P Q f gives xs e.1)

-- elements of at most n groups, of each at most m, are at most n times m
parted : {X : Type 0} (g : X → ℕ) (n : ℕ) (xs : List X) → length xs ≡ tally (λ x. g x == n) xs + length (filter (λ x. not (g x == n)) xs)
parted g n [] = refl
parted g n (x ∷ xs) = let a = parted g n xs in grind (arith, common_steps)

below_rest : {X : Type 0} (g : X → ℕ) (n : ℕ) (xs : List X) → AllByRecursion (λ x. g x < suc n) xs → AllByRecursion (λ x. g x < n) (filter (λ x. not (g x == n)) xs)
below_rest g n [] e = tt
below_rest g n (x ∷ xs) e = by (below_rest g n xs e.1) (g x == n) refl
  where
    by : AllByRecursion (λ y. g y < n) (filter (λ y. not (g y == n)) xs) → (b : Bool) → (g x == n) ≡ b → AllByRecursion (λ y. g y < n) (cond (not b) (x ∷ filter (λ y. not (g y == n)) xs) (filter (λ y. not (g y == n)) xs))
    by rest true is = rest
    by rest false is = ((let low : g x < suc n = e.0 in let ne : g x ≢ n = grind (arith, nat_tests) in omega arith), rest)

pub grouped : {X : Type 0} (g : X → ℕ) (n m : ℕ) (xs : List X) → AllByRecursion (λ x. g x < n) xs → ((j : ℕ) → tally (λ x. g x == j) xs ≤ m) → length xs ≤ n * m
grouped g zero m [] e h = omega arith
grouped g zero m (x ∷ xs) e h = absurd (let low : g x < 0 = e.0 in omega arith)
grouped g (suc n) m xs e h =
    let rest = grouped g n m (filter (λ x. not (g x == n)) xs) (below_rest g n xs e) (λ j. (let a = tally-filter (λ x. g x == j) (λ x. not (g x == n)) xs in let b = h j in omega arith)) in
    let all = parted g n xs in
    let here = h n in
    let more : suc n * m ≡ n * m + m = grind arith in
    omega arith

-- one more that passes, and one more
pub tally_hit : {X : Type 0} (p : X → Bool) (xs rest : List X) (x : X) → xs ≡ x ∷ rest → p x ≡ true → tally p xs ≡ 1 + tally p rest
tally_hit p xs rest x e h = ap (tally p) e ∙ ap (λ b. cond b 1 0 + tally p rest) h

pub tally_next : {X : Type 0} (p : X → Bool) (xs rest : List X) (x : X) → xs ≡ x ∷ rest → tally p rest ≤ tally p xs
tally_next p xs rest x e = let a : tally p xs ≡ cond (p x) 1 0 + tally p rest = ap (tally p) e in omega arith
