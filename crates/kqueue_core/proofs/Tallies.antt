-- How many of a list pass a test: two lists for which every test is passed equally often hold the same, but for its order.
use Rattle.std.proofs.Common.{◌≡◌, ◌+◌, ◌≤◌, Bool, true, false, not, ◌||◌, ◌&&◌, List, [], ◌∷◌, ◌++◌, map, length, refl, arith}
use Rattle.std.specs.Prelude.{filter, if◌then◌else◌}
use Rattle.std.specs.List.{list_any}
use Rattle.std.proofs.lemmas.Grind.{common_steps}
use Rattle.kqueue_core.specs.Changes.{tally}

pub tally-append : {X : Type 0} (p : X → Bool) (xs ys : List X) → tally p (xs ++ ys) ≡ tally p xs + tally p ys
tally-append p [] ys = omega arith
tally-append p (x ∷ xs) ys = let a = tally-append p xs ys in grind (arith, common_steps)

pub tally-map : {X Y : Type 0} (f : X → Y) (p : Y → Bool) (xs : List X) → tally p (map f xs) ≡ tally (λ x. p (f x)) xs
tally-map f p [] = refl
tally-map f p (x ∷ xs) = let a = tally-map f p xs in grind arith

pub tally-filter : {X : Type 0} (q p : X → Bool) (xs : List X) → tally p (filter q xs) ≡ tally (λ x. q x && p x) xs
tally-filter q p [] = refl
tally-filter q p (x ∷ xs) = let a = tally-filter q p xs in grind (arith, common_steps)

-- tests that agree
pub tally-same : {X : Type 0} (p q : X → Bool) → ((x : X) → p x ≡ q x) → (xs : List X) → tally p xs ≡ tally q xs
tally-same p q h [] = refl
tally-same p q h (x ∷ xs) = let a = tally-same p q h xs in let b = h x in grind arith

pub tally-split : {X : Type 0} (m p : X → Bool) (xs : List X) → tally p xs ≡ tally (λ x. m x && p x) xs + tally (λ x. not (m x) && p x) xs
tally-split m p [] = refl
tally-split m p (x ∷ xs) = let a = tally-split m p xs in grind (arith, common_steps)

-- a test that none fails
pub tally_and : {X : Type 0} (r p : X → Bool) (xs : List X) → tally (λ x. not (r x)) xs ≡ 0 → tally (λ x. r x && p x) xs ≡ tally p xs
tally_and r p [] h = refl
tally_and r p (x ∷ xs) h = let a = tally_and r p xs in grind (arith, common_steps)

-- a test that passes where another one does
pub tally_within : {X : Type 0} (p q : X → Bool) → ((x : X) → p x ≡ true → q x ≡ true) → (xs : List X) → tally p xs ≤ tally q xs
tally_within p q h [] = omega arith
tally_within p q h (x ∷ xs) = let a = tally_within p q h xs in let b = h x in grind (arith, common_steps)

-- of those that pass m, none fails r
pub tally_among : {X : Type 0} (m r p : X → Bool) (xs : List X) → tally (λ x. m x && r x) xs ≡ tally m xs → tally (λ x. m x && p x) xs ≡ tally (λ x. (m x && r x) && p x) xs
tally_among m r p [] h = refl
tally_among m r p (x ∷ xs) h =
    let a = tally_among m r p xs in
    let b = among m r xs in
    grind (arith, common_steps)
  where
    among : {Y : Type 0} (n q : Y → Bool) (ys : List Y) → tally (λ y. n y && q y) ys ≤ tally n ys
    among n q [] = omega arith
    among n q (y ∷ ys) = let c = among n q ys in grind (arith, common_steps)

pub tally_const : {X : Type 0} (m : X → Bool) (b : Bool) (xs : List X) → tally (λ x. m x && b) xs ≡ (if b then tally m xs else 0)
tally_const m b [] = grind (arith, common_steps)
tally_const m b (x ∷ xs) = let a = tally_const m b xs in grind (arith, common_steps)

pub tally_none : {X : Type 0} (p : X → Bool) (xs : List X) → list_any p xs ≡ false → tally p xs ≡ 0
tally_none p [] h = refl
tally_none p (x ∷ xs) h = let a = tally_none p xs in grind (arith, common_steps)

pub none_tally : {X : Type 0} (p : X → Bool) (xs : List X) → tally p xs ≡ 0 → list_any p xs ≡ false
none_tally p [] h = refl
none_tally p (x ∷ xs) h = let a = none_tally p xs in grind (arith, common_steps)

pub tally_some : {X : Type 0} (p : X → Bool) (xs : List X) → list_any p xs ≡ true → 1 ≤ tally p xs
tally_some p [] h = absurd (grind arith)
tally_some p (x ∷ xs) h = let a = tally_some p xs in grind (arith, common_steps)

pub some_tally : {X : Type 0} (p : X → Bool) (xs : List X) → 1 ≤ tally p xs → list_any p xs ≡ true
some_tally p [] h = absurd (omega arith)
some_tally p (x ∷ xs) h = let a = some_tally p xs in grind (arith, common_steps)

pub tally_all : {X : Type 0} (xs : List X) → tally (λ x. true) xs ≡ length xs
tally_all [] = refl
tally_all (x ∷ xs) = let a = tally_all xs in grind (arith, common_steps)

pub tally_false : {X : Type 0} (xs : List X) → tally (λ x. false) xs ≡ 0
tally_false [] = refl
tally_false (x ∷ xs) = let a = tally_false xs in grind (arith, common_steps)

pub tally_or : {X : Type 0} (p q : X → Bool) (xs : List X) → tally (λ x. p x || q x) xs ≤ tally p xs + tally q xs
tally_or p q [] = omega arith
tally_or p q (x ∷ xs) = let a = tally_or p q xs in grind (arith, common_steps)

-- as many pass: some pass of both or of none
pub any_same : {X Y : Type 0} (p : X → Bool) (q : Y → Bool) (xs : List X) (ys : List Y) → tally p xs ≡ tally q ys → list_any p xs ≡ list_any q ys
any_same {X = X} {Y = Y} p q xs ys e = by (list_any p xs) refl (list_any q ys) refl
  where
    by : (a : Bool) → list_any p xs ≡ a → (b : Bool) → list_any q ys ≡ b → a ≡ b
    by true f true g = refl
    by false f false g = refl
    by true f false g = let h = tally_some p xs f in let k = tally_none q ys g in absurd (omega arith)
    by false f true g = let h = tally_none p xs f in let k = tally_some q ys g in absurd (omega arith)
