-- What is so of some elements of a list, where it is so of all.
use Rattle.std.proofs.Common.{◌≡◌, ℕ, zero, suc, Bool, true, false, List, [], ◌∷◌, map, filter, take, refl, arith}
use Rattle.std.specs.List.{list_all, list_any}
use Rattle.lx_machine.specs.Lists.{differ}

-- ---- those that pass a test

pub none_filtered : {X : Type 0} (test p : X → Bool) (xs : List X) → list_any p xs ≡ false → list_any p (filter test xs) ≡ false
none_filtered test p [] h = refl
none_filtered test p (x ∷ xs) h = let ih = none_filtered test p xs in grind arith

pub differ_filtered : {X : Type 0} (test : X → Bool) (same : X → X → Bool) (xs : List X) → differ same xs ≡ true → differ same (filter test xs) ≡ true
differ_filtered test same [] h = refl
differ_filtered test same (x ∷ xs) h = let a = none_filtered test (same x) xs in let ih = differ_filtered test same xs in grind arith

-- ---- the first ones

pub none_taken : {X : Type 0} (p : X → Bool) (n : ℕ) (xs : List X) → list_any p xs ≡ false → list_any p (take n xs) ≡ false
none_taken p zero xs h = refl
none_taken p (suc n) [] h = refl
none_taken p (suc n) (x ∷ xs) h = let ih = none_taken p n xs in grind arith

pub all_taken : {X : Type 0} (p : X → Bool) (n : ℕ) (xs : List X) → list_all p xs ≡ true → list_all p (take n xs) ≡ true
all_taken p zero xs h = refl
all_taken p (suc n) [] h = refl
all_taken p (suc n) (x ∷ xs) h = let ih = all_taken p n xs in grind arith

pub differ_taken : {X : Type 0} (same : X → X → Bool) (n : ℕ) (xs : List X) → differ same xs ≡ true → differ same (take n xs) ≡ true
differ_taken same zero xs h = refl
differ_taken same (suc n) [] h = refl
differ_taken same (suc n) (x ∷ xs) h = let a = none_taken (same x) n xs in let ih = differ_taken same n xs in grind arith

-- ---- what stands for them

pub any_mapped : {X Y : Type 0} (f : X → Y) (p : Y → Bool) (q : X → Bool) → ((x : X) → p (f x) ≡ q x) → (xs : List X) → list_any p (map f xs) ≡ list_any q xs
any_mapped f p q e [] = refl
any_mapped f p q e (x ∷ xs) = let a = e x in let ih = any_mapped f p q e xs in rw (a, ih) refl

pub differ_mapped : {X Y : Type 0} (f : X → Y) (like : Y → Y → Bool) (same : X → X → Bool) → ((x y : X) → like (f x) (f y) ≡ same x y) → (xs : List X) → differ like (map f xs) ≡ differ same xs
differ_mapped f like same e [] = refl
differ_mapped f like same e (x ∷ xs) = let a = any_mapped f (like (f x)) (same x) (e x) xs in let ih = differ_mapped f like same e xs in rw (a, ih) refl
