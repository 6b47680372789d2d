-- Lists whose elements are mapped: what is found, kept, counted, read and written there.
use Rattle.std.proofs.Common.{◌≡◌, ℕ, zero, suc, ◌+◌, Bool, true, false, not, List, [], ◌∷◌, ◌++◌, map, filter, take, drop, Some, option_map, if◌then◌else◌, refl, ap, ◌∙◌, arith}
use Rattle.std.specs.Prelude.{find, slice_index_or, slice_set}
use Rattle.std.specs.List.{after_first, before_first, fold, position_or_len}

-- the list without its first element that passes, element by element
pub cut_first : {X : Type 0} (test : X → Bool) (x : X) (xs : List X)
    → before_first test (x ∷ xs) ++ after_first test (x ∷ xs) ≡ (if test x then xs else (x ∷ (before_first test xs ++ after_first test xs)))
cut_first {X = X} test x xs = by (test x)
  where
    n : ℕ
    n = position_or_len test xs

    by : (b : Bool)
        → take (if not b then 1 + n else 0) (x ∷ xs) ++ drop ((if not b then 1 + n else 0) + 1) (x ∷ xs)
        ≡ (if b then xs else (x ∷ (take n xs ++ drop (n + 1) xs)))
    by true = refl
    by false =
        let e : 1 + n ≡ suc n = omega arith in
        let f : suc n + 1 ≡ suc (n + 1) = omega arith in
        ap (λ (k : ℕ). take k (x ∷ xs) ++ drop (k + 1) (x ∷ xs)) e ∙ ap (λ (k : ℕ). x ∷ (take n xs ++ drop k (x ∷ xs))) f

module _ {X Y : Type 0} (f : X → Y) where
  pub find_mapped : (p : Y → Bool) (q : X → Bool) → ((x : X) → p (f x) ≡ q x) → (xs : List X) → find p (map f xs) ≡ option_map f (find q xs)
  find_mapped p q e [] = refl
  find_mapped p q e (x ∷ xs) = by (p (f x)) (q x) (e x) (find_mapped p q e xs)
    where
      by : (b c : Bool) → b ≡ c → find p (map f xs) ≡ option_map f (find q xs)
          → (if b then Some (f x) else find p (map f xs)) ≡ option_map f (if c then Some x else find q xs)
      by true true h next = refl
      by false false h next = next
      by true false h next = absurd (cc)
      by false true h next = absurd (cc)

  pub filter_mapped : (p : Y → Bool) (q : X → Bool) → ((x : X) → p (f x) ≡ q x) → (xs : List X) → filter p (map f xs) ≡ map f (filter q xs)
  filter_mapped p q e [] = refl
  filter_mapped p q e (x ∷ xs) = by (p (f x)) (q x) (e x) (filter_mapped p q e xs)
    where
      by : (b c : Bool) → b ≡ c → filter p (map f xs) ≡ map f (filter q xs)
          → (if b then (f x ∷ filter p (map f xs)) else filter p (map f xs)) ≡ map f (if c then (x ∷ filter q xs) else filter q xs)
      by true true h next = ap (λ (l : List Y). f x ∷ l) next
      by false false h next = next
      by true false h next = absurd (cc)
      by false true h next = absurd (cc)

  pub fold_mapped : {A : Type 0} (g : A → Y → A) (h : A → X → A) → ((a : A) (x : X) → g a (f x) ≡ h a x) → (xs : List X) (a : A)
      → fold g a (map f xs) ≡ fold h a xs
  fold_mapped g h e [] a = refl
  fold_mapped g h e (x ∷ xs) a = ap (λ b. fold g b (map f xs)) (e a x) ∙ fold_mapped g h e xs (h a x)

  pub index_mapped : (xs : List X) (i : ℕ) (d : X) → slice_index_or (map f xs) i (f d) ≡ f (slice_index_or xs i d)
  index_mapped [] i d = refl
  index_mapped (x ∷ xs) zero d = refl
  index_mapped (x ∷ xs) (suc i) d = index_mapped xs i d

  pub set_mapped : (xs : List X) (i : ℕ) (v : X) → slice_set (map f xs) i (f v) ≡ map f (slice_set xs i v)
  set_mapped [] i v = refl
  set_mapped (x ∷ xs) zero v = refl
  set_mapped (x ∷ xs) (suc i) v = ap (λ (l : List Y). f x ∷ l) (set_mapped xs i v)

  pub snoc_mapped : (xs : List X) (x : X) → map f xs ++ f x ∷ [] ≡ map f (xs ++ x ∷ [])
  snoc_mapped [] x = refl
  snoc_mapped (y ∷ xs) x = ap (λ (l : List Y). f y ∷ l) (snoc_mapped xs x)
