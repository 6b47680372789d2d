-- How often a frame occurs among pages and free frames, and the frame that a page owns.
use Rattle.std.proofs.Common.{◌≡◌, ◌≢◌, ℕ, zero, suc, ◌+◌, ◌<◌, ◌≤◌, List, [], ◌∷◌, ◌++◌, length, set, get_or, refl, sym, ap, arith}
use Rattle.std.specs.List.{insert, remove}
use Rattle.std.proofs.lemmas.Bool.Decides.{nat_tests}
use Rattle.page_store.specs.declared.kept_row.Kept.{Kept}
use Rattle.page_store.specs.Frames.{one_if, times, one_below, itself}
use Rattle.page_store.specs.Kept.{frame_of}

pub one_if-same : (f g : ℕ) → f ≡ g → one_if f g ≡ 1
one_if-same f g same = grind (arith, nat_tests)

pub one_if-zero : (f g : ℕ) → one_if f g ≡ 0 → f ≢ g
one_if-zero f g none same = omega (arith, one_if-same f g same)

pub one_below-most : (f n : ℕ) → one_below f n ≤ 1
one_below-most f n = grind (arith, nat_tests)

pub one_below-some : (f n : ℕ) → 0 < one_below f n → f < n
one_below-some f n some = grind (arith, nat_tests)

pub one_below-is : (f n : ℕ) → f < n → one_below f n ≡ 1
one_below-is f n below = grind (arith, nat_tests)

pub one_below-none : (f n : ℕ) → n ≤ f → one_below f n ≡ 0
one_below-none f n above = grind (arith, nat_tests)

-- one frame more
pub one_below-suc : (f n : ℕ) → one_below f n + one_if n f ≡ one_below f (n + 1)
one_below-suc f n = grind (arith, nat_tests)

module _ {X : Type 0} (of : X → ℕ) (f : ℕ) where
  pub times-insert : (xs : List X) (i : ℕ) (y : X) → times of f (insert xs i y) ≡ one_if (of y) f + times of f xs
  times-insert xs zero y = refl
  times-insert [] (suc i) y = refl
  times-insert (x ∷ xs) (suc i) y = omega (arith, times-insert xs i y)

  pub times-remove : (xs : List X) (i : ℕ) (d : X) → i < length xs → times of f xs ≡ one_if (of (get_or xs i d)) f + times of f (remove xs i)
  times-remove [] i d lt = absurd (omega arith)
  times-remove (x ∷ xs) zero d lt = refl
  times-remove (x ∷ xs) (suc i) d lt = omega (arith, times-remove xs i d (omega arith))

  pub times-set : (xs : List X) (i : ℕ) (y : X) → of y ≡ of (get_or xs i y) → times of f (set xs i y) ≡ times of f xs
  times-set [] i y same = refl
  times-set (x ∷ xs) zero y same = ap (λ (g : ℕ). one_if g f + times of f xs) same
  times-set (x ∷ xs) (suc i) y same = ap (λ (n : ℕ). one_if (of x) f + n) (times-set xs i y same)

  pub times-push : (xs : List X) (y : X) → times of f (xs ++ y ∷ []) ≡ one_if (of y) f + times of f xs
  times-push [] y = refl
  times-push (x ∷ xs) y = omega (arith, times-push xs y)

pub times-at : {X : Type 0} (of : X → ℕ) (xs : List X) (i : ℕ) (d : X) → i < length xs → 0 < times of (of (get_or xs i d)) xs
times-at of xs i d lt =
    let parts = times-remove of (of (get_or xs i d)) xs i d lt in
    omega (arith, parts, one_if-same (of (get_or xs i d)) (of (get_or xs i d)) refl)

-- a page's frame is one of the frames, and no other page has it
pub owned : (ks : List Kept) (free : List ℕ) (n i : ℕ) (k : Kept) → ((f : ℕ) → times frame_of f ks + times itself f free ≡ one_below f n) → i < length ks → k ≡ get_or ks i k → (k.frame < n) × (times frame_of k.frame ks ≤ 1)
owned ks free n i k owners lt read =
    let same : frame_of (get_or ks i k) ≡ k.frame = ap frame_of (sym read) in
    let some : 0 < times frame_of k.frame ks = rw same at (times-at frame_of ks i k lt) in
    let all : times frame_of k.frame ks + times itself k.frame free ≡ one_below k.frame n = owners k.frame in
    (one_below-some k.frame n (omega (arith, all, some)), omega (arith, all, one_below-most k.frame n))
