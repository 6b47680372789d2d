-- One step of a loop that changes each element of a list in its place.
use Rattle.std.proofs.Common.{◌≡◌, ℕ, zero, suc, ◌+◌, ◌<◌, List, [], ◌∷◌, ◌++◌, map, take, drop, length, get_or, slice_set, refl, sym, ap, ◌∙◌}
use Rattle.std.proofs.lemmas.List.{get_or_default}
use Rattle.std.proofs.lemmas.List.Edits.{map_over_more}

module _ {X : Type 0} where
  -- an element in the place of itself
  pub set_back : (xs : List X) (i : ℕ) (d : X) → slice_set xs i (get_or xs i d) ≡ xs
  set_back [] i d = refl
  set_back (x ∷ xs) zero d = refl
  set_back (x ∷ xs) (suc i) d = ap (λ l. x ∷ l) (set_back xs i d)

  module _ (f : X → X) (xs ys : List X) (i : ℕ) (d : X) (within : i < length xs) (same : i < length ys) (far : ys ≡ map f (take i xs) ++ drop i xs) where
    -- the element is changed
    pub changed_more : (y : X) → y ≡ f (get_or ys i d) → slice_set ys i y ≡ map f (take (i + 1) xs) ++ drop (i + 1) xs
    changed_more y e = ap (λ z. slice_set ys i z) e ∙ map_over_more f xs ys i (get_or ys i d) within far (get_or_default ys i d (get_or ys i d) same)

    -- it is as it was
    pub kept_more : f (get_or ys i d) ≡ get_or ys i d → ys ≡ map f (take (i + 1) xs) ++ drop (i + 1) xs
    kept_more e = sym (set_back ys i d) ∙ changed_more (get_or ys i d) (sym e)
