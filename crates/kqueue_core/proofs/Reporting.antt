-- The first elements of a list that pass a test, and the list without them.
use Rattle.std.proofs.Common.{◌≡◌, ℕ, zero, suc, ◌+◌, ◌≤◌, Bool, ◌&&◌, List, [], ◌∷◌, ◌++◌, take, length, refl, arith}
use Rattle.std.specs.Prelude.{filter, nat_lt, if◌then◌else◌}
use Rattle.std.proofs.lemmas.Grind.{common_steps}
use Rattle.kqueue_core.specs.Changes.{tally}
use Rattle.kqueue_core.specs.Reports.{without_first}

module _ {X : Type 0} (p : X → Bool) where
  -- one element more
  pub first_more : (most : ℕ) (xs : List X) (x : X) → take most (filter p (xs ++ x ∷ [])) ≡ (if nat_lt (length (take most (filter p xs))) most && p x then take most (filter p xs) ++ x ∷ [] else take most (filter p xs))
  first_more zero [] x = grind (arith, common_steps)
  first_more (suc most) [] x = grind (arith, common_steps)
  first_more zero (y ∷ ys) x = let a = first_more zero ys x in grind (arith, common_steps)
  first_more (suc most) (y ∷ ys) x = let a = first_more most ys x in let b = first_more (suc most) ys x in grind (arith, common_steps)

  pub others_more : (most : ℕ) (xs : List X) (x : X) → without_first p most (xs ++ x ∷ []) ≡ (if nat_lt (length (take most (filter p xs))) most && p x then without_first p most xs else without_first p most xs ++ x ∷ [])
  others_more zero [] x = grind (arith, common_steps)
  others_more (suc most) [] x = grind (arith, common_steps)
  others_more zero (y ∷ ys) x = let a = others_more zero ys x in grind (arith, common_steps)
  others_more (suc most) (y ∷ ys) x = let a = others_more most ys x in let b = others_more (suc most) ys x in grind (arith, common_steps)

  -- what passes is split in two
  pub split_first : (q : X → Bool) (most : ℕ) (xs : List X) → tally q (without_first p most xs) + tally q (take most (filter p xs)) ≡ tally q xs
  split_first q zero [] = refl
  split_first q (suc most) [] = refl
  split_first q zero (x ∷ xs) = let a = split_first q zero xs in grind (arith, common_steps)
  split_first q (suc most) (x ∷ xs) = let a = split_first q most xs in let b = split_first q (suc most) xs in grind (arith, common_steps)

  pub few_first : (most : ℕ) (xs : List X) → length (take most (filter p xs)) ≤ most
  few_first zero xs = grind (arith, common_steps)
  few_first (suc most) [] = grind (arith, common_steps)
  few_first (suc most) (x ∷ xs) = let a = few_first most xs in let b = few_first (suc most) xs in grind (arith, common_steps)

  pub length_parts : (most : ℕ) (xs : List X) → length (without_first p most xs) + length (take most (filter p xs)) ≡ length xs
  length_parts zero [] = refl
  length_parts (suc most) [] = refl
  length_parts zero (x ∷ xs) = let a = length_parts zero xs in grind (arith, common_steps)
  length_parts (suc most) (x ∷ xs) = let a = length_parts most xs in let b = length_parts (suc most) xs in grind (arith, common_steps)
