-- The lowest free place is the first at which a test passes.
use Rattle.std.specs.Prelude.{◌≡◌, refl, ℕ, ◌+◌, suc, List, [], ◌∷◌, Option, Some, None, is_none, position}
use Rattle.std.specs.List.{position_from}
use Rattle.std.specs.Option.{option_map}
use Rattle.std.proofs.Common.{ap, sym, arith, ◌∙◌}
use Rattle.std.proofs.lemmas.Iterator.Adapters.{position_from-zero}
use Rattle.lx_machine.specs.Lists.{first_free, first_free_from}

add_one : (n : ℕ) → suc n ≡ n + 1
add_one n = omega arith

from_position : {X : Type 0} (n : ℕ) (xs : List (Option X)) → first_free_from n xs ≡ position_from is_none n xs
from_position n [] = refl
from_position n (None ∷ xs) = refl
from_position n (Some x ∷ xs) = rw (add_one n) (from_position (n + 1) xs)

pub free_position : {X : Type 0} (xs : List (Option X)) → position is_none xs ≡ first_free xs
free_position xs = position_from-zero is_none xs ∙ sym (from_position 0 xs)

-- counted from a later place
from_later : {X : Type 0} (n m : ℕ) (xs : List (Option X)) → option_map (λ i. n + i) (first_free_from m xs) ≡ first_free_from (n + m) xs
from_later n m [] = refl
from_later n m (None ∷ xs) = refl
from_later n m (Some x ∷ xs) = let e : n + suc m ≡ suc (n + m) = omega arith in from_later n (suc m) xs ∙ ap (λ k. first_free_from k xs) e

pub later_position : {X : Type 0} (n : ℕ) (xs : List (Option X)) → option_map (λ i. n + i) (position is_none xs) ≡ first_free_from n xs
later_position n xs = let e : n + 0 ≡ n = omega arith in ap (option_map (λ i. n + i)) (free_position xs) ∙ from_later n 0 xs ∙ ap (λ k. first_free_from k xs) e

pub later_some : {X : Type 0} (n i : ℕ) (xs : List (Option X)) → position is_none xs ≡ Some i → first_free_from n xs ≡ Some (n + i)
later_some n i xs h = sym (later_position n xs) ∙ ap (option_map (λ i. n + i)) h

pub later_none : {X : Type 0} (n : ℕ) (xs : List (Option X)) → position is_none xs ≡ None → first_free_from n xs ≡ None
later_none n xs h = sym (later_position n xs) ∙ ap (option_map (λ i. n + i)) h
