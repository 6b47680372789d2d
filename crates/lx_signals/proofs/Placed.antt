-- What stands at a place of a list of places.
use Rattle.std.proofs.Common.{◌≡◌, ℕ, zero, suc, List, [], ◌∷◌, Option, refl}
use Rattle.std.specs.Prelude.{slice_set}
use Rattle.lx_machine.specs.Lists.{at_place}

-- what is put back changes nothing
pub placed_back : {X : Type 0} (xs : List (Option X)) (i : ℕ) → slice_set xs i (at_place xs i) ≡ xs
placed_back [] i = refl
placed_back (x ∷ xs) zero = refl
placed_back (x ∷ xs) (suc i) = let rest : slice_set xs i (at_place xs i) ≡ xs = placed_back xs i in λ j. x ∷ rest j
