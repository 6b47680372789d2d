-- A place that is set to what stands there.
use Rattle.std.specs.Prelude.{◌≡◌, refl, ℕ, zero, suc, List, [], ◌∷◌, Option, Some, slice_set}
use Rattle.std.proofs.Common.{ap, sym}
use Rattle.lx_machine.specs.Lists.{at_place}

pub set_same : {X : Type 0} (xs : List (Option X)) (i : ℕ) (x : X) → at_place xs i ≡ Some x → slice_set xs i (Some x) ≡ xs
set_same [] i x h = refl
set_same (o ∷ xs) zero x h = ap (λ y. y ∷ xs) (sym h)
set_same (o ∷ xs) (suc i) x h = ap (λ ys. o ∷ ys) (set_same xs i x h)
