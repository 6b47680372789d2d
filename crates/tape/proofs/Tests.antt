-- What tests in their order say of the answer.
use Rattle.std.proofs.Common.{◌≡◌, Bool, true, false, cond, Option, Some, None, refl}
use Rattle.std.specs.Option.{option_or}

-- a test that found no fault
pub passes : {X : Type 0} (b : Bool) (fault : X) (rest : Option X) → cond b (Some fault) rest ≡ None → (b ≡ false) × (rest ≡ None)
passes true fault rest e = absurd cc
passes false fault rest e = (refl, e)

-- the last test
pub ends : {X : Type 0} (b : Bool) (fault : X) → cond b None (Some fault) ≡ None → b ≡ true
ends true fault e = refl
ends false fault e = absurd cc

-- neither of two has a fault
pub neither : {X : Type 0} (first second : Option X) → option_or first second ≡ None → (first ≡ None) × (second ≡ None)
neither None second e = (refl, e)
neither (Some fault) second e = absurd cc

-- a fault that no test answers
pub no_fault : {X : Type 0} (b : Bool) (fault : X) (rest : Option X) (other : X) → (fault ≡ other → ⊥) → (rest ≡ Some other → ⊥) → cond b (Some fault) rest ≡ Some other → ⊥
no_fault true fault rest other differs rest_differs e = differs cc
no_fault false fault rest other differs rest_differs e = rest_differs e

pub no_last : {X : Type 0} (b : Bool) (fault other : X) → (fault ≡ other → ⊥) → cond b None (Some fault) ≡ Some other → ⊥
no_last true fault other differs e = cc
no_last false fault other differs e = differs cc

pub no_either : {X : Type 0} (first second : Option X) (other : X) → (first ≡ Some other → ⊥) → (second ≡ Some other → ⊥) → option_or first second ≡ Some other → ⊥
no_either None second other differs second_differs e = second_differs e
no_either (Some fault) second other differs second_differs e = differs e

pub none_not : {X : Type 0} (other : X) → None ≡ Some other → ⊥
none_not other e = cc
