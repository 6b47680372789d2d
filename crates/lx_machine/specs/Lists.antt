-- Words on lists and options that the definitions share.
use Rattle.std.proofs.Math.Bool.{not}
use Rattle.std.specs.List.{list_any}
use Rattle.std.specs.Prelude.{Bool, List, None, Option, Some, [], slice_get, slice_set, suc, true, ℕ, ◌&&◌, ◌∷◌}

-- what follows from a value, if there is one
abbrev pub bind : {A B : Type 0} → Option A → (A → Option B) → Option B
bind None f = None
bind (Some x) f = f x

-- what stands at a place of a list of places, if there is such a place and it isn't free
abbrev pub at_place : {X : Type 0} → List (Option X) → ℕ → Option X
at_place xs i = bind (slice_get xs i) (λ x. x)

-- this at a place of a list of places
abbrev pub with_place : {X : Type 0} → List (Option X) → ℕ → X → List (Option X)
with_place xs i x = slice_set xs i (Some x)

-- the place is free
abbrev pub without_place : {X : Type 0} → List (Option X) → ℕ → List (Option X)
without_place xs i = slice_set xs i None

-- the lowest free place, where these are the places from `from` on
abbrev pub first_free_from : {X : Type 0} → ℕ → List (Option X) → Option ℕ
first_free_from from [] = None
first_free_from from (None ∷ xs) = Some from
first_free_from from (Some x ∷ xs) = first_free_from (suc from) xs

-- the lowest free place
abbrev pub first_free : {X : Type 0} → List (Option X) → Option ℕ
first_free xs = first_free_from 0 xs

-- no element is the same as one behind it
abbrev pub differ : {X : Type 0} → (X → X → Bool) → List X → Bool
differ same [] = true
differ same (x ∷ xs) = not (list_any (same x) xs) && differ same xs
