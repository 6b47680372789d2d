-- What is held of the parts, and the machine that it is held of. This project's own.
use Rattle.std.specs.Prelude.{◌≡◌, ℕ, true, List, [], ◌∷◌, map, Option, Some, None, is_some}
use Rattle.std.specs.List.{AllByRecursion}
use Rattle.machine_parts.specs.declared.object.Object.{Object}
use Rattle.machine_parts.specs.Objects.{number}
use Rattle.machine_parts.specs.Parts.{Parts, part_at}

-- all these objects are held
abbrev pub HoldsAll : List Object → Parts → Type 0
HoldsAll os h = AllByRecursion (λ o. is_some (part_at h (number o)) ≡ true) os

module _ {P : Type 0} where
  -- what is held, in the place of the parts of a machine
  abbrev pub over : List (Option P) → List (Option P) → List (Option P)
  over [] m = m
  over (h ∷ hs) [] = []
  over (Some p ∷ hs) (q ∷ m) = Some p ∷ over hs m
  over (None ∷ hs) (q ∷ m) = q ∷ over hs m

  -- the same objects are held
  abbrev pub SameObjects : List (Option P) → List (Option P) → Type 0
  SameObjects before after = map is_some before ≡ map is_some after

  -- a machine of which no part is lacking
  abbrev pub whole : List P → List (Option P)
  whole ps = map (λ p. Some p) ps

  -- the parts that are there, in their order
  abbrev pub values : List (Option P) → List P
  values [] = []
  values (Some p ∷ hs) = p ∷ values hs
  values (None ∷ hs) = values hs

  -- no part is lacking
  abbrev pub IsWhole : List (Option P) → Type 0
  IsWhole m = whole (values m) ≡ m
