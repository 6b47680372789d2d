-- The first elements of a list that pass a test, and the rest. This project's own words.
use Rattle.std.specs.Prelude.{ℕ, zero, suc, ◌+◌, Bool, List, [], ◌∷◌, if◌then◌else◌}

-- the first n elements that pass, in their order
abbrev pub first_of : {X : Type 0} → (X → Bool) → ℕ → List X → List X
first_of p n [] = []
first_of p zero (x ∷ xs) = []
first_of p (suc n) (x ∷ xs) = if p x then (x ∷ first_of p n xs) else first_of p (suc n) xs

-- the list without the first n elements that pass, the others in their order
abbrev pub without_first : {X : Type 0} → (X → Bool) → ℕ → List X → List X
without_first p n [] = []
without_first p zero (x ∷ xs) = x ∷ xs
without_first p (suc n) (x ∷ xs) = if p x then without_first p n xs else (x ∷ without_first p (suc n) xs)

-- how many elements pass
abbrev pub tally : {X : Type 0} → (X → Bool) → List X → ℕ
tally p [] = 0
tally p (x ∷ xs) = (if p x then 1 else 0) + tally p xs
