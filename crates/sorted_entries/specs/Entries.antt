-- Entries in the order of their keys, the place of a key among them, and the map that they make.
-- This project's own words, over std's finite maps.
use Rattle.std.specs.Prelude.{◌≡◌, ℕ, ◌<◌, ◌≤◌, List, length, map, slice_index_or}
use Rattle.std.specs.Ordering.{nat_cmp}
use Rattle.std.specs.FinMap as finite
use Rattle.std.specs.FinMap.{FinMap}

-- the keys rise, so none stands twice
abbrev pub IsRising : {X : Type 0} → (X → ℕ) → List X → Type 0
IsRising {X} key xs = (i j : ℕ) (d : X) → i < j → j < length xs → key (slice_index_or xs i d) < key (slice_index_or xs j d)

-- the element at place i has the key
pub record IsAt {X : Type 0} (key : X → ℕ) (xs : List X) (k i : ℕ) : Type 0 where
  pub in_range : i < length xs
  pub has_key : (d : X) → key (slice_index_or xs i d) ≡ k

-- the key would stand at place i: smaller keys before it, greater keys from it on
pub record IsGapFor {X : Type 0} (key : X → ℕ) (xs : List X) (k i : ℕ) : Type 0 where
  pub in_range : i ≤ length xs
  pub smaller_before : (j : ℕ) (d : X) → j < i → key (slice_index_or xs j d) < k
  pub greater_after : (j : ℕ) (d : X) → i ≤ j → j < length xs → k < key (slice_index_or xs j d)

-- the keys of the elements with their values
abbrev pub entries_of : {X V : Type 0} → (X → ℕ) → (X → V) → List X → List (ℕ × V)
entries_of key value xs = map (λ x. (key x, value x)) xs

-- the map from the keys of the elements to their values
abbrev pub map_of : {X V : Type 0} → (X → ℕ) → (X → V) → List X → FinMap nat_cmp V
map_of key value xs = finite.from_entries (entries_of key value xs)
