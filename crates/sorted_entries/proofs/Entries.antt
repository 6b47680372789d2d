-- What a search among entries in order finds, and what an edit at that place does to the map that they make.
use Rattle.std.proofs.Common.{◌≡◌, ℕ, ◌+◌, ◌-◌, ◌<◌, ◌≤◌, length, get_or, set, Some, None, Result, Ok, Err, IfOk, IfErr, sym, ap, subst, arith, List, [], ◌∷◌, zero, suc, ◌≢◌, true, false, map, refl, ◌∙◌, eqb, cond, inl, inr, Option}
use Rattle.std.specs.List.Sorted.{IsSearchInRange, IsBinarySearchResult, IsNonDecreasingBy}
use Rattle.std.specs.Ordering.{nat_cmp, ordering_index, is_eq}
use Rattle.std.specs.Cmp.{nat_cmp_total}
use Rattle.std.specs.FinMap as finite
use Rattle.std.specs.FinMap.{FinMap, find, same_map, nat_cmp-IsAntisymmetric}
use Rattle.std.specs.List.{insert, remove}
use Rattle.std.proofs.lemmas.Bool.{cases_eq}
use Rattle.std.proofs.lemmas.Grind.{common_steps}
use Rattle.std.proofs.lemmas.List.Edits.{length-insert, get_or-insert_below, get_or-insert_at, get_or-insert_above, length-remove, get_or-remove_below, get_or-remove_above}
use Rattle.std.proofs.lemmas.Cmp.{ranked}
use Rattle.std.proofs.lemmas.Bool.Decides.{nat_tests}
use Rattle.sorted_entries.specs.Entries.{IsRising, IsAt, IsGapFor, entries_of, map_of}

abbrev found_at : ℕ → Result ℕ ℕ
found_at i = Ok i

abbrev gap_at : ℕ → Result ℕ ℕ
gap_at i = Err i

module _ {X : Type 0} (key : X → ℕ) (xs : List X) (rising : IsRising key xs) (k : ℕ) where
  -- the comparisons with k rise along the list, as a binary search asks
  comparisons_rise : IsNonDecreasingBy (λ x. ordering_index (nat_cmp (key x) k)) xs
  comparisons_rise i j d le in_range =
      let keys_rise : key (get_or xs i d) ≤ key (get_or xs j d) = grind (arith, rising i j d, λ (same : i ≡ j). ap (λ n. key (get_or xs n d)) same) in
      grind (arith, nat_tests)

  -- a binary search by key ends at the key, or at the gap for it
  pub found : (i : ℕ) → IsSearchInRange (found_at i) (length xs) → IsBinarySearchResult (λ x. nat_cmp (key x) k) xs (found_at i) → IsAt key xs k i
  found at in_range equal = record { in_range = in_range; has_key = λ d. ranked _ k _ (sym (equal d)) }

  pub absent : (i : ℕ) → IsSearchInRange (gap_at i) (length xs) → IsBinarySearchResult (λ x. nat_cmp (key x) k) xs (gap_at i) → IsGapFor key xs k i
  absent at in_range parted = record {
    in_range = in_range;
    smaller_before = λ j d lt. ranked _ k _ (sym ((parted comparisons_rise).0 j d (omega arith) lt));
    greater_after = λ j d le lt. ranked _ k _ (sym ((parted comparisons_rise).1 j d le lt));
  }

  pub if_found : (r : Result ℕ ℕ) → IsSearchInRange r (length xs) → IsBinarySearchResult (λ x. nat_cmp (key x) k) xs r → IfOk r (IsAt key xs k)
  if_found (Ok i) r s = found i r s
  if_found (Err i) r s = tt

  pub if_absent : (r : Result ℕ ℕ) → IsSearchInRange r (length xs) → IsBinarySearchResult (λ x. nat_cmp (key x) k) xs r → IfErr r (IsGapFor key xs k)
  if_absent (Ok i) r s = tt
  if_absent (Err i) r s = absent i r s

same_key : (k x : ℕ) → k ≡ x → is_eq (nat_cmp k x) ≡ true
same_key k x same = grind (arith, nat_tests)

other_key : (k x : ℕ) → k ≢ x → is_eq (nat_cmp k x) ≡ false
other_key k x other = grind (arith, nat_tests)

-- no element before place i has the key
abbrev NoneBefore : {X : Type 0} → (X → ℕ) → List X → ℕ → ℕ → Type 0
NoneBefore {X} key xs k i = (j : ℕ) (d : X) → j < i → key (get_or xs j d) ≢ k

module _ {X V : Type 0} (key : X → ℕ) (val : X → V) where
  tail_none : (x : X) (xs : List X) (k i : ℕ) → NoneBefore key (x ∷ xs) k (suc i) → NoneBefore key xs k i
  tail_none x xs k i none j d lt = none (suc j) d (omega arith)

  tail_at : (x : X) (xs : List X) (k i : ℕ) → IsAt key (x ∷ xs) k (suc i) → IsAt key xs k i
  tail_at x xs k i is_at = record { in_range = omega (arith, is_at.in_range); has_key = λ d. is_at.has_key d }

  pub find_none : (xs : List X) (k : ℕ) → NoneBefore key xs k (length xs) → find nat_cmp k (entries_of key val xs) ≡ None
  find_none [] k none = refl
  find_none (x ∷ xs) k none = rw (other_key k (key x) (λ e. none 0 x (omega arith) (sym e))) (find_none xs k (tail_none x xs k _ none))

  pub find_some : (xs : List X) (k i : ℕ) (d : X) → IsAt key xs k i → NoneBefore key xs k i → find nat_cmp k (entries_of key val xs) ≡ Some (val (get_or xs i d))
  find_some [] k i d is_at none = absurd (omega (arith, is_at.in_range))
  find_some (x ∷ xs) k zero d is_at none = rw (same_key k (key x) (sym (is_at.has_key d))) refl
  find_some (x ∷ xs) k (suc i) d is_at none = rw (other_key k (key x) (λ e. none 0 x (omega arith) (sym e))) (find_some xs k i d (tail_at x xs k i is_at) (tail_none x xs k i none))

  none_before : (xs : List X) (k i : ℕ) → IsRising key xs → IsAt key xs k i → NoneBefore key xs k i
  none_before xs k i rising is_at j d lt same = omega (arith, rising j i d lt is_at.in_range, is_at.has_key d)

  none_at_gap : (xs : List X) (k i : ℕ) → IsGapFor key xs k i → NoneBefore key xs k (length xs)
  none_at_gap xs k i gap j d lt same = grind (arith, gap.smaller_before j d, gap.greater_after j d)

  pub get_at : (xs : List X) (k i : ℕ) (d : X) → IsRising key xs → IsAt key xs k i → finite.get (map_of key val xs) k ≡ Some (val (get_or xs i d))
  get_at xs k i d rising is_at = finite.get-from_entries nat_cmp_total (entries_of key val xs) k ∙ find_some xs k i d is_at (none_before xs k i rising is_at)

  pub get_in_gap : (xs : List X) (k i : ℕ) → IsGapFor key xs k i → finite.get (map_of key val xs) k ≡ None
  get_in_gap xs k i gap = finite.get-from_entries nat_cmp_total (entries_of key val xs) k ∙ find_none xs k (none_at_gap xs k i gap)

-- a number ties with another exactly if they are the same
tied : (q k : ℕ) → is_eq (nat_cmp q k) ≡ eqb q k
tied q k = elim (cases_eq q k) [ inl same ↦ grind (arith, nat_tests) | inr other ↦ grind (arith, nat_tests) ]

module _ {X V : Type 0} (key : X → ℕ) (val : X → V) where
  -- the look-up by the plain test
  found_by : ℕ → List X → Option V
  found_by q xs = find nat_cmp q (entries_of key val xs)

  abbrev SetsAt : List X → List X → ℕ → V → Type 0
  SetsAt old new k v = (q : ℕ) → find nat_cmp q (entries_of key val new) ≡ cond (eqb q k) (Some v) (find nat_cmp q (entries_of key val old))

  find_set : (xs : List X) (k i : ℕ) (y : X) → key y ≡ k → IsAt key xs k i → NoneBefore key xs k i → SetsAt xs (set xs i y) k (val y)
  find_set [] k i y same is_at none q = absurd (omega (arith, is_at.in_range))
  find_set (x ∷ xs) k zero y same is_at none q = grind (arith, nat_tests, same, is_at.has_key x, tied q (key x), tied q (key y))
  find_set (x ∷ xs) k (suc i) y same is_at none q =
      grind (arith, nat_tests, tied q (key x), none 0 x (omega arith), find_set xs k i y same (tail_at key val x xs k i is_at) (tail_none key val x xs k i none) q)

  find_insert : (xs : List X) (k i : ℕ) (y : X) → key y ≡ k → NoneBefore key xs k i → SetsAt xs (insert xs i y) k (val y)
  find_insert xs k zero y same none q = grind (arith, nat_tests, same, tied q (key y))
  find_insert [] k (suc i) y same none q = grind (arith, nat_tests, same, tied q (key y))
  find_insert (x ∷ xs) k (suc i) y same none q = grind (arith, nat_tests, tied q (key x), none 0 x (omega arith), find_insert xs k i y same (tail_none key val x xs k i none) q)

  find_remove : (xs : List X) (k i : ℕ) → IsRising key xs → IsAt key xs k i → (q : ℕ) → find nat_cmp q (entries_of key val (remove xs i)) ≡ cond (eqb q k) None (find nat_cmp q (entries_of key val xs))
  find_remove [] k i rising is_at q = absurd (omega (arith, is_at.in_range))
  find_remove (x ∷ xs) k zero rising is_at q =
      let gone : find nat_cmp k (entries_of key val xs) ≡ None = find_none key val xs k (λ j d lt same. omega (arith, rising 0 (suc j) d (omega arith) (omega arith), is_at.has_key d)) in
      elim (cases_eq q k) [
        | inl same ↦ grind (arith, nat_tests, same, gone)
        | inr other ↦ grind (arith, nat_tests, is_at.has_key x, tied q (key x))
      ]
  find_remove (x ∷ xs) k (suc i) rising is_at q =
      grind (arith, nat_tests, tied q (key x), (λ (same : key x ≡ k). none_before key val (x ∷ xs) k (suc i) rising is_at 0 x (omega arith) same), find_remove xs k i (λ a b d lt le. rising (suc a) (suc b) d (omega arith) (omega arith)) (tail_at key val x xs k i is_at) q)

  same_as_insert : (xs ys : List X) (k : ℕ) (v : V) → SetsAt xs ys k v → map_of key val ys ≡ finite.insert (map_of key val xs) k v
  same_as_insert xs ys k v sets = same_map nat_cmp_total nat_cmp-IsAntisymmetric _ _ (λ q.
      finite.get-from_entries nat_cmp_total (entries_of key val ys) q ∙ sets q
      ∙ sym (finite.get-insert nat_cmp_total (map_of key val xs) k v q ∙ ap (λ b. cond b (Some v) (finite.get (map_of key val xs) q)) (tied q k) ∙ ap (cond (eqb q k) (Some v)) (finite.get-from_entries nat_cmp_total (entries_of key val xs) q)))

  -- an element over that of its key sets the key's value
  pub map_of-set : (xs : List X) (k i : ℕ) (y : X) → IsRising key xs → IsAt key xs k i → key y ≡ k → map_of key val (set xs i y) ≡ finite.insert (map_of key val xs) k (val y)
  map_of-set xs k i y rising is_at same = same_as_insert xs _ k _ (find_set xs k i y same is_at (none_before key val xs k i rising is_at))

  -- an element in the gap for its key adds the key
  pub map_of-insert : (xs : List X) (k i : ℕ) (y : X) → IsGapFor key xs k i → key y ≡ k → map_of key val (insert xs i y) ≡ finite.insert (map_of key val xs) k (val y)
  map_of-insert xs k i y gap same = same_as_insert xs _ k _ (find_insert xs k i y same (λ j d lt is. omega (arith, gap.smaller_before j d lt)))

  -- without its element a key is not there
  pub map_of-remove : (xs : List X) (k i : ℕ) → IsRising key xs → IsAt key xs k i → map_of key val (remove xs i) ≡ finite.remove (map_of key val xs) k
  map_of-remove xs k i rising is_at = same_map nat_cmp_total nat_cmp-IsAntisymmetric _ _ (λ q.
      finite.get-from_entries nat_cmp_total (entries_of key val (remove xs i)) q ∙ find_remove xs k i rising is_at q
      ∙ sym (finite.get-remove nat_cmp_total (map_of key val xs) k q ∙ ap (λ b. cond b None (finite.get (map_of key val xs) q)) (tied q k) ∙ ap (cond (eqb q k) None) (finite.get-from_entries nat_cmp_total (entries_of key val xs) q)))

module _ {X : Type 0} (key : X → ℕ) where
  -- the order stays where an element's key stays
  pub rising-set : (xs : List X) (k i : ℕ) (y : X) → IsRising key xs → IsAt key xs k i → key y ≡ k → IsRising key (set xs i y)
  rising-set xs k i y rising is_at same a b d lt in_range = grind (arith, common_steps, rising a b d, rising a i d, rising i b d, is_at.in_range, is_at.has_key d, same)

  pub rising-insert : (xs : List X) (k i : ℕ) (y : X) → IsRising key xs → IsGapFor key xs k i → key y ≡ k → IsRising key (insert xs i y)
  rising-insert xs k at y rising gap same i j d lt in_range =
      let new = insert xs at y in
      let length_new = length-insert xs at y gap.in_range in
      let below : (i : ℕ) → i < at → key (get_or new i d) ≡ key (get_or xs i d) = λ i h. ap key (get_or-insert_below xs at y d i h gap.in_range) in
      let here : (i : ℕ) → i ≡ at → key (get_or new i d) ≡ k = λ i h. rw h (ap key (get_or-insert_at xs at y d gap.in_range) ∙ same) in
      let above : (i : ℕ) → at < i → key (get_or new i d) ≡ key (get_or xs (i - 1) d) = λ i h. subst (λ q. key (get_or new q d) ≡ key (get_or xs (i - 1) d)) {x = i - 1 + 1} (omega arith) (ap key (get_or-insert_above xs at y d (i - 1) (omega arith) gap.in_range)) in
      grind (arith, below i, here i, above i, below j, here j, above j, rising i j d, rising i (j - 1) d, rising (i - 1) (j - 1) d, gap.smaller_before i d, gap.greater_after (j - 1) d)

  pub rising-remove : (xs : List X) (k i : ℕ) → IsRising key xs → IsAt key xs k i → IsRising key (remove xs i)
  rising-remove xs k at rising is_at i j d lt in_range =
      let length_new = length-remove xs at is_at.in_range in
      let below : (i : ℕ) → i < at → get_or (remove xs at) i d ≡ get_or xs i d = λ i h. get_or-remove_below xs at d i h is_at.in_range in
      let above : (i : ℕ) → at ≤ i → get_or (remove xs at) i d ≡ get_or xs (i + 1) d = λ i h. get_or-remove_above xs at d i h is_at.in_range in
      grind (arith, below i, above i, below j, above j, rising i j d, rising i (j + 1) d, rising (i + 1) (j + 1) d)

-- to remove a key that is not there changes nothing
pub remove_absent : {V : Type 0} (m : FinMap nat_cmp V) (k : ℕ) → finite.get m k ≡ None → finite.remove m k ≡ m
remove_absent m k none = same_map nat_cmp_total nat_cmp-IsAntisymmetric _ _ (λ q. finite.get-remove nat_cmp_total m k q ∙ ap (λ b. cond b None (finite.get m q)) (tied q k) ∙ elim (cases_eq q k) [ inl same ↦ grind (arith, nat_tests, none, same) | inr other ↦ grind (arith, nat_tests) ])

-- what was set is there
pub get_inserted : {V : Type 0} (m : FinMap nat_cmp V) (k : ℕ) (v : V) → finite.get (finite.insert m k v) k ≡ Some v
get_inserted m k v = finite.get-insert nat_cmp_total m k v k ∙ ap (λ b. cond b (Some v) (finite.get m k)) (same_key k k refl)

-- a value set twice is the one set last
pub insert_twice : {V : Type 0} (m : FinMap nat_cmp V) (k : ℕ) (v w : V) → finite.insert (finite.insert m k v) k w ≡ finite.insert m k w
insert_twice m k v w = same_map nat_cmp_total nat_cmp-IsAntisymmetric _ _ (λ q.
    finite.get-insert nat_cmp_total (finite.insert m k v) k w q
    ∙ ap (cond (is_eq (nat_cmp q k)) (Some w)) (finite.get-insert nat_cmp_total m k v q)
    ∙ elim (cases_eq q k) [ inl same ↦ grind (arith, nat_tests, finite.get-insert nat_cmp_total m k w q, tied q k, same) | inr other ↦ grind (arith, nat_tests, finite.get-insert nat_cmp_total m k w q, tied q k, other) ])

module _ {X V : Type 0} (key : X → ℕ) (old new : X → V) where
  -- the element at place i has the value v now, and every other one the value that it had
  abbrev pub IsRevalued : List X → ℕ → V → Type 0
  IsRevalued [] i v = ⊥
  IsRevalued (x ∷ xs) zero v = (new x ≡ v) × (entries_of key new xs ≡ entries_of key old xs)
  IsRevalued (x ∷ xs) (suc i) v = (new x ≡ old x) × IsRevalued xs i v

  find_revalued : (xs : List X) (k i : ℕ) (v : V) → IsAt key xs k i → NoneBefore key xs k i → IsRevalued xs i v → (q : ℕ) → find nat_cmp q (entries_of key new xs) ≡ cond (eqb q k) (Some v) (find nat_cmp q (entries_of key old xs))
  find_revalued [] k i v is_at none revalued q = absurd revalued
  find_revalued (x ∷ xs) k zero v is_at none revalued q =
      rw (revalued.0, revalued.1) (grind (arith, nat_tests, is_at.has_key x, tied q (key x)))
  find_revalued (x ∷ xs) k (suc i) v is_at none revalued q =
      rw revalued.0 (grind (arith, nat_tests, tied q (key x), none 0 x (omega arith), find_revalued xs k i v (tail_at key old x xs k i is_at) (tail_none key old x xs k i none) revalued.1 q))

  -- the map after one element's value has changed
  pub map_of-revalued : (xs : List X) (k i : ℕ) (v : V) → IsRising key xs → IsAt key xs k i → IsRevalued xs i v → map_of key new xs ≡ finite.insert (map_of key old xs) k v
  map_of-revalued xs k i v rising is_at revalued = same_map nat_cmp_total nat_cmp-IsAntisymmetric _ _ (λ q.
      finite.get-from_entries nat_cmp_total (entries_of key new xs) q ∙ find_revalued xs k i v is_at (none_before key old xs k i rising is_at) revalued q
      ∙ sym (finite.get-insert nat_cmp_total (map_of key old xs) k v q ∙ ap (λ b. cond b (Some v) (finite.get (map_of key old xs) q)) (tied q k) ∙ ap (cond (eqb q k) (Some v)) (finite.get-from_entries nat_cmp_total (entries_of key old xs) q)))
