-- The second line: the slots that were woken as a set, and that each slot stands once.
use Rattle.std.proofs.Common.{◌≡◌, ℕ, ◌+◌, ◌-◌, ◌*◌, ◌<◌, ◌≤◌, Bool, true, false, not, ◌&&◌, ◌||◌, List, [], ◌∷◌, ◌++◌, length, map, take, drop, slice_index_or, Option, Some, None, refl, sym, ap, ◌∙◌, arith, cond, length-append}
use Rattle.std.specs.Prelude.{◌==◌}
use Rattle.std.specs.Ordering.{nat_cmp, eq_by_cmp}
use Rattle.std.specs.Cmp.{nat_cmp_total}
use Rattle.std.specs.FinSet as set
use Rattle.std.specs.FinSet.{same_set, nat_cmp-IsAntisymmetric}
use Rattle.std.specs.List.{AllByRecursion, filter, list_any}
use Rattle.std.proofs.lemmas.Bool.Decides.{nat_tests}
use Rattle.std.proofs.lemmas.Grind.{common_steps}
use Rattle.std.proofs.lemmas.List.Elements.{All-from_recursion}
use Rattle.umtx_queue.specs.declared.pi.PiWaiter.{PiWaiter}
use Rattle.umtx_queue.specs.declared.waiter.Looked.{Looked}
use Rattle.umtx_queue.specs.declared.waiter.Looked.TheVariants as looked
use Rattle.umtx_queue.specs.Lists.{first_of, without_first, tally}
use Rattle.umtx_queue.specs.PiLines.{PiLine, pi_is_of, pi_is_queued, pi_has_key, pi_first_of, pi_woken, pi_finds, pi_joined, pi_handed, pi_removed, ArePiWaiters}
use Rattle.umtx_queue.specs.Kept.{IsSlot}
use Rattle.umtx_queue.proofs.NoteMaps.{tied, same_number}
use Rattle.umtx_queue.proofs.Tallies.{tally-append, tally-map, tally_split, tally-filter, tally_none, Each-append, Each-map, grouped}
use Rattle.umtx_queue.proofs.LineFacts.{same_length}

-- ---- the set

any_tied : (q : ℕ) (xs : List ℕ) → list_any (eq_by_cmp nat_cmp q) xs ≡ list_any (λ x. x == q) xs
any_tied q [] = refl
any_tied q (x ∷ xs) = ap (λ b. b || list_any (eq_by_cmp nat_cmp q) xs) (tied q x) ∙ ap (λ b. (x == q) || b) (any_tied q xs)

pub has_woken : (xs : List ℕ) (q : ℕ) → set.contains (set.from_list {R = nat_cmp} xs) q ≡ list_any (λ x. x == q) xs
has_woken xs q = set.contains-from_list nat_cmp_total xs q ∙ any_tied q xs

any_more : (q slot : ℕ) (xs : List ℕ) → list_any (λ x. x == q) (xs ++ slot ∷ []) ≡ ((slot == q) || list_any (λ x. x == q) xs)
any_more q slot [] = refl
any_more q slot (x ∷ xs) = ap (λ b. (x == q) || b) (any_more q slot xs) ∙ swapped (x == q) (slot == q) (list_any (λ y. y == q) xs)
  where
    swapped : (a b c : Bool) → (a || (b || c)) ≡ (b || (a || c))
    swapped true true c = refl
    swapped true false c = refl
    swapped false b c = refl

any_less : (q slot : ℕ) (xs : List ℕ) → list_any (λ x. x == q) (filter (λ x. not (x == slot)) xs) ≡ (not (slot == q) && list_any (λ x. x == q) xs)
any_less q slot [] = none (not (slot == q))
  where
    none : (b : Bool) → false ≡ (b && false)
    none true = refl
    none false = refl
any_less q slot (x ∷ xs) = let a = any_less q slot xs in let b = same_number x slot in grind (arith, nat_tests, common_steps)

pub woken_more : (xs : List ℕ) (slot : ℕ) → set.from_list {R = nat_cmp} (xs ++ slot ∷ []) ≡ set.insert (set.from_list xs) slot
woken_more xs slot =
    same_set nat_cmp_total nat_cmp-IsAntisymmetric _ _ (λ q. has_woken (xs ++ slot ∷ []) q ∙ any_more q slot xs ∙ sym (set.contains-insert nat_cmp_total (set.from_list xs) slot q ∙ ap (λ b. b || set.contains (set.from_list {R = nat_cmp} xs) q) (tied q slot) ∙ ap (λ b. (slot == q) || b) (has_woken xs q)))

pub woken_less : (xs : List ℕ) (slot : ℕ) → set.from_list {R = nat_cmp} (filter (λ x. not (x == slot)) xs) ≡ set.remove (set.from_list xs) slot
woken_less xs slot =
    same_set nat_cmp_total nat_cmp-IsAntisymmetric _ _ (λ q. has_woken (filter (λ x. not (x == slot)) xs) q ∙ any_less q slot xs ∙ sym (set.contains-remove nat_cmp_total (set.from_list xs) slot q ∙ ap (λ b. not b && set.contains (set.from_list {R = nat_cmp} xs) q) (tied q slot) ∙ ap (λ b. not (slot == q) && b) (has_woken xs q)))

-- ---- each slot stands once

abbrev pub PiOnce : List PiWaiter → List ℕ → Type 0
PiOnce ws xs = (slot : ℕ) → tally (pi_is_of slot) ws + tally (λ x. x == slot) xs ≤ 1

abbrev pub HasSlot : PiWaiter → Type 0
HasSlot w = IsSlot w.slot

pub pi_fit : (ws : List PiWaiter) (xs : List ℕ) → AllByRecursion HasSlot ws → AllByRecursion IsSlot xs → PiOnce ws xs → length ws + length xs ≤ 128
pi_fit ws xs e f once =
    let slots = map (λ (w : PiWaiter). w.slot) ws in
    let each = Each-append IsSlot xs slots f (Each-map HasSlot IsSlot (λ (w : PiWaiter). w.slot) (λ w h. h) ws e) in
    let all : length (xs ++ slots) ≤ 128 * 1 = grouped (λ x. x) 128 1 (xs ++ slots) each (λ j. (let a = tally-append (λ x. x == j) xs slots in let b : tally (λ x. x == j) slots ≡ tally (pi_is_of j) ws = tally-map (λ (w : PiWaiter). w.slot) (λ x. x == j) ws in let o = once j in omega arith)) in
    let l = length-append xs slots in
    let m = same_length (λ (w : PiWaiter). w.slot) ws in
    omega arith

pub are_pi_waiters : (ws : List PiWaiter) (xs : List ℕ) → AllByRecursion HasSlot ws → PiOnce ws xs → ArePiWaiters ws
are_pi_waiters ws xs e once = record { each = All-from_recursion HasSlot ws e; once = λ slot. (let o = once slot in omega arith) }

-- one more that isn't queued
pub pi_joins : (ws : List PiWaiter) (xs : List ℕ) (w : PiWaiter) → PiOnce ws xs → pi_is_queued w.slot ws ≡ false → PiOnce (ws ++ w ∷ []) (filter (λ x. not (x == w.slot)) xs)
pi_joins ws xs w once apart slot = by (pi_is_of slot w) refl
  where
    gone : (s : ℕ) (ys : List ℕ) → tally (λ x. x == s) (filter (λ x. not (x == s)) ys) ≡ 0
    gone s [] = refl
    gone s (y ∷ ys) = let a = gone s ys in grind (arith, common_steps)

    by : (b : Bool) → pi_is_of slot w ≡ b → tally (pi_is_of slot) (ws ++ w ∷ []) + tally (λ x. x == slot) (filter (λ x. not (x == w.slot)) xs) ≤ 1
    by true h =
        let s = same_number w.slot slot h in
        let z : tally (pi_is_of slot) ws ≡ 0 = ap (λ k. tally (pi_is_of k) ws) (sym s) ∙ tally_none (pi_is_of w.slot) ws apart in
        let g : tally (λ x. x == slot) (filter (λ x. not (x == w.slot)) xs) ≡ 0 = ap (λ k. tally (λ x. x == slot) (filter (λ x. not (x == k)) xs)) s ∙ gone slot xs in
        let b = tally-append (pi_is_of slot) ws (w ∷ []) in
        let one : ◌≡◌ {A = ℕ} (cond (pi_is_of slot w) 1 0) 1 = ap (λ b. cond b 1 0) h in
        omega arith
    by false h =
        let b = tally-append (pi_is_of slot) ws (w ∷ []) in
        let c = tally-filter (λ x. x == slot) (λ x. not (x == w.slot)) xs in
        let none : ◌≡◌ {A = ℕ} (cond (pi_is_of slot w) 1 0) 0 = ap (λ b. cond b 1 0) h in
        let o = once slot in
        omega arith

-- the first with a key leaves, and was woken
pub pi_hands : (p : PiWaiter → Bool) (ws : List PiWaiter) (xs : List ℕ) (w : PiWaiter) → PiOnce ws xs → first_of p 1 ws ≡ w ∷ [] → PiOnce (without_first p 1 ws) (xs ++ w.slot ∷ [])
pi_hands p ws xs w once first slot =
    let a = tally_split p (pi_is_of slot) 1 ws in
    let b : tally (pi_is_of slot) (first_of p 1 ws) ≡ tally (pi_is_of slot) (w ∷ []) = ap (tally (pi_is_of slot)) first in
    let c = tally-append (λ x. x == slot) xs (w.slot ∷ []) in
    let o = once slot in
    omega arith

pub pi_removes : (slot : ℕ) (ws : List PiWaiter) (xs : List ℕ) → PiOnce ws xs → PiOnce (filter (λ w. not (pi_is_of slot w)) ws) (filter (λ x. not (x == slot)) xs)
pi_removes slot ws xs once s =
    let a = tally-filter (pi_is_of s) (λ w. not (pi_is_of slot w)) ws in
    let b = tally-filter (λ x. x == s) (λ x. not (x == slot)) xs in
    let o = once s in
    omega arith

-- ---- the value

abbrev pub pi_value_of : List PiWaiter → List ℕ → PiLine
pi_value_of ws xs = record { waiters = ws; woken = set.from_list xs }

pub pi_joined_value : (ws ws' : List PiWaiter) (xs xs' : List ℕ) (w : PiWaiter) → ws' ≡ ws ++ w ∷ [] → xs' ≡ filter (λ x. not (x == w.slot)) xs → pi_value_of ws' xs' ≡ pi_joined (pi_value_of ws xs) w
pi_joined_value ws ws' xs xs' w e f = ap (λ l. pi_value_of l xs') e ∙ ap (pi_value_of (ws ++ w ∷ [])) f ∙ ap (λ m. let l : PiLine = record { waiters = ws ++ w ∷ []; woken = m } in l) (woken_less xs w.slot)

pub pi_handed_value : (key : ℕ) (ws ws' : List PiWaiter) (xs xs' : List ℕ) (w : PiWaiter) → first_of (pi_has_key key) 1 ws ≡ w ∷ [] → ws' ≡ without_first (pi_has_key key) 1 ws → xs' ≡ xs ++ w.slot ∷ [] → pi_value_of ws' xs' ≡ pi_handed (pi_value_of ws xs) key
pi_handed_value key ws ws' xs xs' w first e f =
    ap (λ l. pi_value_of l xs') e ∙ ap (pi_value_of (without_first (pi_has_key key) 1 ws)) f
    ∙ ap (λ m. let l : PiLine = record { waiters = without_first (pi_has_key key) 1 ws; woken = m } in l) (woken_more xs w.slot ∙ sym (ap (λ l. pi_woken l (set.from_list xs)) first))

pub pi_removed_value : (slot : ℕ) (ws ws' : List PiWaiter) (xs xs' : List ℕ) → ws' ≡ filter (λ w. not (pi_is_of slot w)) ws → xs' ≡ filter (λ x. not (x == slot)) xs → pi_value_of ws' xs' ≡ pi_removed (pi_value_of ws xs) slot
pi_removed_value slot ws ws' xs xs' e f =
    ap (λ l. pi_value_of l xs') e ∙ ap (pi_value_of (filter (λ w. not (pi_is_of slot w)) ws)) f ∙ ap (λ m. let l : PiLine = record { waiters = filter (λ w. not (pi_is_of slot w)) ws; woken = m } in l) (woken_less xs slot)

-- what a slot finds
pub pi_finds_woken : (ws : List PiWaiter) (xs : List ℕ) (slot : ℕ) → pi_is_queued slot ws ≡ false → list_any (λ x. x == slot) xs ≡ true → Some looked.Woken ≡ pi_finds (pi_value_of ws xs) slot
pi_finds_woken ws xs slot h k = let e : set.contains (set.from_list {R = nat_cmp} xs) slot ≡ true = has_woken xs slot ∙ k in rw (h, e) refl

pub pi_finds_nothing : (ws : List PiWaiter) (xs : List ℕ) (slot : ℕ) → pi_is_queued slot ws ≡ false → list_any (λ x. x == slot) xs ≡ false → ◌≡◌ {A = Option Looked} None (pi_finds (pi_value_of ws xs) slot)
pi_finds_nothing ws xs slot h k = let e : set.contains (set.from_list {R = nat_cmp} xs) slot ≡ false = has_woken xs slot ∙ k in rw (h, e) refl

-- the first waiter has the key
whole_rest : (w : PiWaiter) (ws : List PiWaiter) → take (length (w ∷ ws) - 1) ws ≡ ws
whole_rest w ws = grind (arith, common_steps)

pub first_has_key : (key : ℕ) (ws : List PiWaiter) (d : PiWaiter) → 0 < length ws → pi_has_key key (slice_index_or ws 0 d) ≡ true → Some ((slice_index_or ws 0 d).tid, list_any (pi_has_key key) (take (length ws - 1) (drop 1 ws))) ≡ pi_first_of key ws
first_has_key key [] d h is = absurd (omega arith)
first_has_key key (w ∷ ws) d h is = rw is (ap (λ l. Some (w.tid, list_any (pi_has_key key) l)) (whole_rest w ws))
