-- A line's fields after a call, and the value that they stand for.
use Rattle.std.proofs.Common.{◌≡◌, ℕ, ◌+◌, ◌≤◌, Bool, false, List, [], ◌∷◌, ◌++◌, length, map, take, drop, refl, sym, ap, ◌∙◌, arith, subst, length-append}
use Rattle.std.specs.Prelude.{option_map}
use Rattle.std.specs.List.{AllByRecursion}
use Rattle.std.proofs.lemmas.List.Elements.{All-from_recursion}
use Rattle.umtx_queue.specs.declared.waiter.Waiter.{Waiter}
use Rattle.umtx_queue.specs.declared.waiter.Note.{Note}
use Rattle.umtx_queue.specs.declared.waiter.Noted.{Noted}
use Rattle.umtx_queue.specs.Lists.{first_of, without_first, tally}
use Rattle.umtx_queue.specs.Waiters.{is_of, is_queued, without_slot, AreWaiters, IsWaiter}
use Rattle.umtx_queue.specs.Notes.{told}
use Rattle.umtx_queue.specs.Lines.{Line, finds, left, joined, removed}
use Rattle.umtx_queue.specs.Kept.{noted_as, note_at, notes_of, notes_apart, notes_elsewhere, IsNoted}
use Rattle.umtx_queue.proofs.NoteMaps.{get_note, noted_is, apart_is, elsewhere_is}
use Rattle.umtx_queue.proofs.Tallies.{Each-first_of, Each-without_first, Each-filter, Each-append}
use Rattle.umtx_queue.proofs.LineFacts.{Once, OnceWith, noted_each, left_unnoted, waiters_fit}

take_front : {X : Type 0} (xs ys : List X) → take (length xs) (xs ++ ys) ≡ xs
take_front [] ys = refl
take_front (x ∷ xs) ys = ap (λ l. x ∷ l) (take_front xs ys)

-- what a vector has once a slice of all its elements was written and it was cut
pub truncated : {X : Type 0} (k n : ℕ) (new old : List X) → length new ≡ n → take k (take n (new ++ drop (length new) old)) ≡ take k new
truncated k n new old e = ap (take k) (ap (λ m. take m (new ++ drop (length new) old)) (sym e) ∙ take_front new (drop (length new) old))

pub waiters_once : (ws : List Waiter) (ns : List Noted) → Once ws ns → (i : ℕ) → tally (is_of i) ws ≤ 1
waiters_once ws ns once i = let o = once i in omega arith

pub are_waiters : (ws : List Waiter) (ns : List Noted) → AllByRecursion IsWaiter ws → Once ws ns → AreWaiters ws
are_waiters ws ns e once = record { each = All-from_recursion IsWaiter ws e; once = waiters_once ws ns once }

abbrev pub value_of : List Waiter → List Noted → Line
value_of ws ns = record { waiters = ws; notes = notes_of ns }

pub finds_note : (ws : List Waiter) (ns : List Noted) (i : ℕ) → is_queued i ws ≡ false → option_map told (note_at i ns) ≡ finds (record { waiters = ws; notes = notes_of ns }) i
finds_note ws ns i h = rw h (ap (option_map told) (sym (get_note ns i)))

-- ---- who leaves with a note

module _ (p : Waiter → Bool) (n : ℕ) (note : Note) (ws ws' : List Waiter) (ns ns' : List Noted) (e : ws' ≡ without_first p n ws) (f : ns' ≡ ns ++ map (noted_as note) (first_of p n ws)) where
  pub left_each : AllByRecursion IsWaiter ws → AllByRecursion IsWaiter ws'
  left_each h = subst (AllByRecursion IsWaiter) (sym e) (Each-without_first IsWaiter p n ws h)

  pub left_notes_each : AllByRecursion IsWaiter ws → AllByRecursion IsNoted ns → AllByRecursion IsNoted ns'
  left_notes_each h k = subst (AllByRecursion IsNoted) (sym f) (Each-append IsNoted ns _ k (noted_each note (first_of p n ws) (Each-first_of IsWaiter p n ws h)))

  pub left_value : Once ws ns → value_of ws' ns' ≡ left (value_of ws ns) p n note
  left_value once = ap (λ l. value_of l ns') e ∙ ap (value_of (without_first p n ws)) f ∙ ap (λ m. let l : Line = record { waiters = without_first p n ws; notes = m } in l) (noted_is note ns (first_of p n ws) (left_unnoted p n ws ns once))

-- ---- who joins, and has no note any more

module _ (ws ws' more : List Waiter) (ns ns' : List Noted) (e : ws' ≡ ws ++ more) (f : ns' ≡ notes_apart more ns) where
  pub joined_each : AllByRecursion IsWaiter ws → AllByRecursion IsWaiter more → AllByRecursion IsWaiter ws'
  joined_each h k = subst (AllByRecursion IsWaiter) (sym e) (Each-append IsWaiter ws more h k)

  pub joined_notes_each : AllByRecursion IsNoted ns → AllByRecursion IsNoted ns'
  joined_notes_each h = subst (AllByRecursion IsNoted) (sym f) (Each-filter IsNoted _ ns h)

  pub joined_value : value_of ws' ns' ≡ joined (value_of ws ns) more
  joined_value = ap (λ l. value_of l ns') e ∙ ap (value_of (ws ++ more)) f ∙ ap (λ m. let l : Line = record { waiters = ws ++ more; notes = m } in l) (apart_is more ns)

-- there is room for who joins
pub joins_fit : (ws more : List Waiter) → AllByRecursion IsWaiter ws → AllByRecursion IsWaiter more → OnceWith ws more → length ws + length more ≤ 4096
joins_fit ws more h k once = let a = waiters_fit (ws ++ more) (Each-append IsWaiter ws more h k) once in let l = length-append ws more in omega arith

-- ---- a slot that is removed

module _ (slot : ℕ) (ws ws' : List Waiter) (ns ns' : List Noted) (e : ws' ≡ without_slot slot ws) (f : ns' ≡ notes_elsewhere slot ns) where
  pub removed_each : AllByRecursion IsWaiter ws → AllByRecursion IsWaiter ws'
  removed_each h = subst (AllByRecursion IsWaiter) (sym e) (Each-filter IsWaiter _ ws h)

  pub removed_notes_each : AllByRecursion IsNoted ns → AllByRecursion IsNoted ns'
  removed_notes_each h = subst (AllByRecursion IsNoted) (sym f) (Each-filter IsNoted _ ns h)

  pub removed_value : AllByRecursion IsNoted ns → value_of ws' ns' ≡ removed (value_of ws ns) slot
  removed_value h = ap (λ l. value_of l ns') e ∙ ap (value_of (without_slot slot ws)) f ∙ ap (λ m. let l : Line = record { waiters = without_slot slot ws; notes = m } in l) (elsewhere_is slot ns h)
