-- What the definitions of this crate say together, for those who reason about chains with them.
use Rattle.std.specs.Prelude.{◌≡◌, ℕ, ◌<◌, Bool, false, not, ◌==◌, if◌then◌else◌, List, [], ◌∷◌, length, take, drop, is_some, Some, None}
use Rattle.std.specs.List.{filter, list_any}
use Rattle.umtx_queue.specs.declared.waiter.Waiter.{Waiter}
use Rattle.umtx_queue.specs.declared.waiter.Note.{Note}
use Rattle.umtx_queue.specs.declared.waiter.Looked.TheVariants as looked
use Rattle.umtx_queue.specs.declared.pi.PiWaiter.{PiWaiter}
use Rattle.umtx_queue.specs.Lists.{first_of, without_first, tally}
use Rattle.umtx_queue.specs.Waiters.{who, slot_of, is_queued, AreWaiters, IsWaiter}
use Rattle.umtx_queue.specs.Notes.{told}
use Rattle.umtx_queue.specs.Lines.{Line, finds, left, carried, joined, removed}
use Rattle.umtx_queue.specs.Carries.{IsCarry, AreApart}
use Rattle.umtx_queue.specs.PiLines.{PiLine, pi_is_queued, pi_has_key, pi_first_of, pi_finds, pi_joined, pi_handed, pi_removed, ArePiWaiters}

-- the first n that pass and the rest, of a list that is split by the test: the rest has the other ones that pass, in their order,
-- and all that don't
pub record InPlainWords (p : Waiter → Bool) (n : ℕ) (ws : List Waiter) : Type 0 where
  pub first : first_of p n ws ≡ take n (filter p ws)
  pub passing : filter p (without_first p n ws) ≡ drop n (filter p ws)
  pub failing : filter (λ w. not (p w)) (without_first p n ws) ≡ filter (λ w. not (p w)) ws
  pub count : tally p ws ≡ length (filter p ws)

abbrev pub FirstsInPlainWords : Type 0
FirstsInPlainWords = (p : Waiter → Bool) (n : ℕ) (ws : List Waiter) → InPlainWords p n ws

-- what a line of waiters is after each call, and that the conditions of insert and requeue_in are what that asks
pub record StaysALine (line : Line) : Type 0 where
  pub left : (p : Waiter → Bool) (n : ℕ) (note : Note) → AreWaiters (left line p n note).waiters
  pub carried : (key n to : ℕ) → IsCarry (carried line key n to)
  pub inserted : (w : Waiter) → IsWaiter w → is_queued (who w) line.waiters ≡ false → AreWaiters (joined line (w ∷ [])).waiters
  pub insert_may : (w : Waiter) → AreWaiters (joined line (w ∷ [])).waiters → IsWaiter w × (is_queued (who w) line.waiters ≡ false)
  pub requeued : (carry : List Waiter) → IsCarry carry → AreApart carry line.waiters → AreWaiters (joined line carry).waiters
  pub requeue_may : (carry : List Waiter) → AreWaiters (joined line carry).waiters → AreApart carry line.waiters
  pub removed : (slot : ℕ) → AreWaiters (removed line slot).waiters

abbrev pub LinesStayLines : Type 0
LinesStayLines = (line : Line) → AreWaiters line.waiters → StaysALine line

-- what each slot and place finds after each call
pub record FindsAfter (line : Line) (i : ℕ) : Type 0 where
  pub left : (p : Waiter → Bool) (n : ℕ) (note : Note) → finds (left line p n note) i ≡ (if is_queued i (first_of p n line.waiters) then Some (told note) else finds line i)
  pub joined : (ws : List Waiter) → finds (joined line ws) i ≡ (if is_queued i ws then Some looked.Queued else finds line i)
  pub removed : (slot : ℕ) → finds (removed line slot) i ≡ (if slot_of i == slot then None else finds line i)

abbrev pub FindsAfterEachCall : Type 0
FindsAfterEachCall = (line : Line) (i : ℕ) → AreWaiters line.waiters → FindsAfter line i

-- the same of the second line
pub record StaysAPiLine (line : PiLine) : Type 0 where
  pub joined : (w : PiWaiter) → w.slot < 128 → pi_is_queued w.slot line.waiters ≡ false → ArePiWaiters (pi_joined line w).waiters
  pub insert_may : (w : PiWaiter) → ArePiWaiters (pi_joined line w).waiters → (w.slot < 128) × (pi_is_queued w.slot line.waiters ≡ false)
  pub handed : (key : ℕ) → ArePiWaiters (pi_handed line key).waiters
  pub removed : (slot : ℕ) → ArePiWaiters (pi_removed line slot).waiters

abbrev pub PiLinesStayPiLines : Type 0
PiLinesStayPiLines = (line : PiLine) → ArePiWaiters line.waiters → StaysAPiLine line

pub record PiFindsAfter (line : PiLine) (slot : ℕ) : Type 0 where
  pub joined : (w : PiWaiter) → pi_finds (pi_joined line w) slot ≡ (if w.slot == slot then Some looked.Queued else pi_finds line slot)
  pub handed : (key : ℕ) → pi_finds (pi_handed line key) slot ≡ (if pi_is_queued slot (first_of (pi_has_key key) 1 line.waiters) then Some looked.Woken else pi_finds line slot)
  pub removed : (other : ℕ) → pi_finds (pi_removed line other) slot ≡ (if other == slot then None else pi_finds line slot)

abbrev pub PiFindsAfterEachCall : Type 0
PiFindsAfterEachCall = (line : PiLine) (slot : ℕ) → ArePiWaiters line.waiters → PiFindsAfter line slot

-- whom pi_first tells of is whom pi_hand wakes: there is one exactly where pi_first tells of one, with its tid, and another is left
-- exactly where it says so
pub record HandsToFirst (key : ℕ) (ws : List PiWaiter) (tid : ℕ) (more : Bool) : Type 0 where
  pub w : PiWaiter
  pub first : first_of (pi_has_key key) 1 ws ≡ w ∷ []
  pub its_tid : w.tid ≡ tid
  pub others : list_any (pi_has_key key) (without_first (pi_has_key key) 1 ws) ≡ more

pub record TellsOfFirst (key : ℕ) (ws : List PiWaiter) : Type 0 where
  pub there : is_some (pi_first_of key ws) ≡ list_any (pi_has_key key) ws
  pub hands : (tid : ℕ) (more : Bool) → pi_first_of key ws ≡ Some (tid, more) → HandsToFirst key ws tid more

abbrev pub PiFirstIsHanded : Type 0
PiFirstIsHanded = (key : ℕ) (ws : List PiWaiter) → TellsOfFirst key ws
