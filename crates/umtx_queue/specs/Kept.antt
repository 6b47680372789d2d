-- What the fields of a chain's lines say, and what they keep.
use Rattle.std.specs.Prelude.{ℕ, ◌+◌, ◌<◌, ◌≤◌, Bool, not, ◌==◌, if◌then◌else◌, List, [], ◌∷◌, map, Option, Some, None, vec_capacity}
use Rattle.std.specs.FinMap as finite
use Rattle.std.specs.FinSet as set
use Rattle.std.specs.List.{AllByRecursion, filter}
use Rattle.umtx_queue.specs.declared.waiter.Waiter.{Waiter}
use Rattle.umtx_queue.specs.declared.waiter.Note.{Note}
use Rattle.umtx_queue.specs.declared.waiter.Noted.{Noted}
use Rattle.umtx_queue.specs.declared.line.Line.TheInside as line
use Rattle.umtx_queue.specs.declared.pi.PiLine.TheInside as pi
use Rattle.umtx_queue.specs.Lists.{tally}
use Rattle.umtx_queue.specs.Waiters.{IsWaiter, is_of, is_queued, who_at}
use Rattle.umtx_queue.specs.Notes.{Notes}
use Rattle.umtx_queue.specs.Lines.{Line}
use Rattle.umtx_queue.specs.PiLines.{PiLine, pi_is_of}

-- a note of this slot and place
abbrev pub is_note_of : ℕ → Noted → Bool
is_note_of i n = who_at n.slot n.place == i

-- a waiter's slot and place with a note
abbrev pub noted_as : Note → Waiter → Noted
noted_as note w = record { slot = w.slot; place = w.place; note = note }

-- a note of one of the 128 slots and 32 places
pub record IsNoted (n : Noted) : Type 0 where
  pub slot : n.slot < 128
  pub place : n.place < 32

-- the notes as a map
abbrev pub notes_of : List Noted → Notes
notes_of ns = finite.from_entries (map (λ (n : Noted). (who_at n.slot n.place, n.note)) ns)

-- the first note of this slot and place
abbrev pub note_at : ℕ → List Noted → Option Note
note_at i [] = None
note_at i (n ∷ ns) = if is_note_of i n then Some n.note else note_at i ns

-- the notes of no slot and place among these waiters
abbrev pub notes_apart : List Waiter → List Noted → List Noted
notes_apart ws ns = filter (λ (n : Noted). not (is_queued (who_at n.slot n.place) ws)) ns

-- the notes of all other slots
abbrev pub notes_elsewhere : ℕ → List Noted → List Noted
notes_elsewhere slot ns = filter (λ (n : Noted). not (n.slot == slot)) ns

abbrev pub line_of : line.Inside → Line
line_of s = record { waiters = s.waiters.items; notes = notes_of s.notes.items }

-- each slot and place waits once or has one note, and there is room for all of them
pub record IsLine (s : line.Inside) : Type 0 where
  pub waiters : AllByRecursion IsWaiter s.waiters.items
  pub notes : AllByRecursion IsNoted s.notes.items
  pub once : (i : ℕ) → tally (is_of i) s.waiters.items + tally (is_note_of i) s.notes.items ≤ 1
  pub room : 4096 ≤ vec_capacity s.waiters
  pub note_room : 4096 ≤ vec_capacity s.notes

-- one of the 128 slots
abbrev pub IsSlot : ℕ → Type 0
IsSlot slot = slot < 128

abbrev pub pi_line_of : pi.Inside → PiLine
pi_line_of s = record { waiters = s.waiters.items; woken = set.from_list s.woken.items }

-- each slot waits once or was woken, and there is room for all of them
pub record IsPiLine (s : pi.Inside) : Type 0 where
  pub waiters : AllByRecursion (λ w. IsSlot w.slot) s.waiters.items
  pub woken : AllByRecursion IsSlot s.woken.items
  pub once : (slot : ℕ) → tally (pi_is_of slot) s.waiters.items + tally (λ x. x == slot) s.woken.items ≤ 1
  pub room : 128 ≤ vec_capacity s.waiters
  pub woken_room : 128 ≤ vec_capacity s.woken
