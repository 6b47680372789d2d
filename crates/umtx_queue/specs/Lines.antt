-- A chain's line: its waiters in order of queueing, and its notes; and what each call makes of it. Source: FreeBSD _umtx_op(2)
-- (UMTX_OP_WAIT, UMTX_OP_WAKE) and Linux's futex(2) (FUTEX_WAKE_BITSET, FUTEX_REQUEUE).
use Rattle.std.specs.Prelude.{ℕ, Bool, if◌then◌else◌, List, [], ◌++◌, Option, Some, option_map}
use Rattle.std.specs.FinMap as map
use Rattle.umtx_queue.specs.declared.waiter.Waiter.{Waiter}
use Rattle.umtx_queue.specs.declared.waiter.Note.{Note}
use Rattle.umtx_queue.specs.declared.waiter.Note.TheVariants as notes
use Rattle.umtx_queue.specs.declared.waiter.Looked.{Looked}
use Rattle.umtx_queue.specs.declared.waiter.Looked.TheVariants as looked
use Rattle.umtx_queue.specs.Lists.{first_of, without_first}
use Rattle.umtx_queue.specs.Waiters.{is_queued, matches, is_plain_at, rekeyed, without_slot}
use Rattle.umtx_queue.specs.Notes.{Notes, noted, without_notes, without_notes_of, told}

pub record Line : Type 0 where
  pub waiters : List Waiter
  pub notes : Notes

-- nobody waits, and nothing is noted
abbrev pub empty_line : Line
empty_line = record { waiters = []; notes = map.empty }

-- what a slot and place finds: that it waits, or else its note
abbrev pub finds : Line → ℕ → Option Looked
finds line i = if is_queued i line.waiters then Some looked.Queued else option_map told (map.get line.notes i)

-- the first n waiters that pass leave with this note
abbrev pub left : Line → (Waiter → Bool) → ℕ → Note → Line
left line p n note = record {
  waiters = without_first p n line.waiters;
  notes = noted note (first_of p n line.waiters) line.notes;
}

-- signal: the first n with this key and one of these bits are woken
abbrev pub signalled : Line → ℕ → ℕ → ℕ → Line
signalled line key n bits = left line (matches key bits) n notes.Woken

-- requeue_out: the first n of plain waits with this key are moved to another
abbrev pub taken : Line → ℕ → ℕ → ℕ → Line
taken line key n to = left line (is_plain_at key) n (notes.Moved to)

-- the carry that requeue_out fills: those that it moves, with their new key
abbrev pub carried : Line → ℕ → ℕ → ℕ → List Waiter
carried line key n to = rekeyed to (first_of (is_plain_at key) n line.waiters)

-- requeue_in, and insert for one waiter: they wait behind the others, and have no note
abbrev pub joined : Line → List Waiter → Line
joined line ws = record {
  waiters = line.waiters ++ ws;
  notes = without_notes ws line.notes;
}

-- remove: all that there is of a slot
abbrev pub removed : Line → ℕ → Line
removed line slot = record {
  waiters = without_slot slot line.waiters;
  notes = without_notes_of slot line.notes;
}
