-- Chains and Notes: the chains, what each thread is to them, and the chains as they will be once each busy thread has done what it
-- owes. Source: that a thread makes a chain busy (umtxq_busy of FreeBSD's kernel) and owes it something is this project's own.
use Rattle.std.specs.Prelude.{◌≡◌, ℕ, ◌%◌, Bool, true, false, List, Option, Some, None}
use Rattle.std.specs.List.{All}
use Rattle.umtx_queue.specs.declared.waiter.Waiter.{Waiter}
use Rattle.umtx_queue.specs.Waiters.{slot_of}
use Rattle.umtx_queue.specs.PiLines.{pi_first_of}
use Rattle.umtx_queue.specs.Chains.{ChainState}
use Rattle.places.specs.Places.{chain}
use Rattle.chains_stand.specs.Chains.{lines_of, pis_of}
use Rattle.chains_stand.specs.Notes.{NotesLead, Sleeper}
use Rattle.chains_stand.specs.Locks.{LocksLead, PiSleeper}
use Rattle.chains_stand.specs.Owed.{EachAt, Op, Work, run}
use Rattle.chains_stand.specs.Queues.{PiQueueStands, QueueStands}
use Rattle.lx_machine.specs.declared.threads.LxWaiter.{LxWaiter}
use Rattle.lx_machine.specs.declared.threads.PiWaiter.{PiWaiter as LxPiWaiter}

-- what a chain told of an address as it was made busy: the tid of the first that waits for the lock there, and whether another follows
pub record Told : Type 0 where
  pub at : ℕ
  pub first : Option (ℕ × Bool)

-- what a thread is to the chains: what it owes, in order; its carry; which chains it has made busy; its places that wait, by their
-- numbers; the lock for which it waits; what it was told
pub record Owing : Type 0 where
  pub ops : List Op
  pub carry : List Waiter
  pub marks : ℕ → Bool
  pub sleeps : ℕ → Option Sleeper
  pub lock : Option PiSleeper
  pub told : Option Told

-- the chains by their numbers, and the threads by their slots
pub record Board : Type 0 where
  pub owes : ℕ → Owing
  pub chains : ℕ → ChainState

-- the place in the number of a slot and place
abbrev pub place_of : ℕ → ℕ
place_of i = i % 256

-- the places that wait, of all slots, and the waits for locks
abbrev pub sleepers_of : Board → ℕ → Option Sleeper
sleepers_of B i = (B.owes (slot_of i)).sleeps (place_of i)

abbrev pub pi_sleepers_of : Board → ℕ → Option PiSleeper
pi_sleepers_of B s = (B.owes s).lock

-- the chains without their marks
abbrev pub bare : Board → ℕ → ChainState
bare B c = record (B.chains c) { marked = None }

-- what a thread begins with
abbrev pub work_of : Board → Owing → Work
work_of B o = record { chains = bare B; carry = o.carry; answer = 0 }

-- a chain once the slot that has made it busy has done what it owes
abbrev pub settle : Board → ℕ → Option ℕ → ChainState
settle B c None = bare B c
settle B c (Some s) = (run (B.owes s).ops (work_of B (B.owes s))).chains c

abbrev pub settled : Board → ℕ → ChainState
settled B c = settle B c (B.chains c).marked

-- how many waiters a thread has still to count
abbrev pub to_count : Board → ℕ → ℕ
to_count B s = (run (B.owes s).ops (work_of B (B.owes s))).answer

-- a chain has a slot's mark exactly where this slot has made it busy, and what a slot owes it owes to chains that it has made busy
pub record Marks (B : Board) : Type 0 where
  pub own : (s c : ℕ) → (B.owes s).marks c ≡ true → (B.chains c).marked ≡ Some s
  pub only : (s c : ℕ) → (B.chains c).marked ≡ Some s → (B.owes s).marks c ≡ true
  pub within : (s : ℕ) → EachAt (λ c. (B.owes s).marks c ≡ true) (B.owes s).ops

-- what a slot was told is still so: it has made the chain busy
pub record StillTold (B : Board) (s : ℕ) (told : Told) : Type 0 where
  pub busy : (B.owes s).marks (chain told.at) ≡ true
  pub first : pi_first_of told.at (B.chains (chain told.at)).pi.waiters ≡ told.first

-- Chains and Notes, of the machine alone; no carry has a place of a wait in many places
pub record ChainsSound (B : Board) : Type 0 where
  pub marks : Marks B
  pub notes : NotesLead (sleepers_of B) (lines_of (settled B))
  pub locks : LocksLead (pi_sleepers_of B) (pis_of (settled B))
  pub plain : (s : ℕ) → All (λ w. w.many ≡ false) (B.owes s).carry
  pub told : (s : ℕ) (told : Told) → (B.owes s).told ≡ Some told → StillTold B s told

-- Chains, against the Linux machine's queues, where each slot has this tid
pub record ChainsStand (tids : ℕ → ℕ) (B : Board) (waiting : List LxWaiter) (for_locks : List LxPiWaiter) : Type 0 where
  pub queue : QueueStands tids (lines_of (settled B)) waiting
  pub locks : PiQueueStands (pis_of (settled B)) for_locks
