-- A chain's second line: waiters for locks that name their owner. Source: FreeBSD _umtx_op(2) (UMTX_OP_MUTEX_LOCK and UMTX_OP_MUTEX_UNLOCK
-- of a UMUTEX_PRIO_INHERIT mutex); the order of waiting and the hand-over are those of Linux's futex(2) (FUTEX_LOCK_PI, FUTEX_UNLOCK_PI).
use Rattle.std.specs.Prelude.{ℕ, ◌<◌, ◌≤◌, Bool, not, ◌==◌, if◌then◌else◌, List, [], ◌∷◌, ◌++◌, Option, Some, None}
use Rattle.std.specs.Ordering.{nat_cmp}
use Rattle.std.specs.FinSet as set
use Rattle.std.specs.FinSet.{FinSet}
use Rattle.std.specs.List.{All, filter, list_any}
use Rattle.umtx_queue.specs.declared.pi.PiWaiter.{PiWaiter}
use Rattle.umtx_queue.specs.declared.waiter.Looked.{Looked}
use Rattle.umtx_queue.specs.declared.waiter.Looked.TheVariants as looked
use Rattle.umtx_queue.specs.Lists.{first_of, without_first, tally}

-- the waiters in order of waiting, and the slots that were woken: each was handed its lock
pub record PiLine : Type 0 where
  pub waiters : List PiWaiter
  pub woken : FinSet nat_cmp

-- nobody waits, and nobody was woken
abbrev pub empty_pi_line : PiLine
empty_pi_line = record { waiters = []; woken = set.empty }

-- a waiter of this slot
abbrev pub pi_is_of : ℕ → PiWaiter → Bool
pi_is_of slot w = w.slot == slot

-- what a chain's second line holds: waiters of the 128 slots, each slot once
pub record ArePiWaiters (ws : List PiWaiter) : Type 0 where
  pub each : All (λ w. w.slot < 128) ws
  pub once : (slot : ℕ) → tally (pi_is_of slot) ws ≤ 1

-- whether this slot waits
abbrev pub pi_is_queued : ℕ → List PiWaiter → Bool
pi_is_queued slot ws = list_any (pi_is_of slot) ws

-- a waiter with this key
abbrev pub pi_has_key : ℕ → PiWaiter → Bool
pi_has_key key w = w.key == key

-- the tid of the first waiter with this key, and whether another with it follows
abbrev pub pi_first_of : ℕ → List PiWaiter → Option (ℕ × Bool)
pi_first_of key [] = None
pi_first_of key (w ∷ ws) = if pi_has_key key w then Some (w.tid, list_any (pi_has_key key) ws) else pi_first_of key ws

-- what a slot finds: that it waits, or else that it was woken
abbrev pub pi_finds : PiLine → ℕ → Option Looked
pi_finds line slot = if pi_is_queued slot line.waiters then Some looked.Queued else if set.contains line.woken slot then Some looked.Woken else None

-- pi_insert: it waits behind the others, and was not woken
abbrev pub pi_joined : PiLine → PiWaiter → PiLine
pi_joined line w = record {
  waiters = line.waiters ++ w ∷ [];
  woken = set.remove line.woken w.slot;
}

-- the slots that were woken, and those of these waiters
abbrev pub pi_woken : List PiWaiter → FinSet nat_cmp → FinSet nat_cmp
pi_woken [] slots = slots
pi_woken (w ∷ ws) slots = set.insert (pi_woken ws slots) w.slot

-- pi_hand: the first waiter with this key leaves, and was woken
abbrev pub pi_handed : PiLine → ℕ → PiLine
pi_handed line key = record {
  waiters = without_first (pi_has_key key) 1 line.waiters;
  woken = pi_woken (first_of (pi_has_key key) 1 line.waiters) line.woken;
}

-- pi_remove: all that there is of a slot
abbrev pub pi_removed : PiLine → ℕ → PiLine
pi_removed line slot = record {
  waiters = filter (λ w. not (pi_is_of slot w)) line.waiters;
  woken = set.remove line.woken slot;
}
