-- Waiters, and which of them a call picks. Source: FreeBSD _umtx_op(2) (UMTX_OP_WAIT, UMTX_OP_WAKE); bit sets and requeues
-- are those of Linux's futex(2), and that a waiter stands for one place of a wait is this project's own.
use Rattle.std.specs.Prelude.{◌≡◌, ℕ, ◌+◌, ◌*◌, ◌/◌, ◌<◌, ◌≤◌, Bool, false, ◌&&◌, not, ◌==◌, bit_and, List, map}
use Rattle.std.specs.List.{All, filter, list_any}
use Rattle.umtx_queue.specs.declared.waiter.Waiter.{Waiter}
use Rattle.umtx_queue.specs.Lists.{tally}

-- the number of a slot and place: both are bytes, so that no two pairs have one number (this project's own)
abbrev pub who_at : ℕ → ℕ → ℕ
who_at slot place = slot * 256 + place

-- the slot of such a number
abbrev pub slot_of : ℕ → ℕ
slot_of i = i / 256

-- the slot and place of a waiter, as one number
abbrev pub who : Waiter → ℕ
who w = who_at w.slot w.place

-- a waiter of this slot and place
abbrev pub is_of : ℕ → Waiter → Bool
is_of i w = who w == i

-- whether this slot and place waits
abbrev pub is_queued : ℕ → List Waiter → Bool
is_queued i ws = list_any (is_of i) ws

-- a waiter of this slot
abbrev pub is_of_slot : ℕ → Waiter → Bool
is_of_slot slot w = w.slot == slot

-- the waiters of all other slots
abbrev pub without_slot : ℕ → List Waiter → List Waiter
without_slot slot ws = filter (λ w. not (is_of_slot slot w)) ws

-- a waiter with this key
abbrev pub has_key : ℕ → Waiter → Bool
has_key key w = w.key == key

-- a waiter with this key and one of these bits
abbrev pub matches : ℕ → ℕ → Waiter → Bool
matches key bits w = has_key key w && not (bit_and w.bits bits == 0)

-- a waiter with this key that isn't one of many places
abbrev pub is_plain_at : ℕ → Waiter → Bool
is_plain_at key w = has_key key w && not w.many

-- a waiter that gets this key
abbrev pub with_key : ℕ → Waiter → Waiter
with_key key w = record w { key = key }

-- waiters that get it
abbrev pub rekeyed : ℕ → List Waiter → List Waiter
rekeyed key ws = map (with_key key) ws

-- what a waiter is: 128 slots, 32 places, and place 0 where it isn't one of many
pub record IsWaiter (w : Waiter) : Type 0 where
  pub slot : w.slot < 128
  pub place : w.place < 32
  pub plain : w.many ≡ false → w.place ≡ 0

-- what a chain holds: waiters, each slot and place once
pub record AreWaiters (ws : List Waiter) : Type 0 where
  pub each : All IsWaiter ws
  pub once : (i : ℕ) → tally (is_of i) ws ≤ 1
