-- Waits for locks that name their owner, in second lines that owe nothing. Source: FreeBSD _umtx_op(2) (a UMUTEX_PRIO_INHERIT mutex),
-- Linux's futex(2) (FUTEX_LOCK_PI).
use Rattle.std.specs.Prelude.{◌≡◌, ℕ, true, Option, Some}
use Rattle.std.specs.List.{All, list_any}
use Rattle.umtx_queue.specs.declared.pi.PiWaiter.{PiWaiter}
use Rattle.umtx_queue.specs.PiLines.{PiLine, pi_has_key, pi_finds, ArePiWaiters}
use Rattle.places.specs.Places.{chain}
use Rattle.chains_stand.specs.Notes.{IsEnd}

-- a wait for a lock: the address of its word, and the thread's tid
pub record PiSleeper : Type 0 where
  pub at : ℕ
  pub tid : ℕ

-- for what a waiter of a second line stands
abbrev pub sleeper_of : PiWaiter → PiSleeper
sleeper_of w = record { at = w.key; tid = w.tid }

-- the slot of a waiter waits for just this
abbrev pub FitsPiSleeper : (ℕ → Option PiSleeper) → PiWaiter → Type 0
FitsPiSleeper sleepers w = sleepers w.slot ≡ Some (sleeper_of w)

-- each second line has waiters of its own addresses, each slot once, and of slots that wait for just this; each slot that waits is
-- queued where it looks, or was woken there
pub record LocksLead (sleepers : ℕ → Option PiSleeper) (V : ℕ → PiLine) : Type 0 where
  pub keys : (c a : ℕ) → list_any (pi_has_key a) (V c).waiters ≡ true → chain a ≡ c
  pub waiters : (c : ℕ) → ArePiWaiters (V c).waiters
  pub fit : (c : ℕ) → All (FitsPiSleeper sleepers) (V c).waiters
  pub waits : (s : ℕ) (h : PiSleeper) → sleepers s ≡ Some h → IsEnd (pi_finds (V (chain h.at)) s)
