-- The queue of locks that name their owner: which waiter stands first at a lock, and what is left of the queue. The waiters stand in
-- order of queueing. Source: futex(2) (FUTEX_LOCK_PI, FUTEX_UNLOCK_PI).
use Rattle.std.proofs.Math.Bool.{not}
use Rattle.std.specs.List.{filter, list_any}
use Rattle.std.specs.Prelude.{Bool, List, Option, find, ℕ, ◌==◌}
use Rattle.lx_machine.specs.Queue.{without_first}
use Rattle.lx_machine.specs.declared.threads.PiWaiter.{PiWaiter}

-- a waiter for the lock at this address
abbrev pub is_pi_at : ℕ → PiWaiter → Bool
is_pi_at at w = w.address == at

-- a waiter of this thread
abbrev pub is_pi_thread : ℕ → PiWaiter → Bool
is_pi_thread tid w = w.tid == tid

-- some waiter is of this thread
abbrev pub is_pi_queued : ℕ → List PiWaiter → Bool
is_pi_queued tid ws = list_any (is_pi_thread tid) ws

-- some waiter is for the lock at this address
abbrev pub has_pi_at : ℕ → List PiWaiter → Bool
has_pi_at at ws = list_any (is_pi_at at) ws

-- the first waiter for the lock at this address
abbrev pub first_pi : ℕ → List PiWaiter → Option PiWaiter
first_pi at ws = find (is_pi_at at) ws

-- the waiters without the first for the lock at this address
abbrev pub without_first_pi : ℕ → List PiWaiter → List PiWaiter
without_first_pi at ws = without_first 1 (is_pi_at at) ws

-- the waiters without those of this thread
abbrev pub without_pi_of : ℕ → List PiWaiter → List PiWaiter
without_pi_of tid ws = filter (λ w. not (is_pi_thread tid w)) ws
