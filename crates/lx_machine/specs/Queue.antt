-- The futex queue: which waiters an operation picks, and what it leaves of the queue. A waiter stands for one place of a wait: a
-- plain wait has the place 0, and futex_waitv many places. Source: futex(2), futex_waitv(2). That a requeue passes over places of
-- many is this project's own.
use Rattle.std.proofs.Math.Bool.{not}
use Rattle.std.specs.List.{filter, list_any}
use Rattle.std.specs.Prelude.{Bool, List, [], bit_and, if◌then◌else◌, map, suc, zero, ℕ, ◌&&◌, ◌++◌, ◌==◌, ◌∷◌, ◌≤◌}
use Rattle.lx_machine.specs.declared.calls.LxCall.{LxCall}
use Rattle.lx_machine.specs.declared.threads.LxWaiter.{LxWaiter}

-- ---- steps

-- the queue and the call after a step
pub record QueueOutcome : Type 0 where
  pub queue : List LxWaiter
  pub call : LxCall

abbrev pub queue_outcome : List LxWaiter → LxCall → QueueOutcome
queue_outcome ws c = record { queue = ws; call = c }

-- the most places of one wait
abbrev pub most_places : ℕ
most_places = 32

-- a waiter at this address with one of these bits
abbrev pub matches : ℕ → ℕ → LxWaiter → Bool
matches at bits w = (w.address == at) && not (bit_and w.bits bits == 0)

-- a plain wait at this address
abbrev pub is_plain_at : ℕ → LxWaiter → Bool
is_plain_at at w = (w.address == at) && not w.many

-- a waiter of this thread
abbrev pub is_thread : ℕ → LxWaiter → Bool
is_thread tid w = w.tid == tid

-- some waiter is of this thread
abbrev pub is_queued : ℕ → List LxWaiter → Bool
is_queued tid ws = list_any (is_thread tid) ws

-- this place of this thread's wait
abbrev pub is_place : ℕ → ℕ → LxWaiter → Bool
is_place tid place w = (w.tid == tid) && (w.place == place)

-- this place of this thread's wait is queued
abbrev pub is_place_queued : ℕ → ℕ → List LxWaiter → Bool
is_place_queued tid place ws = list_any (is_place tid place) ws

-- the waiters without those of this thread
abbrev pub without_waiters_of : ℕ → List LxWaiter → List LxWaiter
without_waiters_of tid ws = filter (λ w. not (is_thread tid w)) ws

-- the first n that pass a test, in their order
abbrev pub first_of : {X : Type 0} → ℕ → (X → Bool) → List X → List X
first_of zero test xs = []
first_of (suc n) test [] = []
first_of (suc n) test (x ∷ xs) = if test x then (x ∷ first_of n test xs) else first_of (suc n) test xs

-- the list without the first n that pass a test, the others in their order
abbrev pub without_first : {X : Type 0} → ℕ → (X → Bool) → List X → List X
without_first zero test xs = xs
without_first (suc n) test [] = []
without_first (suc n) test (x ∷ xs) = if test x then without_first n test xs else (x ∷ without_first (suc n) test xs)

-- a waiter that has moved to this address
abbrev pub moved_to : ℕ → LxWaiter → LxWaiter
moved_to to w = record w { address = to }

-- Release: what is left
abbrev pub released : ℕ → ℕ → ℕ → List LxWaiter → List LxWaiter
released at most bits ws = without_first most (matches at bits) ws

-- Release: the waiters that leave
abbrev pub leaving : ℕ → ℕ → ℕ → List LxWaiter → List LxWaiter
leaving at most bits ws = first_of most (matches at bits) ws

-- all bits: which waiters a wake without a bit set releases
abbrev pub all_bits : ℕ
all_bits = 0xffffffff

-- the first plain waits at an address, which a requeue moves
abbrev pub moving : ℕ → ℕ → List LxWaiter → List LxWaiter
moving from most ws = first_of most (is_plain_at from) ws

-- the first plain waits at one address move to another, and to the end of the queue in their order
abbrev pub waiters_moved : ℕ → ℕ → ℕ → List LxWaiter → List LxWaiter
waiters_moved from to most ws = without_first most (is_plain_at from) ws ++ map (moved_to to) (moving from most ws)

-- Requeue: some waiters are released, and of those that are left the first ones move
abbrev pub after_requeue : ℕ → ℕ → ℕ → ℕ → List LxWaiter → List LxWaiter
after_requeue from to wakes moves ws = waiters_moved from to moves (released from wakes all_bits ws)

-- ---- room

-- no more waiters than can be, and room for as many, also for those that move
pub record HaveRoom (waiting capacity moving_capacity : ℕ) : Type 0 where
  pub held : waiting ≤ 4096
  pub room : 4096 ≤ capacity
  pub moving_room : 4096 ≤ moving_capacity
