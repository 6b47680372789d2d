-- Chains that owe nothing, and the Linux machine's queues: at each address a queue is the waiters of the chain with that key.
-- Source: Linux's futex(2); that this machine has one queue is this project's own.
use Rattle.std.specs.Prelude.{◌≡◌, ℕ, Bool, List, map, ◌==◌}
use Rattle.std.specs.List.{filter}
use Rattle.umtx_queue.specs.declared.waiter.Waiter.{Waiter}
use Rattle.umtx_queue.specs.declared.pi.PiWaiter.{PiWaiter}
use Rattle.umtx_queue.specs.Waiters.{has_key}
use Rattle.umtx_queue.specs.Lines.{Line}
use Rattle.umtx_queue.specs.PiLines.{PiLine, pi_has_key}
use Rattle.lx_machine.specs.declared.threads.LxWaiter.{LxWaiter}
use Rattle.lx_machine.specs.declared.threads.PiWaiter.{PiWaiter as LxPiWaiter}
use Rattle.lx_machine.specs.PiQueue.{is_pi_at}
use Rattle.places.specs.Places.{chain}

-- a waiter at this address
abbrev pub has_address : ℕ → LxWaiter → Bool
has_address a w = w.address == a

-- the Linux machine's waiter, where each slot has this tid
abbrev pub linux_waiter : (ℕ → ℕ) → Waiter → LxWaiter
linux_waiter tids w = record { tid = tids w.slot; place = w.place; many = w.many; address = w.key; bits = w.bits }

-- the queue at each address is the waiters of its chain with that key, in their order
pub record QueueStands (tids : ℕ → ℕ) (V : ℕ → Line) (queue : List LxWaiter) : Type 0 where
  pub at : (a : ℕ) → filter (has_address a) queue ≡ map (linux_waiter tids) (filter (has_key a) (V (chain a)).waiters)

-- its waiter for a lock
abbrev pub linux_pi_waiter : PiWaiter → LxPiWaiter
linux_pi_waiter w = record { tid = w.tid; address = w.key }

-- the same of the waits for locks
pub record PiQueueStands (V : ℕ → PiLine) (queue : List LxPiWaiter) : Type 0 where
  pub at : (a : ℕ) → filter (is_pi_at a) queue ≡ map linux_pi_waiter (filter (pi_has_key a) (V (chain a)).waiters)
