-- Locks that name their owner: which thread comes to wait for one, and how it leaves. Source: futex(2), FUTEX_LOCK_PI and
-- FUTEX_UNLOCK_PI; get_robust_list(2).
use Rattle.std.specs.List.{list_any}
use Rattle.std.specs.Prelude.{Bool, List, Some, false, true, ℕ, ◌&&◌, ◌≡◌}
use Rattle.lx_machine.specs.PiQueue.{first_pi, is_pi_at, is_pi_thread}
use Rattle.lx_machine.specs.Shape.{stage_of}
use Rattle.lx_machine.specs.Step.{LStep}
use Rattle.lx_machine.specs.declared.calls.Stage.{Stage}
use Rattle.lx_machine.specs.declared.calls.Stage.TheVariants as stage
use Rattle.lx_machine.specs.declared.label.Label.{Label}
use Rattle.lx_machine.specs.declared.label.Label.TheVariants as label
use Rattle.lx_machine.specs.declared.state.LinuxState.{LinuxState}
use Rattle.lx_machine.specs.declared.threads.PiWaiter.{PiWaiter}
use Rattle.lx_laws.specs.Callers.{IsInCall}

-- the thread with this tid waits for the lock at this address
abbrev pub awaits : ℕ → ℕ → List PiWaiter → Bool
awaits tid at ws = list_any (λ w. is_pi_thread tid w && is_pi_at at w) ws

-- ---- into the queue

-- what comes next is that the lock at this address is asked for
abbrev pub AsksForLock : Stage → ℕ → Type 0
AsksForLock (stage.PiLock l) at = (l.at ≡ at) × (l.tries ≡ false)
AsksForLock _ at = ⊥

-- this step is the PiLock of this lock, of the thread with this tid
abbrev pub IsPiLockOf : LinuxState → Label → ℕ → ℕ → Type 0
IsPiLockOf L (label.PiLock s) tid at = IsInCall L s (λ t c. (t.tid ≡ tid) × AsksForLock (stage_of c) at)
IsPiLockOf L _ tid at = ⊥

-- a thread comes to wait for a lock by its own PiLock of it alone
abbrev pub OnlyPiLockWaits : Type 0
OnlyPiLockWaits =
    (L next : LinuxState) (l : Label) (tid at : ℕ) → LStep L l ≡ Some next → awaits tid at L.pi_queue ≡ false → awaits tid at next.pi_queue ≡ true →
    IsPiLockOf L l tid at

-- ---- out of the queue

-- the thread with this tid is the first that waits for the lock at this address
abbrev pub IsFirst : LinuxState → ℕ → ℕ → Type 0
IsFirst L tid at = (w : PiWaiter) × (first_pi at L.pi_queue ≡ Some w) × (w.tid ≡ tid)

-- what comes next gives the lock at this address to the first that waits for it: its owner gives it back, or dies
abbrev pub GivesLock : Stage → ℕ → Type 0
GivesLock (stage.PiUnlock there) at = there ≡ at
GivesLock (stage.Mark m) at = (m.at ≡ at) × (m.inherits ≡ true)
GivesLock _ at = ⊥

-- how the thread with this tid waits for the lock at this address no more: the lock is given to it, as the first that waits for it,
-- or its own wait ends by its deadline or by a signal
abbrev pub LeavesLock : LinuxState → Label → ℕ → ℕ → Type 0
LeavesLock L (label.PiUnlock s) tid at = IsFirst L tid at × IsInCall L s (λ t c. GivesLock (stage_of c) at)
LeavesLock L (label.Mark s) tid at = IsFirst L tid at × IsInCall L s (λ t c. GivesLock (stage_of c) at)
LeavesLock L (label.Expire s) tid at = IsInCall L s (λ t c. (t.tid ≡ tid) × (stage_of c ≡ stage.PiWait))
LeavesLock L (label.Interrupt s list sig) tid at = IsInCall L s (λ t c. (t.tid ≡ tid) × (stage_of c ≡ stage.PiWait))
LeavesLock L _ tid at = ⊥

-- a thread that waits for a lock waits for it until one of these steps: so a lock is given by one step, to one thread
abbrev pub OnlyTheGivenLeave : Type 0
OnlyTheGivenLeave =
    (L next : LinuxState) (l : Label) (tid at : ℕ) → LStep L l ≡ Some next → awaits tid at L.pi_queue ≡ true → awaits tid at next.pi_queue ≡ false →
    LeavesLock L l tid at
