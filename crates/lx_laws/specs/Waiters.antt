-- Futex waits: what comes into the queue, which waits have been released, and how they go on. There are three kinds: a plain wait,
-- a wait in many places, and a wait for a lock that names its owner. Source: futex(2), FUTEX_WAIT, FUTEX_WAKE, FUTEX_LOCK_PI and
-- FUTEX_UNLOCK_PI; futex_waitv(2).
use Rattle.std.specs.Prelude.{IsSome, None, Some, false, true, ℕ, ◌<◌, ◌≡◌, ◌⊎◌}
use Rattle.linux_abi.specs.LinuxErrno.{answer_of}
use Rattle.linux_abi.specs.declared.errno.LinuxErrno.{LinuxErrno}
use Rattle.lx_machine.specs.PiQueue.{is_pi_queued}
use Rattle.lx_machine.specs.Queue.{is_place_queued, is_queued}
use Rattle.lx_machine.specs.Shape.{stage_of}
use Rattle.lx_machine.specs.Step.{LStep}
use Rattle.lx_machine.specs.declared.calls.LxCall.{LxCall}
use Rattle.lx_machine.specs.declared.calls.Stage.{Stage}
use Rattle.lx_machine.specs.declared.calls.Stage.TheVariants as stage
use Rattle.lx_machine.specs.declared.label.Label.{Label}
use Rattle.lx_machine.specs.declared.label.Label.TheVariants as label
use Rattle.lx_machine.specs.declared.state.LinuxState.{LinuxState}
use Rattle.lx_machine.specs.declared.threads.LxThread.{LxThread}
use Rattle.lx_laws.specs.Callers.{IsInCall}

-- ---- into the queue

-- what comes next is that this place queues
abbrev pub QueuesPlace : Stage → ℕ → Type 0
QueuesPlace (stage.Queue w) place = w.place ≡ place
QueuesPlace _ place = ⊥

-- this step is the Queue of this place, of the thread with this tid
abbrev pub IsQueueOf : LinuxState → Label → ℕ → ℕ → Type 0
IsQueueOf L (label.Queue s) tid place = IsInCall L s (λ t c. (t.tid ≡ tid) × QueuesPlace (stage_of c) place)
IsQueueOf L _ tid place = ⊥

-- a place of a thread's wait that doesn't stand in the queue comes into it by its own Queue alone: once it has been released,
-- nothing else puts it back
abbrev pub OnlyQueueQueues : Type 0
OnlyQueueQueues =
    (L next : LinuxState) (l : Label) (tid place : ℕ) → LStep L l ≡ Some next → is_place_queued tid place L.queue ≡ false →
    is_place_queued tid place next.queue ≡ true → IsQueueOf L l tid place

-- a thread that doesn't stand in the queue comes into it by its own Queue alone
abbrev pub OnlyItsOwnQueues : Type 0
OnlyItsOwnQueues =
    (L next : LinuxState) (l : Label) (tid : ℕ) → LStep L l ≡ Some next → is_queued tid L.queue ≡ false → is_queued tid next.queue ≡ true →
    (place : ℕ) × IsQueueOf L l tid place

-- ---- released waits

-- a place of the thread's wait was released: it has queued, and stands no more in the queue
abbrev pub IsReleasedPlace : LinuxState → LxThread → LxCall → ℕ → Type 0
IsReleasedPlace L t c place = (place < c.queued) × (is_place_queued t.tid place L.queue ≡ false)

-- a wait at this stage was released: a plain wait whose thread stands no more in the queue, a wait in many places of which one was
-- released, and a wait for a lock whose thread waits no more for any
abbrev pub IsReleasedAt : Stage → LinuxState → LxThread → LxCall → Type 0
IsReleasedAt stage.Wait L t c = (c.waits ≡ true) × (is_queued t.tid L.queue ≡ false)
IsReleasedAt stage.WaitMany L t c = (place : ℕ) × IsReleasedPlace L t c place
IsReleasedAt stage.PiWait L t c = (c.waits ≡ true) × (is_pi_queued t.tid L.pi_queue ≡ false)
IsReleasedAt _ L t c = ⊥

-- a place of a wait in many was refused
abbrev pub IsRefusedAt : Stage → LxCall → Type 0
IsRefusedAt stage.WaitMany c = (e : LinuxErrno) × (c.refusal ≡ Some e)
IsRefusedAt _ c = ⊥

-- the thread in slot s was released from its wait
abbrev pub IsReleased : LinuxState → ℕ → Type 0
IsReleased L s = IsInCall L s (λ t c. IsReleasedAt (stage_of c) L t c)

-- or a place of its wait was refused
abbrev pub IsReleasedOrRefused : LinuxState → ℕ → Type 0
IsReleasedOrRefused L s = IsInCall L s (λ t c. IsReleasedAt (stage_of c) L t c ⊎ IsRefusedAt (stage_of c) c)

-- ---- Resume

-- a thread that resumes was released, or a place of its wait was refused
abbrev pub OnlyTheReleasedResume : Type 0
OnlyTheReleasedResume = (L next : LinuxState) (s : ℕ) → LStep L (label.Resume s) ≡ Some next → IsReleasedOrRefused L s

-- as long as the guest goes on, each such thread may resume
abbrev pub TheReleasedMayResume : Type 0
TheReleasedMayResume = (L : LinuxState) (s : ℕ) → L.end ≡ None → IsReleasedOrRefused L s → IsSome (LStep L (label.Resume s))

-- after that its call waits no more, in no place
pub record WaitsNoMore (c : LxCall) : Type 0 where
  pub waits : c.waits ≡ false
  pub nowhere : c.queued ≡ 0
  pub refusal : c.refusal ≡ None

abbrev pub ResumedWaitsNoMore : Type 0
ResumedWaitsNoMore = (L next : LinuxState) (s : ℕ) → LStep L (label.Resume s) ≡ Some next → IsInCall next s (λ t c. WaitsNoMore c)

-- so a thread resumes once: after that it has not been released, nor a place of its wait refused
abbrev pub ResumesOnce : Type 0
ResumesOnce = (L next : LinuxState) (s : ℕ) → LStep L (label.Resume s) ≡ Some next → IsReleasedOrRefused next s → ⊥

-- its answer is 0, and that of a wait in many places the least place that was released, or what refused a place where none was
abbrev pub IsLeastReleased : LinuxState → LxThread → LxCall → ℕ → Type 0
IsLeastReleased L t c n = IsReleasedPlace L t c n × ((place : ℕ) → place < n → is_place_queued t.tid place L.queue ≡ true)

abbrev pub IsRefusalAlone : LinuxState → LxThread → LxCall → ℕ → Type 0
IsRefusalAlone L t c n =
    ((place : ℕ) → place < c.queued → is_place_queued t.tid place L.queue ≡ true) × ((e : LinuxErrno) × (c.refusal ≡ Some e) × (n ≡ answer_of e))

abbrev pub IsAnswer : Stage → LinuxState → LxThread → LxCall → ℕ → Type 0
IsAnswer stage.WaitMany L t c n = IsLeastReleased L t c n ⊎ IsRefusalAlone L t c n
IsAnswer _ L t c n = n ≡ 0

abbrev pub ResumeAnswers : Type 0
ResumeAnswers =
    (L next : LinuxState) (s : ℕ) → LStep L (label.Resume s) ≡ Some next →
    IsInCall L s (λ t c. (n : ℕ) × IsAnswer (stage_of c) L t c n × IsInCall next s (λ u d. d.result ≡ Some n))
