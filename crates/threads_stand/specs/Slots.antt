-- What holds of the threads and of what the process keeps of their slots, without any look at the Linux machine. Source: clone(2),
-- set_tid_address(2), nanosleep(2); that threads have slots, which keep a copy of their deadlines, is this project's own.
use Rattle.std.specs.Prelude.{◌≡◌, ◌≢◌, ℕ, ◌<◌, ◌==◌, Bool, true, false, ◌&&◌, not, if◌then◌else◌, length, Option, Some, None}
use Rattle.linux_abi.specs.Call.{call_of}
use Rattle.linux_abi.specs.declared.calls.Call.TheVariants.{Exit}
use Rattle.lx_machine.specs.declared.death.Death.{Death}
use Rattle.places.specs.declared.limits.TheConstants.{SLOTS}
use Rattle.bsd_proc.specs.Sending.{is_live}
use Rattle.bsd_proc.specs.Slots.{Slot, ProcessState, fresh, slot_at}
use Rattle.bsd_proc.specs.declared.lives.Life.{Life}
use Rattle.bsd_proc.specs.declared.lives.Life.TheVariants.{Reserved, Live, Dying}
use Rattle.bsd_thread.specs.Phases.{has_call}
use Rattle.bsd_thread.specs.declared.call.Call.{Call}
use Rattle.bsd_thread.specs.declared.phase.Phase.{Phase}
use Rattle.bsd_thread.specs.declared.phase.Phase.TheVariants as phase
use Rattle.bsd_thread.specs.declared.thread.ThreadState.{ThreadState}
use Rattle.threads_stand.specs.Phases.{Fits}

-- ---- one thread and its slot

-- until when a thread waits: until its call's deadline, and outside a call it doesn't wait
abbrev pub deadline_of : Phase → Call → Option ℕ
deadline_of p c = if has_call p then c.deadline else None

-- a thread that has started: it is at work, and its slot has its tid and its deadline
pub record IsStarted (t : ThreadState) (slot : Slot) : Type 0 where
  pub awake : t.phase ≢ phase.Idle
  pub tid : t.tid ≡ slot.tid
  pub deadline : slot.deadline ≡ deadline_of t.phase t.call

-- a thread that dies is in its exit, whose death walks on and which never answers; it has noted the rules of the process
pub record Dies (rules : ℕ) (t : ThreadState) : Type 0 where
  pub exits : call_of t.call.number ≡ Some Exit
  pub death : Death
  pub walks : t.call.death ≡ Some death
  pub unanswered : t.call.answer ≡ None
  pub inside : has_call t.phase ≡ true
  pub noted : t.rules ≡ rules

pub record IsDying (rules : ℕ) (t : ThreadState) (slot : Slot) : Type 0 where
  pub started : IsStarted t slot
  pub dies : Dies rules t

-- the thread of a slot that is reserved idles, and the slot has nothing but its tid
pub record IsReserved (t : ThreadState) (slot : Slot) : Type 0 where
  pub idle : t.phase ≡ phase.Idle
  pub fresh : slot ≡ fresh slot.tid Reserved

abbrev pub LifeFits : ℕ → ThreadState → Slot → Life → Type 0
LifeFits rules t slot Reserved = IsReserved t slot
LifeFits rules t slot Live = IsStarted t slot
LifeFits rules t slot Dying = IsDying rules t slot

-- the thread of a free slot idles
abbrev pub SlotFits : ℕ → ThreadState → Option Slot → Type 0
SlotFits rules t None = t.phase ≡ phase.Idle
SlotFits rules t (Some slot) = LifeFits rules t slot slot.life

-- ---- tids

-- the slots in use have different tids, each above 0 and below that of the next thread
pub record TidsDiffer (p : ProcessState) : Type 0 where
  pub next : 0 < p.next_tid
  pub above : (s : ℕ) (slot : Slot) → slot_at p s ≡ Some slot → 0 < slot.tid
  pub below : (s : ℕ) (slot : Slot) → slot_at p s ≡ Some slot → slot.tid < p.next_tid
  pub differ : (s x : ℕ) (slot other : Slot) → x ≢ s → slot_at p s ≡ Some slot → slot_at p x ≡ Some other → other.tid ≢ slot.tid

-- the tid of a slot, and 0 where it is free
abbrev pub tid_in : Option Slot → ℕ
tid_in None = 0
tid_in (Some slot) = slot.tid

abbrev pub tid_of : ProcessState → ℕ → ℕ
tid_of p s = tid_in (slot_at p s)

-- a live thread with this tid is in the slot, and one that has started and isn't gone
abbrev pub has_live_tid : ℕ → Option Slot → Bool
has_live_tid tid None = false
has_live_tid tid (Some slot) = (slot.tid == tid) && is_live slot.life

abbrev pub is_reserved : Life → Bool
is_reserved Reserved = true
is_reserved Live = false
is_reserved Dying = false

abbrev pub has_started_tid : ℕ → Option Slot → Bool
has_started_tid tid None = false
has_started_tid tid (Some slot) = (slot.tid == tid) && not (is_reserved slot.life)

-- ---- all threads and slots: the thread of each slot is there and has its number, the phase of each fits its call and its slot

pub record ThreadsSound (threads : ℕ → Option ThreadState) (p : ProcessState) : Type 0 where
  pub there : (s : ℕ) → s < SLOTS → (t : ThreadState) × (threads s ≡ Some t)
  pub numbered : (s : ℕ) (t : ThreadState) → threads s ≡ Some t → t.slot ≡ s
  pub fits : (s : ℕ) (t : ThreadState) → threads s ≡ Some t → Fits t.call t.phase
  pub lives : (s : ℕ) (t : ThreadState) → threads s ≡ Some t → SlotFits p.rules t (slot_at p s)
  pub slots : length p.slots ≡ SLOTS
  pub tids : TidsDiffer p
