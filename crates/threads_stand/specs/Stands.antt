-- When threads and process stand for a Linux state: two of the clauses of Stands. Source: this project's own.
use Rattle.std.specs.Prelude.{◌≡◌, ℕ, length, map, Option, Some, None, option_map}
use Rattle.lx_machine.specs.Clone.{reserved}
use Rattle.lx_machine.specs.Lists.{at_place}
use Rattle.lx_machine.specs.declared.state.LinuxState.{LinuxState}
use Rattle.places.specs.declared.limits.TheConstants.{SLOTS}
use Rattle.lx_machine.specs.declared.threads.LxThread.{LxThread}
use Rattle.bsd_proc.specs.Slots.{Slot, ProcessState, slot_at}
use Rattle.bsd_proc.specs.declared.lives.Life.{Life}
use Rattle.bsd_proc.specs.declared.lives.Life.TheVariants.{Reserved, Live, Dying}
use Rattle.bsd_thread.specs.declared.thread.ThreadState.{ThreadState}
use Rattle.threads_stand.specs.Image.{linux_thread}
use Rattle.threads_stand.specs.Numbers.{linux_info, linux_action, told_end}

-- ---- Threads

-- a live or dying thread is its image, whatever its mark: that is told by the shards
pub record LiveStands (t : ThreadState) (slot : Slot) (rest : ℕ) (lt : Option LxThread) : Type 0 where
  pub mark : Option ℕ
  pub is : lt ≡ Some (linux_thread t t.phase slot mark rest)

-- the place of a reserved slot is reserved for the same tid. Its mask stands nowhere in the machine, and is another once it starts
pub record ReservedStands (slot : Slot) (lt : Option LxThread) : Type 0 where
  pub mask : ℕ
  pub is : lt ≡ Some (reserved slot.tid mask)

abbrev pub InUse : ThreadState → Slot → ℕ → Option LxThread → Life → Type 0
InUse t slot rest lt Reserved = ReservedStands slot lt
InUse t slot rest lt Live = LiveStands t slot rest lt
InUse t slot rest lt Dying = LiveStands t slot rest lt

-- the place of a free slot is free
abbrev pub ThreadStands : ThreadState → Option Slot → ℕ → Option LxThread → Type 0
ThreadStands t None rest lt = lt ≡ None
ThreadStands t (Some slot) rest lt = InUse t slot rest lt slot.life

-- each of the 128 places stands as its slot and its thread say; `rest` is what the chains still hold for a call that counts
pub record ThreadsStand (threads : ℕ → Option ThreadState) (p : ProcessState) (rest : ℕ → ℕ) (L : LinuxState) : Type 0 where
  pub places : length L.threads ≡ SLOTS
  pub each : (s : ℕ) (t : ThreadState) → threads s ≡ Some t → ThreadStands t (slot_at p s) (rest s) (at_place L.threads s)

-- ---- Process, but for its areas. What it keeps of a slot is told by Threads

pub record ProcessStands (p : ProcessState) (L : LinuxState) : Type 0 where
  pub rules : L.rules ≡ p.rules
  pub next_tid : L.next_tid ≡ p.next_tid
  pub break_at : L.space.break_at ≡ p.break_at
  pub break_start : L.space.break_start ≡ p.break_start
  pub actions : L.actions ≡ map linux_action p.actions
  pub pending : L.pending ≡ map linux_info p.pending
  pub clock : L.clock ≡ p.clock
  pub end : p.end ≡ option_map told_end L.end
