-- What a thread is in the Linux machine: its call, and the thread itself, each as one function of the thread, its phase, what the
-- process keeps of its slot, its mark, and what the chains still hold for a call that counts. Source: that the phase and the
-- FreeBSD answer tell what the Linux machine's call tells is this project's own.
use Rattle.std.specs.Prelude.{ℕ, ◌+◌, Bool, true, false, ◌&&◌, not, if◌then◌else◌, List, [], map, Option, Some, None, option_map}
use Rattle.linux_abi.specs.Call.{call_of}
use Rattle.linux_abi.specs.declared.calls.Call.{Call as LinuxCall}
use Rattle.linux_abi.specs.declared.calls.Call.TheVariants.{FutexWaitv}
use Rattle.abi_map.specs.Errors.{errno_out_of}
use Rattle.signal_map.specs.Sets.{set_out_of}
use Rattle.lx_machine.specs.declared.calls.LxCall.{LxCall}
use Rattle.lx_machine.specs.declared.signals.SigInfo.{SigInfo as LxSigInfo}
use Rattle.lx_machine.specs.declared.signals.Taken.{Taken as LxTaken}
use Rattle.lx_machine.specs.declared.threads.LxThread.{LxThread}
use Rattle.bsd_proc.specs.Slots.{Slot}
use Rattle.bsd_thread.specs.Phases.{has_call, waits}
use Rattle.bsd_thread.specs.declared.call.Call.{Call}
use Rattle.bsd_thread.specs.declared.phase.Doom.TheVariants as doom
use Rattle.bsd_thread.specs.declared.phase.Owed.TheVariants as owed
use Rattle.bsd_thread.specs.declared.phase.Phase.{Phase}
use Rattle.bsd_thread.specs.declared.phase.Phase.TheVariants as phase
use Rattle.bsd_thread.specs.declared.thread.ThreadState.{ThreadState}
use Rattle.threads_stand.specs.Numbers.{linux_answer, linux_info, linux_kept, linux_taken, linux_life}

-- ---- the call

-- futex_waitv, whose places wait
abbrev pub is_waitv : Option LinuxCall → Bool
is_waitv (Some FutexWaitv) = true
is_waitv _ = false

abbrev pub is_many : Call → Bool
is_many c = is_waitv (call_of c.number)

-- the one wait of a call has begun: it sleeps, or its own insertion is all that lacks. Of futex_waitv the number of places that have
-- queued tells it, which rises as a place's word is compared
abbrev pub waits_in : Phase → Call → Bool
waits_in p c = waits p && not (is_many c)

-- a call that counts waiters has its result before all are counted: those that it has counted, and those still to come
abbrev pub result_in : Phase → Call → ℕ → Option ℕ
result_in (phase.Finish turn owed.Counted) c rest = Some (c.counted + rest)
result_in p c rest = option_map linux_answer c.answer

-- and then has nothing to store
abbrev pub list_in : {A : Type 0} → Phase → List A → List A
list_in (phase.Finish turn owed.Counted) xs = []
list_in p xs = xs

-- the call in this phase; `rest` is how many waiters the chains still hold for a call that counts
abbrev pub linux_call : Phase → Call → ℕ → LxCall
linux_call p c rest = record {
  number = c.number;
  arguments = c.arguments;
  fetched = c.fetched;
  pieces = list_in p c.pieces;
  bytes = list_in p c.bytes;
  moved = c.moved;
  held = c.held;
  deadline = c.deadline;
  waits = waits_in p c;
  queued = c.queued;
  refusal = option_map errno_out_of c.refusal;
  child = c.child;
  death = c.death;
  result = result_in p c rest;
  kept = option_map linux_kept c.kept;
}

abbrev pub call_in : Phase → Call → ℕ → Option LxCall
call_in p c rest = if has_call p then Some (linux_call p c rest) else None

-- the call as it stands between its entries: it neither waits nor counts
abbrev pub resting : Call → LxCall
resting c = linux_call phase.Return c 0

-- ---- the thread

-- the signal of a trap
abbrev pub trap_in : Phase → Option LxSigInfo
trap_in (phase.Forced signal) = Some (linux_info signal)
trap_in p = None

-- the signal whose frame is to be stored
abbrev pub taken_in : Phase → Option LxTaken
taken_in (phase.Frame delivery) = Some (linux_taken delivery)
taken_in p = None

-- its frame could not be stored
abbrev pub is_doomed_in : Phase → Bool
is_doomed_in (phase.Kill doom.Frame) = true
is_doomed_in p = false

-- a live or dying thread in this phase
abbrev pub linux_thread : ThreadState → Phase → Slot → Option ℕ → ℕ → LxThread
linux_thread t p slot mark rest = record {
  tid = t.tid;
  life = linux_life slot.life;
  regs = t.regs;
  mark = mark;
  mask = set_out_of t.mask;
  saved_mask = option_map set_out_of t.saved_mask;
  alt_stack = t.alt_stack;
  clear_at = t.clear_at;
  robust_head = slot.robust_head;
  pending = map linux_info slot.pending;
  trap = trap_in p;
  taken = taken_in p;
  is_doomed = is_doomed_in p;
  call = call_in p t.call rest;
}
