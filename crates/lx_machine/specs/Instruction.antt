-- Instruction
use Rattle.lx_machine.specs.Shape.{entered}
use Rattle.std.proofs.Math.Bool.{not}
use Rattle.std.specs.Prelude.{Bool, Err, List, None, Ok, Option, Result, Some, false, if◌then◌else◌, length, pos, replicate, slice_index, take, true, ℕ, ◌%◌, ◌++◌, ◌-◌, ◌==◌}
use Rattle.a64_model.specs.Exec.{after, needed, next}
use Rattle.a64_model.specs.Rows.{row}
use Rattle.a64_model.specs.declared.access.Access.{Access}
use Rattle.a64_model.specs.declared.access.Answer.{Answer}
use Rattle.a64_model.specs.declared.access.Next.{Next}
use Rattle.a64_model.specs.declared.access.Next.TheVariants.{Call, Go, Trap}
use Rattle.a64_model.specs.declared.access.SwapOp.{SwapOp}
use Rattle.a64_model.specs.declared.instr.Instr.{Instr}
use Rattle.a64_model.specs.declared.regs.Regs.{Regs}
use Rattle.a64_model.specs.Swaps.{has_outcome, outcome}
use Rattle.linux_abi.specs.declared.signals.LinuxSig.{LinuxSig}
use Rattle.lx_machine.specs.Calls.{new_call}
use Rattle.lx_machine.specs.Threads.{has_written, trapped, with_call, with_regs, with_thread}
use Rattle.lx_machine.specs.declared.calls.LxCall.{LxCall}
use Rattle.lx_machine.specs.declared.state.LinuxState.{LinuxState}
use Rattle.lx_machine.specs.declared.threads.LxThread.{LxThread}
use Rattle.lx_memory.specs.Bytes.{bytes_at, with_bytes}
use Rattle.lx_memory.specs.Queries.{first_lacking, is_allowed}
use Rattle.lx_memory.specs.declared.right.Right.TheVariants.{Execute, Read, Write}
use Rattle.page_store.specs.Pages.{Pages}
use Rattle.places.specs.Places.{bytes_of, number_of}
use Rattle.a64_model.specs.declared.access.Access.TheVariants as access
use Rattle.a64_model.specs.declared.access.Answer.TheVariants as answer
use Rattle.linux_abi.specs.declared.signals.LinuxSig.TheVariants as signal
use Rattle.places.specs.Places as place

-- the signal of a trap's number
abbrev pub trap_signal : ℕ → LinuxSig
trap_signal n = if n == 5 then signal.SIGTRAP else (if n == 7 then signal.SIGBUS else signal.SIGSEGV)

-- the bytes of an access, in 32 bytes
abbrev pub filled : List ℕ → List ℕ
filled bytes = bytes ++ replicate (32 - length bytes) 0

-- ---- what memory does, and answers, at an access

-- the pages and the thread's mark once memory has answered, the answer, and how many bytes were written from which
-- address on
pub record Answered : Type 0 where
  pub pages : Pages
  pub mark : Option ℕ
  pub answer : Answer
  pub at : ℕ
  pub written : ℕ

-- nothing changes, and memory answers so
abbrev pub answers_access : Pages → Option ℕ → Answer → Answered
answers_access pages mark a = record { pages = pages; mark = mark; answer = a; at = 0; written = 0 }

abbrev pub faults_at : Pages → Option ℕ → ℕ → Answered
faults_at pages mark at = answers_access pages mark (answer.Fault (record { address = at }))

-- these bytes are written, and memory answers so
abbrev pub writes : Pages → Option ℕ → ℕ → List ℕ → Answer → Answered
writes pages mark at bytes a = record { pages = with_bytes pages at bytes; mark = mark; answer = a; at = at; written = length bytes }

-- a load, which may leave a mark
abbrev pub loaded : Pages → Option ℕ → ℕ → ℕ → Bool → Option ℕ → Answered
loaded pages mark at len marks (Some lacking) = faults_at pages mark lacking
loaded pages mark at len marks None =
    answers_access pages (if marks then Some (place.granule at) else mark) (answer.Bytes (filled (bytes_at pages at len)))

-- a store
abbrev pub stored_at : Pages → Option ℕ → ℕ → List ℕ → Option ℕ → Answered
stored_at pages mark at bytes (Some lacking) = faults_at pages mark lacking
stored_at pages mark at bytes None = writes pages mark at bytes answer.Done

-- the mark stands on the granule of an address
abbrev pub has_mark : Option ℕ → ℕ → Bool
has_mark None at = false
has_mark (Some granule) at = granule == place.granule at

-- an exclusive store: it stores where the mark stands, and ends the mark
abbrev pub store_exclusive : Pages → Option ℕ → ℕ → List ℕ → Option ℕ → Answered
store_exclusive pages mark at bytes (Some lacking) = faults_at pages mark lacking
store_exclusive pages mark at bytes None =
    if has_mark mark at then writes pages None at bytes answer.Done else answers_access pages None answer.NoMark

-- an atomic access to a number of so many bytes: it answers the old number
abbrev pub swapped : Pages → Option ℕ → ℕ → ℕ → SwapOp → ℕ → ℕ → Option ℕ → Answered
swapped pages mark at len op value expected (Some lacking) = faults_at pages mark lacking
swapped pages mark at len op value expected None =
    let bytes = bytes_at pages at len in
    let old = number_of bytes in
    if has_outcome op old expected then writes pages mark at (bytes_of (outcome op old value) len) (answer.Bytes (filled bytes))
    else answers_access pages mark (answer.Bytes (filled bytes))

abbrev pub accessed : Pages → Option ℕ → Access → Answered
accessed pages mark access.None = answers_access pages mark answer.Done
accessed pages mark (access.Load at len marks) = loaded pages mark at len marks (first_lacking Read pages at len)
accessed pages mark (access.Store at len bytes false) = stored_at pages mark at (take len bytes) (first_lacking Write pages at len)
accessed pages mark (access.Store at len bytes true) = store_exclusive pages mark at (take len bytes) (first_lacking Write pages at len)
accessed pages mark (access.Swap at len op value expected) = swapped pages mark at len op value expected (first_lacking Write pages at len)
accessed pages mark access.ClearMark = answers_access pages None answer.Done

-- ---- the instruction

-- the pages and the thread after an instruction, and how many bytes it has written from which address on
pub record Ran : Type 0 where
  pub pages : Pages
  pub thread : LxThread
  pub at : ℕ
  pub written : ℕ

-- the thread alone changes
abbrev pub leaves : Pages → LxThread → Ran
leaves pages t = record { pages = pages; thread = t; at = 0; written = 0 }

abbrev pub with_mark : LxThread → Option ℕ → LxThread
with_mark t mark = record t { mark = mark }

-- the call that SVC enters has the number in x8 and its arguments in x0 to x5
abbrev pub called : Regs → LxCall
called regs = new_call (slice_index regs.x 8) (take 6 regs.x)

-- what comes after the instruction. SVC enters its call, and ends the mark
abbrev pub followed : LxThread → Next → LxThread
followed t Go = t
followed t Call = with_mark (with_call t (entered t.regs.sp (called t.regs))) None
followed t (Trap n code address) = trapped t (trap_signal n) code address

-- the instruction, once memory has answered its access
abbrev pub finished : LxThread → Instr → Answered → Ran
finished t i a = record {
  pages = a.pages;
  thread = followed (with_regs (with_mark t a.mark) (after t.regs i a.answer)) (next t.regs i a.answer);
  at = a.at;
  written = a.written;
}

-- the instruction with the access that it needs, or the trap where alignment refuses it
abbrev pub with_access : Pages → LxThread → Instr → Result Access Next → Ran
with_access pages t i (Ok a) = finished t i (accessed pages t.mark a)
with_access pages t i (Err n) = leaves pages (followed t n)

-- the instruction of a word: a word without a row is SIGILL, with code 1
abbrev pub executed : Pages → LxThread → Option Instr → Ran
executed pages t (Some i) = with_access pages t i (needed t.regs i)
executed pages t None = leaves pages (trapped t signal.SIGILL (pos 1) t.regs.pc)

-- the instruction at pc. A pc that is no multiple of 4 is SIGBUS, with code 1; one without the right to execute is SIGSEGV,
-- whose code is judged when the signal is taken
abbrev pub ran : Pages → LxThread → Ran
ran pages t =
    if not (t.regs.pc % 4 == 0) then leaves pages (trapped t signal.SIGBUS (pos 1) t.regs.pc) else (
    if is_allowed Execute pages t.regs.pc 4 then executed pages t (row (number_of (bytes_at pages t.regs.pc 4)))
    else leaves pages (trapped t signal.SIGSEGV (pos 0) t.regs.pc))

-- the thread in slot s executes it: what it writes ends the marks of others
abbrev pub instruction : LinuxState → ℕ → LxThread → LinuxState
instruction L s t =
    let r = ran L.space.pages t in
    has_written (with_thread L s r.thread) s r.pages r.at r.written

-- ---- bytes that a call stores

-- the state after the thread in slot s has written these bytes
abbrev pub stored : LinuxState → ℕ → ℕ → List ℕ → LinuxState
stored L s at bytes = has_written L s (with_bytes L.space.pages at bytes) at (length bytes)
