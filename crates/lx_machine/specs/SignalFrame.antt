-- SignalFrame: the frame that a handler runs on. Source: sigaction(2), sigaltstack(2); the form of the frame is that of Linux for
-- arm64 (struct rt_sigframe: siginfo_t and struct ucontext, and behind it the frame record of the AAPCS64).
use Rattle.std.proofs.Math.Bool.{not}
use Rattle.std.specs.Int.{cast_unsigned, w32}
use Rattle.std.specs.Option.{option_map}
use Rattle.std.specs.Prelude.{Bool, Err, List, None, Ok, Option, Result, Some, [], bit_or, if◌then◌else◌, nat_lt, replicate, slice_index, slice_set, true, ℕ, ◌&&◌, ◌*◌, ◌++◌, ◌+◌, ◌-◌, ◌/◌, ◌^◌, ◌||◌, ◌∷◌, ◌≡◌}
use Rattle.a64_model.specs.VectorRecord.{vector_record}
use Rattle.a64_model.specs.declared.regs.Regs.{Regs}
use Rattle.linux_abi.specs.LinuxSig.{linux_bit, signal_number}
use Rattle.linux_abi.specs.SigAction.{has_restorer, is_not_deferred, wants_info, wants_stack}
use Rattle.lx_machine.specs.Delivery.{own_mask}
use Rattle.lx_machine.specs.Lists.{bind}
use Rattle.lx_machine.specs.Sigaltstack.{is_on, stack_flags}
use Rattle.lx_machine.specs.SignalCalls.{blockable}
use Rattle.lx_machine.specs.Threads.{has_written, with_thread}
use Rattle.lx_machine.specs.declared.refusal.LxRefusal.{LxRefusal}
use Rattle.lx_machine.specs.declared.refusal.LxRefusal.TheVariants.{NoMemory, NoStep}
use Rattle.lx_machine.specs.declared.signals.Action.{Action}
use Rattle.lx_machine.specs.declared.signals.Origin.{Origin}
use Rattle.lx_machine.specs.declared.signals.Origin.TheVariants.{Address, Sender}
use Rattle.lx_machine.specs.declared.signals.SigInfo.{SigInfo}
use Rattle.lx_machine.specs.declared.signals.Taken.{Taken}
use Rattle.lx_machine.specs.declared.state.LinuxState.{LinuxState}
use Rattle.lx_machine.specs.declared.threads.AltStack.{AltStack}
use Rattle.lx_machine.specs.declared.threads.LxThread.{LxThread}
use Rattle.lx_memory.specs.Bytes.{with_bytes}
use Rattle.lx_memory.specs.Queries.{is_allowed}
use Rattle.lx_memory.specs.declared.right.Right.TheVariants.{Write}
use Rattle.page_store.specs.Pages.{Pages}
use Rattle.places.specs.Places.{bytes_of}

-- ---- where the frame stands

-- the frame goes below this: below sp, or the end of the alternative stack where the action asks for it, it is enabled, and
-- the thread is not on it
abbrev pub frame_top : Action → ℕ → AltStack → ℕ
frame_top a sp stack = if wants_stack a.flags && stack.enabled && not (is_on sp stack) then stack.at + stack.size else sp

-- the frame record's address
abbrev pub record_at : ℕ → ℕ
record_at top = (top - 16) / 16 * 16

-- the address of the frame's first byte, which is that of siginfo
abbrev pub frame_at : ℕ → ℕ
frame_at top = record_at top - 4688

-- the bytes of the frame and of its record
abbrev pub frame_size : ℕ
frame_size = 4704

-- the address of the frame, if it and its record lie in the address space
abbrev pub place_below : ℕ → Option ℕ
place_below top = if nat_lt top frame_size || nat_lt (2 ^ 64) (record_at top + 16) then None else Some (frame_at top)

-- each byte of the frame at this address, and of its record, may be written
unfoldable pub is_writable : Pages → ℕ → Bool
is_writable pages at = is_allowed Write pages at 4704

abbrev pub if_writable : Pages → ℕ → Option ℕ
if_writable pages at = if is_writable pages at then Some at else None

abbrev pub storable_place : Pages → ℕ → Option ℕ
storable_place pages top = bind (place_below top) (if_writable pages)

-- ---- what stands in it, in words of 8 bytes

unfoldable pub words : List ℕ → List ℕ
words [] = []
words (n ∷ ns) = bytes_of n 8 ++ words ns

-- siginfo_t at 16: the process and the user that sent it, or the address of the fault
abbrev pub origin_word : Origin → ℕ
origin_word (Sender pid uid) = pid + uid * 2 ^ 32
origin_word (Address at) = at

-- siginfo_t: the signal at 0, the code at 8
abbrev pub info_words : SigInfo → List ℕ
info_words info = signal_number info.signal ∷ cast_unsigned w32 info.code ∷ origin_word info.origin ∷ replicate 13 0

-- ucontext, fault address: that of an instruction that trapped
abbrev pub fault_address : Origin → ℕ
fault_address (Sender pid uid) = 0
fault_address (Address at) = at

-- ucontext up to the registers: the stack at 16, the mask at 40, the fault address at 176
abbrev pub context_words : ℕ → AltStack → ℕ → SigInfo → List ℕ
context_words sp stack mask info =
    0 ∷ 0 ∷ stack.at ∷ stack_flags sp stack ∷ stack.size ∷ mask ∷ (replicate 16 0 ++ fault_address info.origin ∷ [])

-- sp at 432, pc at 440, and pstate at 448, whose bits 31 to 28 are the flags; the records begin at 464
abbrev pub last_words : Regs → List ℕ
last_words regs = regs.sp ∷ regs.pc ∷ regs.nzcv * 2 ^ 28 ∷ 0 ∷ []

-- the frame record: x29 and x30
abbrev pub record_words : Regs → List ℕ
record_words regs = slice_index regs.x 29 ∷ slice_index regs.x 30 ∷ []

-- the frame and its record: siginfo, ucontext with x0 to x30 at 184 and the record of the vector registers at 464, zeros (which
-- at 992 are the record that ends the records), and the frame record
abbrev pub frame_bytes : Regs → AltStack → ℕ → SigInfo → List ℕ
frame_bytes regs stack mask info =
    words (info_words info) ++ words (context_words regs.sp stack mask info) ++ words regs.x ++ words (last_words regs) ++
    vector_record regs.v ++ words (replicate 446 0) ++ words (record_words regs)

-- ---- the thread in its handler

-- without a restorer a handler returns to the page that a guest begins with
abbrev pub restorer : Action → ℕ
restorer a = if has_restorer a.flags then a.restorer else 0x7fffff000000

-- x0 to x2: the signal, and where the action asks for them the addresses of siginfo and ucontext
abbrev pub with_arguments : Action → ℕ → ℕ → List ℕ → List ℕ
with_arguments a number at x =
    if wants_info a.flags then slice_set (slice_set (slice_set x 0 number) 1 at) 2 (at + 128) else slice_set x 0 number

abbrev pub handler_regs : Action → ℕ → ℕ → Regs → Regs
handler_regs a number at regs = record regs {
  x = slice_set (slice_set (with_arguments a number at regs.x) 29 (at + 4688)) 30 (restorer a);
  sp = at;
  pc = a.handler;
}

-- the mask in the handler: the action's mask is added, and the signal where it is deferred
abbrev pub handler_mask : Taken → ℕ → ℕ
handler_mask taken mask =
    blockable (bit_or (bit_or mask taken.action.mask) (if is_not_deferred taken.action.flags then 0 else 2 ^ linux_bit taken.info.signal))

abbrev pub in_handler : Taken → ℕ → LxThread → LxThread
in_handler taken at t = record t {
  regs = handler_regs taken.action (signal_number taken.info.signal) at t.regs;
  mask = handler_mask taken t.mask;
  saved_mask = None;
  taken = None;
}

-- ---- Frame

-- memory and the thread after it, and the address where the frame was stored, if it could be
pub record Framed : Type 0 where
  pub pages : Pages
  pub thread : LxThread
  pub stored : Option ℕ

-- a frame that can't be stored is the thread's doom
abbrev pub doomed : LxThread → LxThread
doomed t = record t { taken = None; is_doomed = true }

abbrev pub frame_of : Taken → LxThread → List ℕ
frame_of taken t = frame_bytes t.regs t.alt_stack (own_mask t.mask t.saved_mask) taken.info

abbrev pub frame_if : Option ℕ → Pages → LxThread → Taken → Framed
frame_if (Some at) pages t taken = record { pages = with_bytes pages at (frame_of taken t); thread = in_handler taken at t; stored = Some at }
frame_if None pages t taken = record { pages = pages; thread = doomed t; stored = None }

abbrev pub frame_below : ℕ → Pages → LxThread → Taken → Framed
frame_below top pages t taken = frame_if (storable_place pages top) pages t taken

-- the frame of the taken signal
abbrev pub framed_by : Pages → LxThread → Taken → Framed
framed_by pages t taken = frame_below (frame_top taken.action t.regs.sp t.alt_stack) pages t taken

abbrev pub framed : Pages → LxThread → Option Framed
framed pages t = option_map (framed_by pages t) t.taken

-- a function that computes it: where there is no such step, nothing changes; memory is never wanting
abbrev pub Frames : Option Framed → Pages → Pages → LxThread → LxThread → Result (Option ℕ) LxRefusal → Type 0
Frames (Some f) pages pages' t t' (Ok stored) = (pages' ≡ f.pages) × (t' ≡ f.thread) × (stored ≡ f.stored)
Frames None pages pages' t t' (Ok stored) = ⊥
Frames (Some f) pages pages' t t' (Err NoStep) = ⊥
Frames None pages pages' t t' (Err NoStep) = (pages' ≡ pages) × (t' ≡ t)
Frames o pages pages' t t' (Err NoMemory) = ⊥

-- Frame: what it writes ends the marks of others
abbrev pub has_framed : LinuxState → ℕ → Pages → Option ℕ → LinuxState
has_framed L s pages None = record L { space = record L.space { pages = pages } }
has_framed L s pages (Some at) = has_written L s pages at frame_size

abbrev pub framed_in : LinuxState → ℕ → Framed → LinuxState
framed_in L s f = with_thread (has_framed L s f.pages f.stored) s f.thread

abbrev pub frame : LinuxState → ℕ → LxThread → Option LinuxState
frame L s t = option_map (framed_in L s) (framed L.space.pages t)
