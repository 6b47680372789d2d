-- clone. Source: clone(2), gettid(2). Which threads are made is this project's own: those that share all with their process.
use Rattle.std.proofs.Math.Bool.{not}
use Rattle.std.specs.Option.{option_map}
use Rattle.std.specs.Prelude.{Bool, List, None, Option, Some, [], bit_and, drop, false, if◌then◌else◌, nat_lt, replicate, slice_set, take, ℕ, ◌%◌, ◌&&◌, ◌++◌, ◌+◌, ◌-◌, ◌/◌, ◌==◌, ◌^◌, ◌∷◌}
use Rattle.a64_model.specs.declared.regs.Regs.{Regs}
use Rattle.linux_abi.specs.declared.errno.LinuxErrno.{LinuxErrno}
use Rattle.lx_machine.specs.Calls.{answered_with, argument, has_other, low_argument, refused}
use Rattle.lx_machine.specs.Lists.{at_place, bind, first_free, with_place}
use Rattle.lx_machine.specs.Pieces.{behind_first, piece}
use Rattle.lx_machine.specs.Threads.{in_call_of, with_thread}
use Rattle.lx_machine.specs.Whole.{Whole, whole}
use Rattle.lx_machine.specs.declared.calls.LxCall.{LxCall}
use Rattle.lx_machine.specs.declared.calls.Piece.{Piece}
use Rattle.lx_machine.specs.declared.calls.Stage.{Stage}
use Rattle.lx_machine.specs.declared.state.LinuxState.{LinuxState}
use Rattle.lx_machine.specs.declared.threads.AltStack.{AltStack}
use Rattle.lx_machine.specs.declared.threads.LxThread.{LxThread}
use Rattle.places.specs.Places.{bytes_of}
use Rattle.linux_abi.specs.declared.errno.LinuxErrno.TheVariants as errno
use Rattle.lx_machine.specs.declared.calls.Stage.TheVariants as stage
use Rattle.lx_machine.specs.declared.threads.Life.TheVariants as life

-- ---- flags

-- a flag of the call, by its bit's number
abbrev pub has_clone_flag : LxCall → ℕ → Bool
has_clone_flag c bit = low_argument c 0 / 2 ^ bit % 2 == 1

-- CLONE_VM, CLONE_SIGHAND, CLONE_THREAD
abbrev pub shares_memory : LxCall → Bool
shares_memory c = has_clone_flag c 8

abbrev pub shares_actions : LxCall → Bool
shares_actions c = has_clone_flag c 11

abbrev pub makes_thread : LxCall → Bool
makes_thread c = has_clone_flag c 16

-- CLONE_SETTLS, CLONE_PARENT_SETTID, CLONE_CHILD_CLEARTID, CLONE_CHILD_SETTID
abbrev pub sets_tls : LxCall → Bool
sets_tls c = has_clone_flag c 19

abbrev pub stores_for_parent : LxCall → Bool
stores_for_parent c = has_clone_flag c 20

abbrev pub clears_for_child : LxCall → Bool
clears_for_child c = has_clone_flag c 21

abbrev pub stores_for_child : LxCall → Bool
stores_for_child c = has_clone_flag c 24

-- CLONE_VM, CLONE_FS, CLONE_FILES, CLONE_SIGHAND and CLONE_THREAD: without them no thread is made
abbrev pub needed_flags : ℕ
needed_flags = 0x10f00

-- these, and CSIGNAL, CLONE_SYSVSEM, CLONE_SETTLS, CLONE_PARENT_SETTID, CLONE_CHILD_CLEARTID, CLONE_DETACHED and
-- CLONE_CHILD_SETTID
abbrev pub known_flags : ℕ
known_flags = 0x17d0fff

abbrev pub clone_refusals : LxCall → List (Bool × LinuxErrno)
clone_refusals c =
    (makes_thread c && not (shares_actions c), errno.EINVAL) ∷
    (shares_actions c && not (shares_memory c), errno.EINVAL) ∷
    (not (bit_and (low_argument c 0) needed_flags == needed_flags), errno.ENOSYS) ∷
    (has_other known_flags (low_argument c 0), errno.ENOSYS) ∷ []

-- ---- Birth

-- the greatest tid
abbrev pub last_tid : ℕ
last_tid = 2 ^ 30 - 1

abbrev pub no_regs : Regs
no_regs = record { x = replicate 31 0; sp = 0; pc = 0; nzcv = 0; tpidr = 0; v = replicate 32 0 }

abbrev pub no_stack : AltStack
no_stack = record { at = 0; size = 0; enabled = false }

-- a thread whose place is reserved, and which has not started
abbrev pub reserved : ℕ → ℕ → LxThread
reserved tid mask = record {
  tid = tid;
  life = life.Reserved;
  regs = no_regs;
  mark = None;
  mask = mask;
  saved_mask = None;
  alt_stack = no_stack;
  clear_at = 0;
  robust_head = 0;
  pending = [];
  trap = None;
  taken = None;
  is_doomed = false;
  call = None;
}

-- the tid is stored here, if it is asked for
abbrev pub store_at : Bool → ℕ → List Piece
store_at asked at = if asked then (piece at 4 ∷ []) else []

abbrev pub stored_tid : Bool → ℕ → List ℕ
stored_tid asked tid = if asked then bytes_of tid 4 else []

-- where the tid is stored: for the parent, and then for the child
abbrev pub tid_pieces : LxCall → List Piece
tid_pieces c = store_at (stores_for_parent c) (argument c 2) ++ store_at (stores_for_child c) (argument c 4)

abbrev pub tid_bytes : LxCall → ℕ → List ℕ
tid_bytes c tid = stored_tid (stores_for_parent c) tid ++ stored_tid (stores_for_child c) tid

-- the call has the tid as its result, stores it, and then starts the thread in this place
abbrev pub with_child : LxCall → ℕ → ℕ → LxCall
with_child c tid slot = record (answered_with c tid (tid_pieces c) (tid_bytes c tid)) { child = Some slot }

-- the threads, the next tid and the call after a clone
pub record Cloned : Type 0 where
  pub threads : List (Option LxThread)
  pub next_tid : ℕ
  pub call : LxCall

-- how many places there are for threads: 32 by the rules 1, and 128 by the rules 2
abbrev pub place_count : ℕ → ℕ
place_count rules = if rules == 1 then 32 else 128

-- the lowest free place, if there is one, as long as there is a tid
abbrev pub place_for : ℕ → List (Option LxThread) → ℕ → Option ℕ
place_for rules threads next_tid = if nat_lt last_tid next_tid then None else first_free (take (place_count rules) threads)

abbrev pub cloned_in : List (Option LxThread) → ℕ → ℕ → LxCall → Option ℕ → Cloned
cloned_in threads next_tid mask c None = record { threads = threads; next_tid = next_tid; call = refused c errno.EAGAIN }
cloned_in threads next_tid mask c (Some slot) = record {
  threads = with_place threads slot (reserved next_tid mask);
  next_tid = next_tid + 1;
  call = with_child c next_tid slot;
}

-- clone: the lowest free place and the next tid are reserved
abbrev pub cloned : ℕ → List (Option LxThread) → ℕ → ℕ → LxCall → Cloned
cloned rules threads next_tid mask c = cloned_in threads next_tid mask c (place_for rules threads next_tid)

-- a store of the tid that could not be made is passed over
abbrev pub clone_not_stored : LxCall → LxCall
clone_not_stored c = record c { pieces = behind_first c.pieces; bytes = drop 4 c.bytes }

-- without a result the call has its effect
abbrev pub clone_stage : LxCall → Stage
clone_stage c = stage.Effect

-- with a child it stores the tid, and then the child starts
abbrev pub born_from : List Piece → Stage
born_from [] = stage.Start
born_from (p ∷ ps) = stage.Store p

abbrev pub birth_stage : LxCall → Stage
birth_stage c = born_from c.pieces

-- ---- Start

-- the child's registers are its parent's, but for the result, the stack, and the thread pointer
abbrev pub child_regs : Regs → LxCall → Regs
child_regs regs c = record regs {
  x = slice_set regs.x 0 0;
  sp = if argument c 1 == 0 then regs.sp else argument c 1;
  tpidr = if sets_tls c then argument c 3 else regs.tpidr;
}

-- the clear address of the child
abbrev pub clear_address : LxCall → ℕ
clear_address c = if clears_for_child c then argument c 4 else 0

-- the child starts
abbrev pub started : Regs → ℕ → LxCall → LxThread → LxThread
started regs mask c t = record t {
  life = life.Live;
  regs = child_regs regs c;
  mask = mask;
  alt_stack = no_stack;
  robust_head = 0;
  clear_at = clear_address c;
}

-- the call after its child has started
abbrev pub without_child : LxCall → LxCall
without_child c = record c { child = None }

-- clone: a place and a tid are reserved, with the caller's mask
abbrev pub clone_outcome : LinuxState → Cloned → Whole
clone_outcome L o = whole (record L { threads = o.threads; next_tid = o.next_tid }) o.call

abbrev pub clone_whole : LinuxState → ℕ → LxCall → Whole
clone_whole L mask c = clone_outcome L (cloned L.rules L.threads L.next_tid mask c)

-- Start: the child that the call has reserved takes over the registers of its parent
abbrev pub start_child : LinuxState → ℕ → LxThread → LxCall → ℕ → LxThread → LinuxState
start_child L s t c slot child = in_call_of (with_thread L slot (started t.regs t.mask c child)) s t (without_child c)

abbrev pub start : LinuxState → ℕ → LxThread → LxCall → Option LinuxState
start L s t c = bind c.child (λ slot. option_map (start_child L s t c slot) (at_place L.threads slot))
