-- Alternative signal stacks. Source: sigaltstack(2).
use Rattle.std.proofs.Math.Bool.{not}
use Rattle.std.specs.Prelude.{Bool, List, None, Option, Some, [], false, if◌then◌else◌, nat_le, nat_lt, true, ℕ, ◌&&◌, ◌++◌, ◌+◌, ◌==◌, ◌∷◌}
use Rattle.linux_abi.specs.declared.errno.LinuxErrno.{LinuxErrno}
use Rattle.linux_abi.specs.declared.signals.TheConstants.{MINSIGSTKSZ}
use Rattle.lx_machine.specs.Calls.{argument, first_refusal, refused}
use Rattle.lx_machine.specs.SignalCalls.{answered_storing, fetch_then, optional_piece}
use Rattle.lx_machine.specs.declared.calls.LxCall.{LxCall}
use Rattle.lx_machine.specs.declared.calls.Piece.{Piece}
use Rattle.lx_machine.specs.declared.calls.Stage.{Stage}
use Rattle.lx_machine.specs.declared.threads.AltStack.{AltStack}
use Rattle.places.specs.Places.{bytes_of, number_at}
use Rattle.linux_abi.specs.declared.errno.LinuxErrno.TheVariants as errno
use Rattle.lx_machine.specs.declared.calls.Stage.TheVariants as stage

-- a thread with this sp is on its alternative stack
abbrev pub is_on : ℕ → AltStack → Bool
is_on sp stack = stack.enabled && nat_lt stack.at sp && nat_le sp (stack.at + stack.size)

-- SS_ONSTACK is 1, SS_DISABLE is 2
abbrev pub stack_flags : ℕ → AltStack → ℕ
stack_flags sp stack = if not stack.enabled then 2 else (if is_on sp stack then 1 else 0)

-- stack_t: address, flags, 4 unused bytes, size
abbrev pub stack_bytes : ℕ → AltStack → List ℕ
stack_bytes sp stack = bytes_of stack.at 8 ++ bytes_of (stack_flags sp stack) 8 ++ bytes_of stack.size 8

-- ---- sigaltstack(new, old)

abbrev pub sigaltstack_pieces : LxCall → List Piece
sigaltstack_pieces c = optional_piece (argument c 0) 24

abbrev pub sigaltstack_stage : LxCall → Stage
sigaltstack_stage c = fetch_then stage.Effect c.pieces

-- what the fetched stack_t says
abbrev pub new_flags : List ℕ → ℕ
new_flags bytes = number_at bytes 8 4

abbrev pub new_stack : List ℕ → AltStack
new_stack bytes =
    if new_flags bytes == 2 then record { at = 0; size = 0; enabled = false }
    else record { at = number_at bytes 0 8; size = number_at bytes 16 8; enabled = true }

abbrev pub stack_refusals : ℕ → AltStack → List ℕ → List (Bool × LinuxErrno)
stack_refusals sp stack bytes =
    (nat_lt 2 (new_flags bytes), errno.EINVAL) ∷
    (is_on sp stack, errno.EPERM) ∷
    (not (new_flags bytes == 2) && nat_lt (number_at bytes 16 8) MINSIGSTKSZ, errno.ENOMEM) ∷
    []

-- a new stack is refused only where one is given
abbrev pub stack_refusal : ℕ → AltStack → LxCall → Option LinuxErrno
stack_refusal sp stack c = if argument c 0 == 0 then None else first_refusal (stack_refusals sp stack c.bytes)

-- the thread's stack after the call, and the call, which stores the stack before
abbrev pub stack_unless : Option LinuxErrno → AltStack → LxCall → AltStack
stack_unless (Some e) stack c = stack
stack_unless None stack c = if argument c 0 == 0 then stack else new_stack c.bytes

abbrev pub call_unless : Option LinuxErrno → ℕ → AltStack → LxCall → LxCall
call_unless (Some e) sp stack c = refused c e
call_unless None sp stack c = answered_storing c (argument c 1) (stack_bytes sp stack)

abbrev pub sigaltstack_stack : ℕ → AltStack → LxCall → AltStack
sigaltstack_stack sp stack c = stack_unless (stack_refusal sp stack c) stack c

abbrev pub sigaltstack_call : ℕ → AltStack → LxCall → LxCall
sigaltstack_call sp stack c = call_unless (stack_refusal sp stack c) sp stack c
