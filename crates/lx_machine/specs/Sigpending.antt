-- rt_sigpending. Source: sigpending(2).
use Rattle.std.specs.Prelude.{Bool, List, [], bit_and, bit_or, nat_lt, take, ℕ, ◌∷◌}
use Rattle.linux_abi.specs.declared.errno.LinuxErrno.{LinuxErrno}
use Rattle.linux_abi.specs.declared.signals.TheConstants.{SIGSET_SIZE}
use Rattle.lx_machine.specs.Calls.{answered_with, argument}
use Rattle.lx_machine.specs.Pieces.{piece}
use Rattle.lx_machine.specs.Signal.{set_of}
use Rattle.lx_machine.specs.declared.calls.LxCall.{LxCall}
use Rattle.lx_machine.specs.declared.signals.SigInfo.{SigInfo}
use Rattle.places.specs.Places.{bytes_of}
use Rattle.linux_abi.specs.declared.errno.LinuxErrno.TheVariants as errno

-- ---- rt_sigpending(out, size)

abbrev pub sigpending_refusals : LxCall → List (Bool × LinuxErrno)
sigpending_refusals c = (nat_lt SIGSET_SIZE (argument c 1), errno.EINVAL) ∷ []

-- the signals that are pending for the thread or the process, and blocked
abbrev pub blocked_pending : ℕ → List SigInfo → List SigInfo → ℕ
blocked_pending mask own pending = bit_and mask (bit_or (set_of own) (set_of pending))

-- the first `size` bytes of that set are stored
abbrev pub sigpending_call : ℕ → List SigInfo → List SigInfo → LxCall → LxCall
sigpending_call mask own pending c =
    answered_with c 0 (piece (argument c 0) (argument c 1) ∷ []) (take (argument c 1) (bytes_of (blocked_pending mask own pending) 8))
