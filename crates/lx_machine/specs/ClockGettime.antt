-- clock_gettime. Source: clock_gettime(2).
use Rattle.std.proofs.Math.Bool.{not}
use Rattle.std.specs.Prelude.{Bool, List, [], is_some, ℕ, ◌∷◌}
use Rattle.linux_abi.specs.ClockId.{clock_of}
use Rattle.linux_abi.specs.declared.errno.LinuxErrno.{LinuxErrno}
use Rattle.lx_machine.specs.Calls.{answered_with, argument, low_argument}
use Rattle.lx_machine.specs.Pieces.{piece}
use Rattle.lx_machine.specs.Time.{time_bytes}
use Rattle.lx_machine.specs.declared.calls.LxCall.{LxCall}
use Rattle.lx_machine.specs.declared.calls.Stage.{Stage}
use Rattle.linux_abi.specs.declared.errno.LinuxErrno.TheVariants as errno
use Rattle.lx_machine.specs.declared.calls.Stage.TheVariants as stage

-- ---- clock_gettime(2)

abbrev pub clock_gettime_refusals : LxCall → List (Bool × LinuxErrno)
clock_gettime_refusals c = (not (is_some (clock_of (low_argument c 0))), errno.EINVAL) ∷ []

abbrev pub clock_gettime_stage : LxCall → Stage
clock_gettime_stage c = stage.Clock

-- the clock is stored
abbrev pub clock_gettime_clocked : ℕ → LxCall → LxCall
clock_gettime_clocked clock c = answered_with c 0 (piece (argument c 1) 16 ∷ []) (time_bytes clock)
