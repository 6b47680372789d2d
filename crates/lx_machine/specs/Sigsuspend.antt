-- rt_sigsuspend. Source: sigsuspend(2).
use Rattle.std.specs.Prelude.{Bool, List, [], ◌∷◌}
use Rattle.linux_abi.specs.declared.errno.LinuxErrno.{LinuxErrno}
use Rattle.lx_machine.specs.Calls.{argument}
use Rattle.lx_machine.specs.Pieces.{piece}
use Rattle.lx_machine.specs.SignalCalls.{fetch_then, is_no_set_size}
use Rattle.lx_machine.specs.declared.calls.LxCall.{LxCall}
use Rattle.lx_machine.specs.declared.calls.Piece.{Piece}
use Rattle.lx_machine.specs.declared.calls.Stage.{Stage}
use Rattle.linux_abi.specs.declared.errno.LinuxErrno.TheVariants as errno
use Rattle.lx_machine.specs.declared.calls.Stage.TheVariants as stage

-- ---- rt_sigsuspend(set, size)

abbrev pub sigsuspend_refusals : LxCall → List (Bool × LinuxErrno)
sigsuspend_refusals c = (is_no_set_size (argument c 1), errno.EINVAL) ∷ []

abbrev pub sigsuspend_pieces : LxCall → List Piece
sigsuspend_pieces c = piece (argument c 0) 8 ∷ []

-- the mask is fetched, and then the call waits for a signal
abbrev pub sigsuspend_stage : LxCall → Stage
sigsuspend_stage c = fetch_then stage.Rest c.pieces
