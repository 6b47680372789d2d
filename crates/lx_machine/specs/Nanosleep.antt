-- nanosleep. Source: nanosleep(2).
use Rattle.std.specs.Prelude.{List, None, Option, Some, [], if◌then◌else◌, ℕ, ◌==◌, ◌∷◌}
use Rattle.linux_abi.specs.LinuxErrno.{answer_of}
use Rattle.lx_machine.specs.Calls.{answered, answered_with, argument, refused}
use Rattle.lx_machine.specs.Pieces.{piece}
use Rattle.lx_machine.specs.Time.{add_time, duration, has_passed, rest_of, time_bytes, with_deadline}
use Rattle.lx_machine.specs.declared.calls.LxCall.{LxCall}
use Rattle.lx_machine.specs.declared.calls.Piece.{Piece}
use Rattle.lx_machine.specs.declared.calls.Stage.{Stage}
use Rattle.linux_abi.specs.declared.errno.LinuxErrno.TheVariants as errno
use Rattle.lx_machine.specs.declared.calls.Stage.TheVariants as stage

-- ---- nanosleep(2)

-- its duration is fetched
abbrev pub nanosleep_pieces : LxCall → List Piece
nanosleep_pieces c = piece (argument c 0) 16 ∷ []

-- its deadline is set, and then it waits
abbrev pub sleeping : Option ℕ → Stage
sleeping None = stage.Clock
sleeping (Some deadline) = stage.Rest

abbrev pub sleep_from : LxCall → List Piece → Stage
sleep_from c [] = sleeping c.deadline
sleep_from c (p ∷ ps) = stage.Fetch p

abbrev pub nanosleep_stage : LxCall → Stage
nanosleep_stage c = sleep_from c c.pieces

-- the deadline is the clock plus the duration
abbrev pub nanosleep_clocked : ℕ → LxCall → LxCall
nanosleep_clocked clock c = with_deadline c (add_time clock (duration c.bytes))

-- it ends at its deadline
abbrev pub nanosleep_expired : ℕ → LxCall → Option LxCall
nanosleep_expired clock c = if has_passed clock c.deadline then Some (answered c 0) else None

-- a signal ends it: what was left is stored where it is asked for
abbrev pub nanosleep_interrupted : ℕ → LxCall → LxCall
nanosleep_interrupted clock c =
    if argument c 1 == 0 then refused c errno.EINTR
    else answered_with c (answer_of errno.EINTR) (piece (argument c 1) 16 ∷ []) (time_bytes (rest_of clock c.deadline))
