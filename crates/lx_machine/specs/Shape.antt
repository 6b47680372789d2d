-- Shape: how SVC enters a call, and what the call does then, one thing after the other. Source: syscall(2); the manual page of
-- each call.
use Rattle.std.specs.Prelude.{None, Option, Some, ℕ}
use Rattle.linux_abi.specs.declared.errno.LinuxErrno.{LinuxErrno}
use Rattle.lx_machine.specs.Calls.{answered_stage, first_refusal, refused}
use Rattle.lx_machine.specs.Clone.{birth_stage}
use Rattle.lx_machine.specs.Rules.{Rules}
use Rattle.lx_machine.specs.Table.{rules_of}
use Rattle.lx_machine.specs.declared.calls.LxCall.{LxCall}
use Rattle.lx_machine.specs.declared.calls.Restart.{Restart}
use Rattle.lx_machine.specs.declared.calls.Stage.{Stage}

-- ---- SVC: the first refusal that holds answers the call at once

abbrev pub entered_unless : ℕ → LxCall → Rules → Option LinuxErrno → LxCall
entered_unless sp c r (Some e) = refused c e
entered_unless sp c r None = record c { pieces = r.pieces sp c }

abbrev pub entered_by : ℕ → LxCall → Rules → LxCall
entered_by sp c r = entered_unless sp c r (first_refusal (r.refusals c))

-- a call as SVC enters it, where sp is this
abbrev pub entered : ℕ → LxCall → LxCall
entered sp c = entered_by sp c (rules_of c)

-- ---- what a call does next

-- with a result: a clone's child starts before it returns
abbrev pub finishing_stage : LxCall → Option ℕ → Stage
finishing_stage c None = answered_stage c c.held
finishing_stage c (Some slot) = birth_stage c

abbrev pub stage_with : LxCall → Option ℕ → Stage
stage_with c (Some n) = finishing_stage c c.child
stage_with c None = (rules_of c).stage c

abbrev pub stage_of : LxCall → Stage
stage_of c = stage_with c c.result

-- ---- how a call stands after a piece, what it blocks, and whether a signal lets it start again

-- the call behind whose bytes those of a piece have come, and one whose piece can't be read
abbrev pub fetched : LxCall → LxCall
fetched c = (rules_of c).fetched c

abbrev pub not_fetched : LxCall → LxCall
not_fetched c = (rules_of c).not_fetched c

-- the signals that it then blocks for its time
abbrev pub mask_of : LxCall → Option ℕ
mask_of c = (rules_of c).mask c

-- the call after a piece was stored, and one whose piece can't be written
abbrev pub written : LxCall → LxCall
written c = (rules_of c).written c

abbrev pub not_written : LxCall → LxCall
not_written c = (rules_of c).not_written c

-- whether it starts again after a signal has ended its wait: a transfer that has moved nothing and a futex wait without a timeout
-- where the signal's handler asks for it, and a wait for a lock always
abbrev pub restarts : LxCall → Restart
restarts c = (rules_of c).restarts c
