-- rt_sigaction. Source: sigaction(2), signal(7).
use Rattle.std.proofs.Math.Bool.{not}
use Rattle.std.specs.Prelude.{Bool, List, None, Option, Some, [], if◌then◌else◌, is_some, ℕ, ◌&&◌, ◌++◌, ◌==◌, ◌||◌, ◌∷◌}
use Rattle.linux_abi.specs.LinuxSig.{linux_signal_of, signal_number}
use Rattle.linux_abi.specs.declared.errno.LinuxErrno.{LinuxErrno}
use Rattle.linux_abi.specs.declared.signals.LinuxSig.{LinuxSig}
use Rattle.lx_machine.specs.Calls.{argument, low_argument, refused}
use Rattle.lx_machine.specs.Signal.{action_of, forgotten, is_ignored, with_action}
use Rattle.lx_machine.specs.SignalCalls.{answered_storing, fetch_then, is_no_set_size, optional_piece}
use Rattle.lx_machine.specs.Whole.{Whole, whole}
use Rattle.lx_machine.specs.declared.calls.LxCall.{LxCall}
use Rattle.lx_machine.specs.declared.calls.Piece.{Piece}
use Rattle.lx_machine.specs.declared.calls.Stage.{Stage}
use Rattle.lx_machine.specs.declared.signals.Action.{Action}
use Rattle.lx_machine.specs.declared.state.LinuxState.{LinuxState}
use Rattle.places.specs.Places.{bytes_of, number_at}
use Rattle.linux_abi.specs.declared.errno.LinuxErrno.TheVariants as errno
use Rattle.linux_abi.specs.declared.signals.LinuxSig.TheVariants as signal
use Rattle.lx_machine.specs.declared.calls.Stage.TheVariants as stage

-- struct sigaction: handler, flags, restorer, mask
abbrev pub action_bytes : Action → List ℕ
action_bytes a = bytes_of a.handler 8 ++ bytes_of a.flags 8 ++ bytes_of a.restorer 8 ++ bytes_of a.mask 8

abbrev pub action_in : List ℕ → Action
action_in bytes = record {
  handler = number_at bytes 0 8;
  flags = number_at bytes 8 8;
  restorer = number_at bytes 16 8;
  mask = number_at bytes 24 8;
}

-- ---- rt_sigaction(sig, new, old, size)

-- SIGKILL and SIGSTOP have no other action
abbrev pub has_fixed_action : ℕ → Bool
has_fixed_action n = n == signal_number signal.SIGKILL || n == signal_number signal.SIGSTOP

abbrev pub sigaction_refusals : LxCall → List (Bool × LinuxErrno)
sigaction_refusals c =
    (is_no_set_size (argument c 3), errno.EINVAL) ∷
    (not (is_some (linux_signal_of (low_argument c 0))), errno.EINVAL) ∷
    (not (argument c 1 == 0) && has_fixed_action (low_argument c 0), errno.EINVAL) ∷
    []

abbrev pub sigaction_pieces : LxCall → List Piece
sigaction_pieces c = optional_piece (argument c 1) 32

abbrev pub sigaction_stage : LxCall → Stage
sigaction_stage c = fetch_then stage.Effect c.pieces

-- the new action, where one is given
abbrev pub new_action : LxCall → Option Action
new_action c = if argument c 1 == 0 then None else Some (action_in c.bytes)

-- the actions after the call, the signal that is pending nowhere any more since it is ignored or dropped from now on, and the
-- call, which stores the action before
abbrev pub actions_with : LinuxSig → Option Action → List Action → List Action
actions_with sig None actions = actions
actions_with sig (Some a) actions = with_action actions sig a

abbrev pub forgets_with : LinuxSig → Option Action → Option LinuxSig
forgets_with sig None = None
forgets_with sig (Some a) = if is_ignored a sig then Some sig else None

abbrev pub sigaction_actions_of : Option LinuxSig → List Action → LxCall → List Action
sigaction_actions_of None actions c = actions
sigaction_actions_of (Some sig) actions c = actions_with sig (new_action c) actions

abbrev pub sigaction_forgets_of : Option LinuxSig → LxCall → Option LinuxSig
sigaction_forgets_of None c = None
sigaction_forgets_of (Some sig) c = forgets_with sig (new_action c)

abbrev pub sigaction_call_of : Option LinuxSig → List Action → LxCall → LxCall
sigaction_call_of None actions c = refused c errno.EINVAL
sigaction_call_of (Some sig) actions c = answered_storing c (argument c 2) (action_bytes (action_of actions sig))

abbrev pub sigaction_actions : List Action → LxCall → List Action
sigaction_actions actions c = sigaction_actions_of (linux_signal_of (low_argument c 0)) actions c

abbrev pub sigaction_forgets : LxCall → Option LinuxSig
sigaction_forgets c = sigaction_forgets_of (linux_signal_of (low_argument c 0)) c

abbrev pub sigaction_call : List Action → LxCall → LxCall
sigaction_call actions c = sigaction_call_of (linux_signal_of (low_argument c 0)) actions c

-- rt_sigaction: a signal that is ignored or dropped from now on is pending nowhere any more
abbrev pub sigaction_whole : LinuxState → LxCall → Whole
sigaction_whole L c = whole (forgotten (sigaction_forgets c) (record L { actions = sigaction_actions L.actions c })) (sigaction_call L.actions c)
