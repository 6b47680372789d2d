-- A signal that is delivered to a thread in no call. Source: signal(7), sigaction(2). That a signal which is ignored or dropped from
-- now on is pending nowhere any more is this project's own.
use Rattle.std.specs.Prelude.{Bool, ◌&&◌, if◌then◌else◌, Some, None}
use Rattle.linux_abi.specs.SigAction.{has_handler, resets}
use Rattle.linux_abi.specs.declared.signals.TheConstants.{SIG_DFL}
use Rattle.bsd_proc.specs.Actions.{acted}
use Rattle.bsd_proc.specs.Slots.{ProcessState}
use Rattle.bsd_proc.specs.declared.signals.Action.{Action}
use Rattle.bsd_proc.specs.declared.signals.Signal.{Signal}
use Rattle.bsd_thread.specs.declared.phase.Phase.TheVariants as phase
use Rattle.bsd_thread.specs.declared.thread.ThreadState.{ThreadState}

-- where it has a handler, its frame is to be stored, and the thread's mark ends; else the thread takes instructions
abbrev pub delivers : ThreadState → Action → Signal → ThreadState
delivers t a x =
    if has_handler a.handler then record t { phase = phase.Frame (record { signal = x; action = a }); granule = None }
    else record t { phase = phase.User }

-- SA_RESETHAND is set, and a handler is to run: then the handler is the default one from now on
abbrev pub is_reset : Action → Bool
is_reset a = has_handler a.handler && resets a.flags

abbrev pub resets_action : ProcessState → Action → Signal → ProcessState
resets_action p a x = if is_reset a then acted p x.sig (Some (record a { handler = SIG_DFL })) else p
