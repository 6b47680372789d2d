-- The step that a label names of a thread that is taken out of its place, and of one whose call is taken out of it.
use Rattle.std.specs.Prelude.{Bool, true, false, if◌then◌else◌, Option, Some, None}
use Rattle.lx_machine.specs.Step.{clock, fetch, hold, leave, give_back, mark, move, pi_lock, pi_unlock, queue, release, requeue, start, store, wake_op}
use Rattle.lx_machine.specs.Threads.{InCall, OfThread, has_no_thread}
use Rattle.lx_machine.specs.declared.calls.LxCall.{LxCall}
use Rattle.lx_machine.specs.declared.calls.Stage.{Stage}
use Rattle.lx_machine.specs.declared.label.Label.{Label}
use Rattle.lx_machine.specs.declared.label.Label.TheVariants as label
use Rattle.lx_machine.specs.declared.state.LinuxState.{LinuxState}
use Rattle.lx_machine.specs.declared.threads.LxThread.{LxThread}
use Rattle.lx_machine.specs.declared.calls.Stage.TheVariants as stage
use Rattle.lx_machine.specs.Exit.{exited}
use Rattle.lx_machine.specs.Shape.{stage_of}
use Rattle.lx_machine.specs.Delivery.{kill, return, take}
use Rattle.lx_machine.specs.SignalFrame.{frame}
use Rattle.lx_machine.specs.Table.{rules_of}
use Rattle.lx_call_steps.specs.Effects.{own_effect_at}
use Rattle.lx_step.specs.Wholes.{whole_part}
use Rattle.lx_machine.specs.Waits.{expire, interrupt, resume}

-- no step
abbrev pub no_step : Stage → InCall
no_step st L s t c = None

-- Effect of a call of all threads
abbrev pub whole_effect_at : Stage → InCall
whole_effect_at stage.Effect L s t c = whole_part (rules_of c).effect L s t c
whole_effect_at _ L s t c = None

-- the step of a thread in a call that a label names, where the call goes on
abbrev pub call_step : Label → Stage → InCall
call_step (label.Fetch s) = fetch
call_step (label.Store s) = store
call_step (label.Hold s) = hold
call_step (label.Drop s) = give_back
call_step (label.Effect s short) = own_effect_at short
call_step (label.Move s picks) = move picks
call_step (label.Clock s) = clock
call_step (label.Queue s) = queue
call_step (label.Requeue s) = requeue
call_step (label.WakeOp s) = wake_op
call_step (label.Mark s) = mark
call_step (label.Release s) = release
call_step (label.PiLock s) = pi_lock
call_step (label.PiUnlock s) = pi_unlock
call_step (label.Resume s) = resume
call_step (label.Expire s) = expire
call_step (label.Interrupt s list sig) = interrupt list sig
call_step (label.Start s) = start
call_step (label.Leave s) = leave
call_step _ = no_step

-- the step of a thread that a label names, where the thread goes on
abbrev pub no_step_of : OfThread
no_step_of L s t = None

abbrev pub thread_step : Label → OfThread
thread_step (label.Return s named) = return named
thread_step (label.Take s list sig) = take list sig
thread_step (label.Frame s) = frame
thread_step (label.Kill s) = kill
thread_step _ = no_step_of

-- Gone comes next
abbrev pub is_gone_stage : Stage → Bool
is_gone_stage stage.Gone = true
is_gone_stage _ = false

abbrev pub is_gone_in : Option LxCall → Bool
is_gone_in None = false
is_gone_in (Some c) = is_gone_stage (stage_of c)

abbrev pub is_gone : LxThread → Bool
is_gone t = is_gone_in t.call

-- the state after a thread is gone: the last one's code is the guest's
abbrev pub after_gone_in : LinuxState → Option LxCall → LinuxState
after_gone_in L None = L
after_gone_in L (Some c) = if has_no_thread L.threads then exited L c else L

abbrev pub after_gone : LinuxState → LxThread → LinuxState
after_gone L t = after_gone_in L t.call
