-- How a thread takes a signal, and how a call returns: Return, Take and Kill. Source: signal(7), sigaction(2), sigprocmask(2).
use Rattle.std.proofs.Math.Bool.{not}
use Rattle.std.specs.Option.{option_map}
use Rattle.std.specs.Prelude.{Bool, Err, List, None, Ok, Option, Result, Some, false, if◌then◌else◌, slice_set, true, ℕ, ℤ, ◌%◌, ◌&&◌, ◌+◌, ◌-◌, ◌==◌, ◌^◌, ◌||◌, ◌≡◌}
use Rattle.a64_model.specs.declared.regs.Regs.{Regs}
use Rattle.linux_abi.specs.LinuxSig.{is_dropped_by_default, signal_number}
use Rattle.linux_abi.specs.SigAction.{has_handler, is_default, resets, restarts_calls}
use Rattle.linux_abi.specs.declared.signals.LinuxSig.{LinuxSig}
use Rattle.linux_abi.specs.declared.signals.TheConstants.{SEGV_ACCERR, SEGV_MAPERR, SIG_DFL}
use Rattle.lx_machine.specs.Calls.{argument}
use Rattle.lx_machine.specs.Lists.{bind}
use Rattle.lx_machine.specs.Shape.{restarts, stage_of}
use Rattle.lx_machine.specs.Signal.{action_of, forgotten, found_in, has_signal, has_unblocked, is_ignored, listed, with_action, without_signal}
use Rattle.lx_machine.specs.Threads.{OfThread, is_user, with_thread}
use Rattle.lx_machine.specs.declared.calls.LxCall.{LxCall}
use Rattle.lx_machine.specs.declared.calls.Restart.{Restart}
use Rattle.lx_machine.specs.declared.calls.Restart.TheVariants as restart
use Rattle.lx_machine.specs.declared.calls.Stage.{Stage}
use Rattle.lx_machine.specs.declared.label.PendingList.{PendingList}
use Rattle.lx_machine.specs.declared.label.PendingList.TheVariants.{Own, Shared}
use Rattle.lx_machine.specs.declared.refusal.LxRefusal.{LxRefusal}
use Rattle.lx_machine.specs.declared.refusal.LxRefusal.TheVariants.{NoMemory, NoStep}
use Rattle.lx_machine.specs.declared.signals.Action.{Action}
use Rattle.lx_machine.specs.declared.signals.Fate.{Fate}
use Rattle.lx_machine.specs.declared.signals.Origin.{Origin}
use Rattle.lx_machine.specs.declared.signals.Origin.TheVariants.{Address, Sender}
use Rattle.lx_machine.specs.declared.signals.SigInfo.{SigInfo}
use Rattle.lx_machine.specs.declared.state.LinuxState.{LinuxState}
use Rattle.lx_machine.specs.declared.threads.GuestEnd.TheVariants.{Killed}
use Rattle.lx_machine.specs.declared.threads.LxThread.{LxThread}
use Rattle.lx_memory.specs.Queries.{all_mapped}
use Rattle.page_store.specs.Pages.{Pages}
use Rattle.linux_abi.specs.declared.signals.LinuxSig.TheVariants as signal
use Rattle.lx_machine.specs.declared.calls.Stage.TheVariants as stage
use Rattle.places.specs.Places as place

-- ---- a thread that takes a signal

-- the thread, the shared pending signals and the actions after such a step, the signal that ends the guest, if one does, and
-- the signal that is to be pending nowhere any more, if there is one
pub record Delivered : Type 0 where
  pub thread : LxThread
  pub pending : List SigInfo
  pub actions : List Action
  pub fate : Fate

abbrev pub no_fate : Fate
no_fate = record { ends = None; forgets = None }

abbrev pub ends_by : LinuxSig → Fate
ends_by sig = record { ends = Some sig; forgets = None }

abbrev pub delivery : LxThread → List SigInfo → List Action → Fate → Delivered
delivery t pending actions fate = record { thread = t; pending = pending; actions = actions; fate = fate }

-- the thread is to get the frame of a handler, by the action as it is now. That ends its mark
abbrev pub handled : LxThread → SigInfo → Action → LxThread
handled t info a = record t { taken = Some (record { info = info; action = a }); mark = None }

-- SA_RESETHAND is set, and a handler is to run
abbrev pub is_reset : Action → Bool
is_reset a = has_handler a.handler && resets a.flags

-- the action with the default handler; its flags, restorer and mask are as they were
abbrev pub reset : Action → Action
reset a = record a { handler = SIG_DFL }

-- the thread, the actions, and what follows, where a signal is delivered by this action: it ends the guest or is dropped by
-- default, or is ignored, or its handler is to run. SA_RESETHAND then makes the handler the default one; where that one
-- drops the signal, it is pending nowhere any more
abbrev pub thread_by : Action → LxThread → SigInfo → LxThread
thread_by a t info = if has_handler a.handler then handled t info a else t

abbrev pub actions_by : Action → List Action → LinuxSig → List Action
actions_by a actions sig = if is_reset a then with_action actions sig (reset a) else actions

abbrev pub fate_by : Action → LinuxSig → Fate
fate_by a sig = record {
  ends = if is_default a.handler && not (is_dropped_by_default sig) then Some sig else None;
  forgets = if is_reset a && is_dropped_by_default sig then Some sig else None;
}

-- a signal that is delivered to a thread
abbrev pub delivered_by : Action → List Action → LxThread → List SigInfo → SigInfo → Delivered
delivered_by a actions t pending info = delivery (thread_by a t info) pending (actions_by a actions info.signal) (fate_by a info.signal)

abbrev pub delivered : List Action → LxThread → List SigInfo → SigInfo → Delivered
delivered actions t pending info = delivered_by (action_of actions info.signal) actions t pending info

-- the thread and the shared pending signals once a signal has left its list
pub record Removed : Type 0 where
  pub thread : LxThread
  pub pending : List SigInfo

abbrev pub removed_from : LxThread → List SigInfo → PendingList → SigInfo → Removed
removed_from t pending Own info = record { thread = record t { pending = without_signal info.signal t.pending }; pending = pending }
removed_from t pending Shared info = record { thread = t; pending = without_signal info.signal pending }

-- the signal leaves its list, and is delivered
abbrev pub delivered_from : List Action → LxThread → List SigInfo → PendingList → SigInfo → Delivered
delivered_from actions t pending list info =
    let r = removed_from t pending list info in delivered actions r.thread r.pending info

-- the thread takes this signal, which it may take
abbrev pub take_pending : List Action → LxThread → List SigInfo → PendingList → LinuxSig → Option Delivered
take_pending actions t pending list sig = option_map (delivered_from actions t pending list) (found_in t.mask (listed t.pending pending list) sig)

-- ---- Return

-- the registers after a call with this result, and those with which it starts again: pc is that of its SVC, and x0 its
-- first argument
abbrev pub with_result : Regs → ℕ → Regs
with_result regs n = record regs { x = slice_set regs.x 0 n }

abbrev pub restarted : Regs → ℕ → Regs
restarted regs first = record regs { x = slice_set regs.x 0 first; pc = (regs.pc + (2 ^ 64 - 4)) % 2 ^ 64 }

abbrev pub regs_after : Bool → Regs → ℕ → ℕ → Regs
regs_after again regs first n = if again then restarted regs first else with_result regs n

-- the thread in no call, with these registers
abbrev pub out_of_call : LxThread → Regs → LxThread
out_of_call t regs = record t { regs = regs; call = None }

-- the mask that a call gives back when it returns
abbrev pub own_mask : ℕ → Option ℕ → ℕ
own_mask mask None = mask
own_mask mask (Some saved) = saved

abbrev pub unmasked : LxThread → LxThread
unmasked t = record t { mask = own_mask t.mask t.saved_mask; saved_mask = None }

-- no signal may be taken
abbrev pub has_none_to_take : LxThread → List SigInfo → Bool
has_none_to_take t pending = not (has_unblocked t.mask t.pending) && not (has_unblocked t.mask pending)

-- the mask is given back, and a named signal is taken; none is named exactly where none may be taken
abbrev pub taken_at_return : List Action → LxThread → List SigInfo → Option (PendingList × LinuxSig) → Option Delivered
taken_at_return actions t pending (Some named) = take_pending actions (unmasked t) pending named.0 named.1
taken_at_return actions t pending None =
    if has_none_to_take (unmasked t) pending then Some (delivery (unmasked t) pending actions no_fate) else None

-- a call whose wait was ended by a signal that is delivered by this action starts again
abbrev pub starts_again : Restart → Action → Bool
starts_again restart.Never a = false
starts_again restart.AsAsked a = has_handler a.handler && restarts_calls a.flags
starts_again restart.Always a = true

-- it starts again where the signal isn't to be delivered any more
abbrev pub may_start_again : Restart → Bool
may_start_again restart.Never = false
may_start_again _ = true

-- a signal that is kept and is still to be delivered is delivered with the call's mask, and none is named
abbrev pub kept_delivered : Restart → List Action → LxThread → List SigInfo → SigInfo → ℕ → ℕ → Option (PendingList × LinuxSig) → Option Delivered
kept_delivered restarts_so actions t pending info first n (Some named) = None
kept_delivered restarts_so actions t pending info first n None =
    Some (delivered actions (out_of_call t (regs_after (starts_again restarts_so (action_of actions info.signal)) t.regs first n)) pending info)

-- Return of a call with this first argument and this result. Where the signal that ended its wait isn't to be delivered any
-- more, it starts again where it can
abbrev pub returned : Restart → List Action → LxThread → List SigInfo → ℕ → ℕ → Option (PendingList × LinuxSig) → Option SigInfo → Option Delivered
returned restarts_so actions t pending first n named None = taken_at_return actions (out_of_call t (with_result t.regs n)) pending named
returned restarts_so actions t pending first n named (Some info) =
    if is_ignored (action_of actions info.signal) info.signal
    then taken_at_return actions (out_of_call t (regs_after (may_start_again restarts_so) t.regs first n)) pending named
    else kept_delivered restarts_so actions t pending info first n named

-- Return, of a thread whose call is at this stage; `restarts_so`: whether the call starts again after a signal
abbrev pub return_as : Restart → List Action → List SigInfo → Option (PendingList × LinuxSig) → LxThread → LxCall → Stage → Option Delivered
return_as restarts_so actions pending named t c stage.Return = bind c.result (λ n. returned restarts_so actions t pending (argument c 0) n named c.kept)
return_as restarts_so actions pending named t c _ = None

abbrev pub return_thread : Restart → Stage → List Action → List SigInfo → Option (PendingList × LinuxSig) → LxThread → Option Delivered
return_thread restarts_so stage actions pending named t = bind t.call (λ c. return_as restarts_so actions pending named t c stage)

-- ---- Interrupt

-- the call keeps the signal that ended its wait, with its information
abbrev pub with_kept : LxCall → SigInfo → LxCall
with_kept c info = record c { kept = Some info }

-- ---- Take

-- the code of a trap: that of SIGSEGV tells whether the address's page is mapped now
abbrev pub segv_code : Pages → Origin → ℤ → ℤ
segv_code pages (Sender pid uid) code = code
segv_code pages (Address at) code = if all_mapped pages (place.page at) 1 then SEGV_ACCERR else SEGV_MAPERR

abbrev pub judged : Pages → SigInfo → SigInfo
judged pages info = record info { code = if signal_number info.signal == signal_number signal.SIGSEGV then segv_code pages info.origin info.code else info.code }

-- the signal of a trap: where it is blocked, or its action is the default one or to ignore it, it ends the guest
abbrev pub is_fatal : ℕ → Action → LinuxSig → Bool
is_fatal mask a sig = has_signal mask sig || not (has_handler a.handler)

-- Take of a trapped thread, by the action of its trap's signal: the trap is gone, and its handler is to run
abbrev pub forced_by : Action → List Action → Pages → LxThread → List SigInfo → SigInfo → Delivered
forced_by a actions pages t pending trap =
    if is_fatal t.mask a trap.signal then delivery t pending actions (ends_by trap.signal)
    else delivered_by a actions (record t { trap = None }) pending (judged pages trap)

abbrev pub forced : List Action → Pages → LxThread → List SigInfo → SigInfo → LinuxSig → Option Delivered
forced actions pages t pending trap sig =
    if signal_number trap.signal == signal_number sig then Some (forced_by (action_of actions trap.signal) actions pages t pending trap) else None

-- of a trapped thread the signal of its trap, named as its own, and else of a thread in no call a pending signal
abbrev pub take_by : List Action → Pages → List SigInfo → LxThread → PendingList → LinuxSig → Option SigInfo → Option Delivered
take_by actions pages pending t Own sig (Some trap) = forced actions pages t pending trap sig
take_by actions pages pending t Shared sig (Some trap) = None
take_by actions pages pending t list sig None = if is_user t then take_pending actions t pending list sig else None

abbrev pub take_thread : List Action → Pages → List SigInfo → PendingList → LinuxSig → LxThread → Option Delivered
take_thread actions pages pending list sig t = take_by actions pages pending t list sig t.trap

-- ---- what functions compute

-- what becomes of a thread, of the shared signals and of the actions, and what follows
abbrev pub Gives : Delivered → LxThread → List SigInfo → List Action → Fate → Type 0
Gives d t' pending' actions' fate = (t' ≡ d.thread) × (pending' ≡ d.pending) × (actions' ≡ d.actions) × (fate ≡ d.fate)

-- the same of a step: where there is none, nothing changes; memory is never wanting
abbrev pub Delivers : Option Delivered → LxThread → LxThread → List SigInfo → List SigInfo → List Action → List Action → Result Fate LxRefusal → Type 0
Delivers (Some d) t t' pending pending' actions actions' (Ok fate) = Gives d t' pending' actions' fate
Delivers None t t' pending pending' actions actions' (Ok fate) = ⊥
Delivers (Some d) t t' pending pending' actions actions' (Err NoStep) = ⊥
Delivers None t t' pending pending' actions actions' (Err NoStep) = (t' ≡ t) × (pending' ≡ pending) × (actions' ≡ actions)
Delivers o t t' pending pending' actions actions' (Err NoMemory) = ⊥

-- a signal ends the guest, if one does
abbrev pub killed_by : Option LinuxSig → LinuxState → LinuxState
killed_by None L = L
killed_by (Some sig) L = record L { end = Some (Killed sig) }

-- the state after a step by which the thread in slot s may take a signal
abbrev pub delivered_in : LinuxState → ℕ → Delivered → LinuxState
delivered_in L s d =
    forgotten d.fate.forgets (with_thread (killed_by d.fate.ends (record L { pending = d.pending; actions = d.actions })) s d.thread)

-- Return: the result is in x0, or the call starts again; and the thread takes the kept signal, or the named one
abbrev pub return : Option (PendingList × LinuxSig) → LinuxState → ℕ → LxThread → Option LinuxState
return named L s t =
    option_map (delivered_in L s) (bind t.call (λ c. return_as (restarts c) L.actions L.pending named t c (stage_of c)))

-- Take: of a trapped thread the signal of its trap, and of a thread in no call a pending one
abbrev pub take : PendingList → LinuxSig → LinuxState → ℕ → LxThread → Option LinuxState
take list sig L s t = option_map (delivered_in L s) (take_thread L.actions L.space.pages L.pending list sig t)

-- ---- Kill

abbrev pub is_kill : Stage → Bool
is_kill stage.Kill = true
is_kill _ = false

-- what the call does next is Kill
abbrev pub kills : Option LxCall → Bool
kills None = false
kills (Some c) = is_kill (stage_of c)

-- Kill is to follow: the thread's frame could not be stored, or its call could not fetch one
abbrev pub kill_follows : LxThread → Bool
kill_follows t = t.is_doomed || kills t.call

-- Kill: SIGSEGV ends the guest
abbrev pub kill : OfThread
kill L s t = if kill_follows t then Some (with_thread (killed_by (Some signal.SIGSEGV) L) s t) else None
