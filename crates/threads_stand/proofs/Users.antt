-- Threads outside a call: SVC and traps, and signals that are delivered.
use Rattle.std.proofs.Common.{◌≡◌, ℕ, ℤ, Bool, true, false, not, ◌&&◌, map, Option, Some, None, if◌then◌else◌, slice_index, take, refl, ap, ◌∙◌}
use Rattle.std.specs.Prelude.{slice_set}
use Rattle.a64_model.specs.declared.access.Next.TheVariants as next
use Rattle.bsd_abi.specs.declared.signals.BsdSig.{BsdSig}
use Rattle.bsd_abi.specs.BsdSig as bsd_sig
use Rattle.bsd_abi.specs.BsdSig.{place_of}
use Rattle.linux_abi.specs.SigAction.{has_handler, is_default}
use Rattle.linux_abi.specs.declared.signals.LinuxSig.{LinuxSig}
use Rattle.linux_abi.specs.declared.signals.TheConstants.{SIG_DFL}
use Rattle.signal_map.specs.Signals.{signal_in_of, signal_out_of}
use Rattle.signal_map.proofs.SignalMaps.{signal_out_of-in}
use Rattle.lx_machine.specs.Delivery as lx
use Rattle.lx_machine.specs.Instruction.{followed, with_mark}
use Rattle.lx_machine.specs.Signal.{with_action}
use Rattle.lx_machine.specs.Threads.{trapped, with_call}
use Rattle.lx_machine.specs.declared.calls.LxCall.{LxCall}
use Rattle.lx_machine.specs.declared.signals.Fate.{Fate}
use Rattle.bsd_proc.specs.Actions as bsd
use Rattle.bsd_proc.specs.Slots.{ProcessState, Slot}
use Rattle.bsd_proc.specs.declared.signals.Action.{Action}
use Rattle.bsd_proc.specs.declared.signals.Origin.TheVariants.{Address}
use Rattle.bsd_proc.specs.declared.signals.Signal.{Signal}
use Rattle.bsd_thread.specs.declared.phase.Phase.TheVariants as phase
use Rattle.bsd_thread.specs.declared.thread.ThreadState.{ThreadState}
use Rattle.threads_stand.specs.Delivering.{delivers, is_reset, resets_action}
use Rattle.threads_stand.specs.Entering.{called}
use Rattle.threads_stand.specs.Image.{linux_thread}
use Rattle.threads_stand.specs.Numbers.{linux_action, linux_info}
use Rattle.threads_stand.specs.Phases.{next_phase}
use Rattle.threads_stand.proofs.Actions.{with_action_image}
use Rattle.threads_stand.proofs.Calls.{entered_image}
use Rattle.threads_stand.proofs.Phases.{image_next}
use Rattle.threads_stand.proofs.Signals.{dropped_image}

-- ---- instructions

-- SVC
pub called_image : (t : ThreadState) (slot : Slot) (m : Option ℕ)
    → linux_thread (record t { granule = None; call = called t; phase = next_phase (called t) }) (next_phase (called t)) slot None 0
    ≡ followed (linux_thread t phase.User slot m 0) next.Call
called_image t slot m =
    image_next (record t { granule = None }) (called t) slot None
    ∙ ap (λ (z : LxCall). with_mark (with_call (linux_thread t phase.User slot m 0) z) None)
    (entered_image t.regs.sp (slice_index t.regs.x 8) (take 6 t.regs.x))

-- a trap, with the FreeBSD signal of its signal
abbrev pub trap_of : LinuxSig → ℤ → ℕ → Signal
trap_of sig code at = record { sig = signal_in_of sig; info = record { code = code; origin = Address at } }

pub trapped_image : (t : ThreadState) (slot : Slot) (m : Option ℕ) (sig : LinuxSig) (code : ℤ) (at : ℕ)
    → linux_thread t (phase.Forced (trap_of sig code at)) slot m 0 ≡ trapped (linux_thread t phase.User slot m 0) sig code at
trapped_image t slot m sig code at = ap (λ (z : LinuxSig). trapped (linux_thread t phase.User slot m 0) z code at) (signal_out_of-in sig)

-- ---- signals that are delivered

-- a mark ends where a handler is to run
abbrev pub mark_after : Action → Option ℕ → Option ℕ
mark_after a m = if has_handler a.handler then None else m

abbrev delivers_if : ThreadState → Action → Signal → Bool → ThreadState
delivers_if t a x b =
    if b then record t { phase = phase.Frame (record { signal = x; action = a }); granule = None } else record t { phase = phase.User }

pub delivers_image : (t : ThreadState) (slot : Slot) (m : Option ℕ) (a : Action) (x : Signal)
    → lx.thread_by (linux_action a) (linux_thread t phase.User slot m 0) (linux_info x)
    ≡ linux_thread (delivers t a x) (delivers t a x).phase slot (mark_after a m) 0
delivers_image t slot m a x = by (has_handler a.handler)
  where
    by : (b : Bool)
        → (if b then lx.handled (linux_thread t phase.User slot m 0) (linux_info x) (linux_action a) else linux_thread t phase.User slot m 0)
        ≡ linux_thread (delivers_if t a x b) (delivers_if t a x b).phase slot (if b then None else m) 0
    by true = refl
    by false = refl

-- the actions then
pub resets_image : (p : ProcessState) (a : Action) (x : Signal)
    → lx.actions_by (linux_action a) (map linux_action p.actions) (signal_out_of x.sig) ≡ map linux_action (resets_action p a x).actions
resets_image p a x = by (is_reset a)
  where
    kept : (b : Bool) → map linux_action (slice_set p.actions (place_of x.sig) (record a { handler = SIG_DFL }))
        ≡ map linux_action (if b then bsd.forgotten x.sig (bsd.with_action p x.sig (record a { handler = SIG_DFL })) else bsd.with_action p x.sig (record a { handler = SIG_DFL })).actions
    kept true = refl
    kept false = refl

    by : (b : Bool)
        → (if b then with_action (map linux_action p.actions) (signal_out_of x.sig) (lx.reset (linux_action a)) else map linux_action p.actions)
        ≡ map linux_action (if b then bsd.acted p x.sig (Some (record a { handler = SIG_DFL })) else p).actions
    by false = refl
    by true =
        with_action_image p.actions x.sig (record a { handler = SIG_DFL }) ∙ kept (bsd.is_ignored (record a { handler = SIG_DFL }) x.sig)

-- and what follows: which signal ends the guest, and which is pending nowhere any more
abbrev fate_as : Action → BsdSig → Bool → Fate
fate_as a sig dropped = record {
  ends = if is_default a.handler && not dropped then Some (signal_out_of sig) else None;
  forgets = if is_reset a && dropped then Some (signal_out_of sig) else None;
}

pub fate_image : (a : Action) (sig : BsdSig) → lx.fate_by (linux_action a) (signal_out_of sig) ≡ record {
  ends = if is_default a.handler && not (bsd_sig.is_dropped_by_default sig) then Some (signal_out_of sig) else None;
  forgets = if is_reset a && bsd_sig.is_dropped_by_default sig then Some (signal_out_of sig) else None;
}
fate_image a sig = ap (fate_as a sig) (dropped_image sig)
