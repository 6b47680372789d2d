-- A thread that is back from its call, and one that takes a pending signal: the one that the process chooses, in the Linux machine.
use Rattle.std.proofs.Common.{◌≡◌, ℕ, Bool, true, not, ◌&&◌, List, map, Option, Some, None, option_map, sym, ap, ◌∙◌}
use Rattle.a64_model.specs.declared.regs.Regs.{Regs}
use Rattle.bsd_abi.specs.declared.signals.BsdSig.{BsdSig}
use Rattle.signal_map.specs.Signals.{signal_out_of}
use Rattle.signal_map.specs.Sets.{set_out_of}
use Rattle.lx_machine.specs.Delivery as lx
use Rattle.lx_machine.specs.Signal.{found_in, has_unblocked, listed}
use Rattle.lx_machine.specs.declared.signals.Action.{Action as LxAction}
use Rattle.lx_machine.specs.declared.signals.SigInfo.{SigInfo}
use Rattle.lx_machine.specs.declared.threads.LxThread.{LxThread}
use Rattle.bsd_proc.specs.Actions as bsd
use Rattle.bsd_proc.specs.Signals.{first_of, without}
use Rattle.bsd_proc.specs.Slots.{ProcessState, Slot, own_pending, pending_of, slot_at}
use Rattle.bsd_proc.specs.Taking.{choice, pending_for, without_first}
use Rattle.bsd_proc.specs.declared.signals.Action.{Action}
use Rattle.bsd_proc.specs.declared.signals.Signal.{Signal}
use Rattle.bsd_proc.specs.declared.signals.Target.{Target}
use Rattle.bsd_proc.specs.declared.signals.Target.TheVariants.{All, One}
use Rattle.bsd_thread.specs.Phases.{has_call}
use Rattle.bsd_thread.specs.Threads.{unmasked}
use Rattle.bsd_thread.specs.declared.phase.Phase.{Phase}
use Rattle.bsd_thread.specs.declared.phase.Phase.TheVariants as phase
use Rattle.bsd_thread.specs.declared.thread.ThreadState.{ThreadState}
use Rattle.threads_stand.specs.Delivering.{delivers, resets_action}
use Rattle.threads_stand.specs.Image.{linux_thread}
use Rattle.threads_stand.specs.Numbers.{linux_action, linux_info, linux_list}
use Rattle.threads_stand.proofs.Actions.{action_image, removed_own_image, removed_shared_image}
use Rattle.threads_stand.proofs.Signals.{Chosen, chosen_image, listed_image, unchosen_image}
use Rattle.threads_stand.proofs.Threads.{out_of_call_image, unmasked_image}
use Rattle.threads_stand.proofs.Users.{delivers_image, mark_after, resets_image}

-- ---- back from a call

-- with these registers, and with the mask that it has outside its call
abbrev pub back : ThreadState → Regs → ThreadState
back t regs = unmasked (record t { regs = regs; phase = phase.User })

pub back_image : (t : ThreadState) (p : Phase) (slot : Slot) (m : Option ℕ) (rest : ℕ) (regs : Regs) → has_call p ≡ true
    → linux_thread (back t regs) phase.User slot m 0 ≡ lx.unmasked (lx.out_of_call (linux_thread t p slot m rest) regs)
back_image t p slot m rest regs inside =
    unmasked_image (record t { regs = regs; phase = phase.User }) phase.User slot m 0
    ∙ ap (λ (z : LxThread). lx.unmasked z) (out_of_call_image t p slot m rest regs inside)

-- ---- the signal that is chosen

-- what is left of the lists
abbrev pub slot_left : Target → BsdSig → Slot → Slot
slot_left All sig slot = slot
slot_left (One s) sig slot = without_first sig slot

abbrev pub shared_left : Target → BsdSig → List Signal → List Signal
shared_left All sig xs = without sig xs
shared_left (One s) sig xs = xs

module _ (p : ProcessState) (s : ℕ) (slot : Slot) (there : slot_at p s ≡ Some slot) (t : ThreadState) (m : Option ℕ) where
  own_is : own_pending p s ≡ slot.pending
  own_is = ap pending_of there

  -- nothing is chosen: nothing may be taken
  pub none_taken : choice p s t.mask ≡ None → lx.has_none_to_take (linux_thread t phase.User slot m 0) (map linux_info p.pending) ≡ true
  none_taken none =
      let u = unchosen_image p s t.mask none in
      ap (λ (xs : List Signal). not (has_unblocked (set_out_of t.mask) (map linux_info xs)) && not (has_unblocked (set_out_of t.mask) (map linux_info p.pending))) (sym own_is)
      ∙ ap (λ (b : Bool). not b && not (has_unblocked (set_out_of t.mask) (map linux_info p.pending))) u.0
      ∙ ap (λ (b : Bool). not b) u.1

  -- a signal that was taken out of its list is delivered by its action
  delivered_is : (x : Signal) (now : Slot) (pending : List SigInfo)
      → lx.delivered (map linux_action p.actions) (linux_thread t phase.User now m 0) pending (linux_info x)
      ≡ lx.delivery (linux_thread (delivers t (bsd.action_of p.actions x.sig) x) (delivers t (bsd.action_of p.actions x.sig) x).phase now (mark_after (bsd.action_of p.actions x.sig) m) 0)
      pending (map linux_action (resets_action p (bsd.action_of p.actions x.sig) x).actions) (lx.fate_by (linux_action (bsd.action_of p.actions x.sig)) (signal_out_of x.sig))
  delivered_is x now pending =
      let a : Action = bsd.action_of p.actions x.sig in
      let fate = lx.fate_by (linux_action a) (signal_out_of x.sig) in
      ap (λ (z : LxAction). lx.delivered_by z (map linux_action p.actions) (linux_thread t phase.User now m 0) pending (linux_info x)) (action_image p.actions x.sig)
      ∙ ap (λ (z : LxThread). lx.delivery z pending (lx.actions_by (linux_action a) (map linux_action p.actions) (signal_out_of x.sig)) fate) (delivers_image t now m a x)
      ∙ ap (λ (z : List LxAction). lx.delivery (linux_thread (delivers t a x) (delivers t a x).phase now (mark_after a m) 0) pending z fate) (resets_image p a x)

  removed_is : (target : Target) (x : Signal)
      → lx.removed_from (linux_thread t phase.User slot m 0) (map linux_info p.pending) (linux_list target) (linux_info x)
      ≡ record { thread = linux_thread t phase.User (slot_left target x.sig slot) m 0; pending = map linux_info (shared_left target x.sig p.pending) }
  removed_is All x = removed_shared_image t phase.User slot m 0 p.pending x
  removed_is (One y) x = removed_own_image t phase.User slot m 0 (map linux_info p.pending) x

  -- the thread takes it
  pub record Takes (target : Target) (sig : BsdSig) : Type 0 where
    pub signal : Signal
    pub first : first_of sig (pending_for p target) ≡ Some signal
    pub kind : signal.sig ≡ sig
    pub is : lx.take_pending (map linux_action p.actions) (linux_thread t phase.User slot m 0) (map linux_info p.pending) (linux_list target) (signal_out_of sig)
        ≡ Some (lx.delivery
        (linux_thread (delivers t (bsd.action_of p.actions signal.sig) signal) (delivers t (bsd.action_of p.actions signal.sig) signal).phase
        (slot_left target signal.sig slot) (mark_after (bsd.action_of p.actions signal.sig) m) 0)
        (map linux_info (shared_left target signal.sig p.pending))
        (map linux_action (resets_action p (bsd.action_of p.actions signal.sig) signal).actions)
        (lx.fate_by (linux_action (bsd.action_of p.actions signal.sig)) (signal_out_of signal.sig)))

  pub takes_image : (target : Target) (sig : BsdSig) → choice p s t.mask ≡ Some (target, sig) → Takes target sig
  takes_image target sig chosen =
      let ch = chosen_image p s t.mask target sig chosen in
      record { signal = ch.signal; first = ch.first; kind = ch.kind; is = is ch }
    where
      found : (ch : Chosen p s t.mask target sig)
          → found_in (set_out_of t.mask) (listed (map linux_info slot.pending) (map linux_info p.pending) (linux_list target)) (signal_out_of sig) ≡ Some (linux_info ch.signal)
      found ch =
          ap (λ (xs : List Signal). found_in (set_out_of t.mask) (listed (map linux_info xs) (map linux_info p.pending) (linux_list target)) (signal_out_of sig)) (sym own_is)
          ∙ ap (λ (infos : List SigInfo). found_in (set_out_of t.mask) infos (signal_out_of sig)) (listed_image p s target ch.whose)
          ∙ ch.found

      is : (ch : Chosen p s t.mask target sig)
          → lx.take_pending (map linux_action p.actions) (linux_thread t phase.User slot m 0) (map linux_info p.pending) (linux_list target) (signal_out_of sig)
          ≡ Some (lx.delivery
          (linux_thread (delivers t (bsd.action_of p.actions ch.signal.sig) ch.signal) (delivers t (bsd.action_of p.actions ch.signal.sig) ch.signal).phase
          (slot_left target ch.signal.sig slot) (mark_after (bsd.action_of p.actions ch.signal.sig) m) 0)
          (map linux_info (shared_left target ch.signal.sig p.pending))
          (map linux_action (resets_action p (bsd.action_of p.actions ch.signal.sig) ch.signal).actions)
          (lx.fate_by (linux_action (bsd.action_of p.actions ch.signal.sig)) (signal_out_of ch.signal.sig)))
      is ch =
          ap (λ (o : Option SigInfo). option_map (lx.delivered_from (map linux_action p.actions) (linux_thread t phase.User slot m 0) (map linux_info p.pending) (linux_list target)) o) (found ch)
          ∙ ap (λ (r : lx.Removed). Some (lx.delivered (map linux_action p.actions) r.thread r.pending (linux_info ch.signal))) (removed_is target ch.signal)
          ∙ ap (λ (d : lx.Delivered). Some d) (delivered_is ch.signal (slot_left target ch.signal.sig slot) (map linux_info (shared_left target ch.signal.sig p.pending)))
