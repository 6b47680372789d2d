-- Actions, what is sent to a list, and what is forgotten, in the image.
use Rattle.std.proofs.Common.{◌≡◌, ℕ, Bool, true, false, not, ◌&&◌, ◌||◌, ◌==◌, ◌-◌, List, [], ◌∷◌, ◌++◌, map, Option, Some, if◌then◌else◌, refl, sym, ap, ◌∙◌}
use Rattle.std.specs.List.{list_any}
use Rattle.std.specs.Prelude.{slice_index_or, slice_set}
use Rattle.bsd_abi.specs.declared.signals.BsdSig.{BsdSig}
use Rattle.bsd_abi.specs.BsdSig as bsd_sig
use Rattle.bsd_abi.specs.BsdSig.{place_of}
use Rattle.linux_abi.specs.LinuxSig.{signal_number}
use Rattle.signal_map.specs.Signals.{signal_out_of}
use Rattle.signal_map.specs.Sets.{set_out_of}
use Rattle.signal_map.proofs.SetMaps.{signal_number-out}
use Rattle.lx_machine.specs.Delivery.{removed_from}
use Rattle.lx_machine.specs.Signal as lx
use Rattle.lx_machine.specs.declared.label.PendingList.TheVariants.{Own, Shared}
use Rattle.lx_machine.specs.declared.signals.Action.{Action as LxAction}
use Rattle.lx_machine.specs.declared.signals.SigInfo.{SigInfo}
use Rattle.lx_machine.specs.declared.threads.LxThread.{LxThread}
use Rattle.bsd_proc.specs.Actions as bsd
use Rattle.bsd_proc.specs.Sending.{added, is_there, with_added}
use Rattle.bsd_proc.specs.Signals.{without}
use Rattle.bsd_proc.specs.Slots.{Slot, default_action}
use Rattle.bsd_proc.specs.Taking.{without_first}
use Rattle.bsd_proc.specs.declared.signals.Action.{Action}
use Rattle.bsd_proc.specs.declared.signals.Signal.{Signal}
use Rattle.bsd_thread.specs.declared.phase.Phase.{Phase}
use Rattle.bsd_thread.specs.declared.thread.ThreadState.{ThreadState}
use Rattle.threads_stand.specs.Image.{linux_thread}
use Rattle.threads_stand.specs.Numbers.{linux_action, linux_info}
use Rattle.threads_stand.proofs.Mapped.{index_mapped, set_mapped, snoc_mapped}
use Rattle.threads_stand.proofs.Signals.{dropped_image, real_time_image, there_image, without_all_image, without_image}

-- ---- actions by their signals: both machines have them in the order of Linux's numbers

pub default_image : linux_action default_action ≡ lx.default_action
unfolding set_out_of
default_image = refl

pub action_image : (actions : List Action) (sig : BsdSig)
    → lx.action_of (map linux_action actions) (signal_out_of sig) ≡ linux_action (bsd.action_of actions sig)
action_image actions sig =
    ap (λ (d : LxAction). slice_index_or (map linux_action actions) (signal_number (signal_out_of sig) - 1) d) (sym default_image)
    ∙ ap (λ (n : ℕ). slice_index_or (map linux_action actions) (n - 1) (linux_action default_action)) (signal_number-out sig)
    ∙ index_mapped linux_action actions (place_of sig) default_action

pub with_action_image : (actions : List Action) (sig : BsdSig) (a : Action)
    → lx.with_action (map linux_action actions) (signal_out_of sig) (linux_action a) ≡ map linux_action (slice_set actions (place_of sig) a)
with_action_image actions sig a =
    ap (λ (n : ℕ). slice_set (map linux_action actions) (n - 1) (linux_action a)) (signal_number-out sig)
    ∙ set_mapped linux_action actions (place_of sig) a

-- whether an action ignores or drops a signal
pub ignored_image : (a : Action) (sig : BsdSig) → lx.is_ignored (linux_action a) (signal_out_of sig) ≡ bsd.is_ignored a sig
ignored_image a sig = ap (λ (b : Bool). a.handler == 1 || (a.handler == 0 && b)) (dropped_image sig)

-- ---- what is sent

already_image : (x : Signal) (xs : List Signal) → lx.is_there (linux_info x) (map linux_info xs) ≡ is_there x xs
already_image x xs =
    ap (λ (b : Bool). not b && list_any (lx.is_of (signal_out_of x.sig)) (map linux_info xs)) (real_time_image x.sig)
    ∙ ap (λ (b : Bool). not (bsd_sig.is_real_time x.sig) && b) (there_image x.sig xs)

ignores_image : (actions : List Action) (x : Signal)
    → lx.is_ignored (lx.action_of (map linux_action actions) (signal_out_of x.sig)) (signal_out_of x.sig)
    ≡ bsd.is_ignored (bsd.action_of actions x.sig) x.sig
ignores_image actions x =
    ap (λ (a : LxAction). lx.is_ignored a (signal_out_of x.sig)) (action_image actions x.sig)
    ∙ ignored_image (bsd.action_of actions x.sig) x.sig

-- a list after a signal is sent to it: where its action doesn't ignore it, it is added
pub sent_image : (actions : List Action) (x : Signal) (xs : List Signal)
    → lx.sent (map linux_action actions) (linux_info x) (map linux_info xs)
    ≡ map linux_info (if bsd.is_ignored (bsd.action_of actions x.sig) x.sig then xs else added x xs)
sent_image actions x xs =
    ap (λ (b : Bool). if b || lx.is_there (linux_info x) (map linux_info xs) then map linux_info xs else (map linux_info xs ++ linux_info x ∷ [])) (ignores_image actions x)
    ∙ ap (λ (b : Bool). if bsd.is_ignored (bsd.action_of actions x.sig) x.sig || b then map linux_info xs else (map linux_info xs ++ linux_info x ∷ [])) (already_image x xs)
    ∙ by (bsd.is_ignored (bsd.action_of actions x.sig) x.sig) (is_there x xs)
  where
    by : (i t : Bool)
        → (if i || t then map linux_info xs else (map linux_info xs ++ linux_info x ∷ []))
        ≡ map linux_info (if i then xs else (if t then xs else xs ++ x ∷ []))
    by true t = refl
    by false true = refl
    by false false = snoc_mapped linux_info xs x

-- ---- what is pending for a thread

module _ (t : ThreadState) (p : Phase) (slot : Slot) (m : Option ℕ) (rest : ℕ) where
  -- the thread with these pending signals
  abbrev pending_as : List SigInfo → LxThread
  pending_as infos = record (linux_thread t p slot m rest) { pending = infos }

  -- a signal is forgotten
  pub forgotten_image : (sig : BsdSig)
      → lx.forgotten_at (signal_out_of sig) (Some (linux_thread t p slot m rest))
      ≡ Some (linux_thread t p (bsd.without_sig sig slot) m rest)
  forgotten_image sig =
      ap (λ (infos : List SigInfo). Some (record (linux_thread t p slot m rest) { pending = infos })) (without_all_image sig slot.pending)

  -- a signal is sent
  pub sent_at_image : (actions : List Action) (x : Signal)
      → lx.sent_at (map linux_action actions) (linux_info x) (Some (linux_thread t p slot m rest))
      ≡ Some (linux_thread t p (if bsd.is_ignored (bsd.action_of actions x.sig) x.sig then slot else with_added x slot) m rest)
  sent_at_image actions x =
      ap (λ (infos : List SigInfo). Some (record (linux_thread t p slot m rest) { pending = infos })) (sent_image actions x slot.pending)
      ∙ by (bsd.is_ignored (bsd.action_of actions x.sig) x.sig)
    where
      by : (b : Bool)
          → Some (record (linux_thread t p slot m rest) { pending = map linux_info (if b then slot.pending else added x slot.pending) })
          ≡ Some (linux_thread t p (if b then slot else with_added x slot) m rest)
      by true = refl
      by false = refl

  -- a signal of its own is taken
  pub removed_own_image : (pending : List SigInfo) (x : Signal)
      → removed_from (linux_thread t p slot m rest) pending Own (linux_info x)
      ≡ record { thread = linux_thread t p (without_first x.sig slot) m rest; pending = pending }
  removed_own_image pending x =
      ap (λ (infos : List SigInfo). record { thread = record (linux_thread t p slot m rest) { pending = infos }; pending = pending })
      (without_image x.sig slot.pending)

  -- and one of the process
  pub removed_shared_image : (shared : List Signal) (x : Signal)
      → removed_from (linux_thread t p slot m rest) (map linux_info shared) Shared (linux_info x)
      ≡ record { thread = linux_thread t p slot m rest; pending = map linux_info (without x.sig shared) }
  removed_shared_image shared x =
      ap (λ (infos : List SigInfo). record { thread = linux_thread t p slot m rest; pending = infos }) (without_image x.sig shared)
