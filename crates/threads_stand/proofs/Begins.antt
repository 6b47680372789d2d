-- At boot threads and process stand for the state in which the program starts.
use Rattle.std.proofs.Common.{◌≡◌, ℕ, zero, suc, ◌*◌, Bool, true, false, List, ◌∷◌, map, replicate, nat_lt, Option, Some, None, if◌then◌else◌, refl, sym, ap, ◌∙◌, subst, arith}
use Rattle.std.specs.Prelude.{slice_index_or}
use Rattle.std.proofs.lemmas.Bool.Decides.{nat_tests}
use Rattle.a64_model.specs.declared.regs.Regs.{Regs}
use Rattle.elf_image.specs.declared.parts.Image.{Image}
use Rattle.vm_areas.specs.declared.runs.Area.{Area}
use Rattle.signal_map.specs.Sets.{set_out_of}
use Rattle.lx_machine.specs.Lists.{at_place}
use Rattle.lx_machine.specs.Start.{first_regs, first_thread, last_end, start}
use Rattle.lx_machine.specs.declared.signals.Action.{Action as LxAction}
use Rattle.lx_machine.specs.declared.state.LinuxState.{LinuxState}
use Rattle.places.specs.declared.limits.TheConstants.{SLOTS}
use Rattle.bsd_proc.specs.Slots.{ProcessState, Slot, default_action, fresh, slot_at, started}
use Rattle.bsd_proc.specs.declared.lives.Life.TheVariants.{Live}
use Rattle.bsd_thread.specs.declared.phase.Phase.TheVariants as phase
use Rattle.bsd_thread.specs.declared.thread.ThreadState.{ThreadState}
use Rattle.threads_stand.specs.Boot.{boot_thread, boot_threads}
use Rattle.threads_stand.specs.Image.{linux_thread}
use Rattle.threads_stand.specs.Numbers.{linux_action}
use Rattle.threads_stand.specs.Phases.{Fits}
use Rattle.threads_stand.specs.Slots.{SlotFits, ThreadsSound}
use Rattle.threads_stand.specs.Stands.{ProcessStands, ThreadStands, ThreadsStand}
use Rattle.threads_stand.proofs.Actions.{default_image}
use Rattle.threads_stand.proofs.Tids.{tids_started}

none_at : {X : Type 0} (n s : ℕ) → slice_index_or (replicate {A = Option X} n None) s None ≡ None
none_at zero s = refl
none_at (suc n) zero = refl
none_at (suc n) (suc s) = none_at n s

no_place : {X : Type 0} (n s : ℕ) → at_place (replicate {A = Option X} n None) s ≡ None
no_place zero s = refl
no_place (suc n) zero = refl
no_place (suc n) (suc s) = no_place n s

map_replicate : {X Y : Type 0} (f : X → Y) (n : ℕ) (x : X) → map f (replicate n x) ≡ replicate n (f x)
map_replicate f zero x = refl
map_replicate {Y = Y} f (suc n) x = ap (λ (l : List Y). f x ∷ l) (map_replicate f n x)

module _ (regs : Regs) (areas : List Area) (break_at rules : ℕ) where
  abbrev p : ProcessState
  p = started areas break_at rules

  -- each thread is the one of its slot
  is_boot : (s : ℕ) (t : ThreadState) → boot_threads regs s ≡ Some t → boot_thread regs s ≡ t
  is_boot s t e = by (nat_lt s SLOTS) e
    where
      by : (b : Bool) → (if b then Some (boot_thread regs s) else None) ≡ Some t → boot_thread regs s ≡ t
      by true f = cc
      by false f = absurd (cc)

  numbered : (s : ℕ) → (boot_thread regs s).slot ≡ s
  numbered zero = refl
  numbered (suc s) = refl

  fits : (s : ℕ) → Fits (boot_thread regs s).call (boot_thread regs s).phase
  fits zero = tt
  fits (suc s) = tt

  lives : (s : ℕ) → SlotFits rules (boot_thread regs s) (slot_at p s)
  lives zero = record { awake = (λ e. (cc)); tid = refl; deadline = refl }
  lives (suc s) = subst (λ (o : Option Slot). SlotFits rules (boot_thread regs (suc s)) o) (sym (none_at 127 s)) refl

  pub begins_sound : ThreadsSound (boot_threads regs) p
  begins_sound = record {
    there =
        λ s less. (boot_thread regs s, (let e : nat_lt s SLOTS ≡ true = grind (arith, nat_tests) in ap (λ (b : Bool). if b then Some (boot_thread regs s) else None) e));
    numbered = λ s t e. subst (λ (z : ThreadState). z.slot ≡ s) (is_boot s t e) (numbered s);
    fits = λ s t e. subst (λ (z : ThreadState). Fits z.call z.phase) (is_boot s t e) (fits s);
    lives = λ s t e. subst (λ (z : ThreadState). SlotFits rules z (slot_at p s)) (is_boot s t e) (lives s);
    slots = refl;
    tids = tids_started p (fresh 1000 Live) (replicate 127 None) refl (none_at 127) (omega arith) (omega arith);
  }

-- the first thread is the Linux machine's
first_image : (regs : Regs) → Some (first_thread regs) ≡ Some (linux_thread (boot_thread regs 0) phase.User (fresh 1000 Live) None 0)
unfolding set_out_of
first_image regs = refl

-- the state in which the program starts; the break of the process is the end of its segments
module _ (image : Image) (name : List ℕ) (arguments : List (List ℕ)) (input : List ℕ) (seed rules : ℕ) (areas : List Area) where
  abbrev L : LinuxState
  L = start image name arguments input seed rules

  abbrev q : ProcessState
  q = started areas (last_end image.segments * 4096) rules

  abbrev first : Regs
  first = first_regs image name arguments

  each : (s : ℕ) → ThreadStands (boot_thread first s) (slot_at q s) 0 (at_place L.threads s)
  each zero = record { mark = None; is = first_image first }
  each (suc s) =
      subst (λ (o : Option Slot). ThreadStands (boot_thread first (suc s)) o 0 (at_place L.threads (suc s))) (sym (none_at 127 s))
      (no_place 127 s)

  pub begins_threads : ThreadsStand (boot_threads first) q (λ s. 0) L
  begins_threads = record {
    places = refl;
    each =
        λ s t e. subst (λ (z : ThreadState). ThreadStands z (slot_at q s) 0 (at_place L.threads s)) (is_boot first areas (last_end image.segments * 4096) rules s t e) (each s);
  }

  pub begins_process : ProcessStands q L
  begins_process = record {
    rules = refl;
    next_tid = refl;
    break_at = refl;
    break_start = refl;
    actions = ap (λ (a : LxAction). replicate 64 a) (sym default_image) ∙ sym (map_replicate linux_action 64 default_action);
    pending = refl;
    clock = refl;
    end = refl;
  }
