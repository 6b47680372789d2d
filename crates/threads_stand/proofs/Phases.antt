-- What holds of the next phase of a call.
use Rattle.std.proofs.Common.{◌≡◌, ℕ, Bool, true, false, not, Option, Some, None, refl, sym, ap, ◌∙◌, subst}
use Rattle.linux_abi.specs.Call.{call_of}
use Rattle.lx_machine.specs.Shape.{stage_of}
use Rattle.lx_machine.specs.Threads.{with_call}
use Rattle.lx_machine.specs.declared.calls.LxCall.{LxCall}
use Rattle.lx_machine.specs.declared.calls.Stage.{Stage}
use Rattle.lx_machine.specs.declared.calls.Stage.TheVariants as stage
use Rattle.lx_machine.specs.declared.death.Death.{Death}
use Rattle.bsd_proc.specs.Slots.{Slot}
use Rattle.bsd_thread.specs.Phases.{has_call}
use Rattle.bsd_thread.specs.declared.call.Call.{Call}
use Rattle.bsd_thread.specs.declared.phase.Doom.TheVariants as doom
use Rattle.bsd_thread.specs.declared.phase.Owed.TheVariants as owed
use Rattle.bsd_thread.specs.declared.phase.Phase.{Phase}
use Rattle.bsd_thread.specs.declared.phase.Phase.TheVariants as phase
use Rattle.bsd_thread.specs.declared.phase.Turn.{Turn}
use Rattle.bsd_thread.specs.declared.phase.Turn.TheVariants as turn
use Rattle.bsd_thread.specs.declared.thread.ThreadState.{ThreadState}
use Rattle.threads_stand.specs.Image.{is_many, linux_call, linux_thread, resting}
use Rattle.threads_stand.specs.Phases.{Fits, Ground, OfProcess, OfSpace, OfFiles, OfInterest, WaitsOn, advanced, effect_phase, ground_of, next_in, next_phase, phase_of, store_phase}
use Rattle.threads_stand.proofs.Calls.{inserting_many, sleeping_many}
use Rattle.threads_stand.proofs.Threads.{image_in_call}
use Rattle.threads_stand.proofs.Waits.{many_sleeps}

-- what holds of each phase that a call can have between its entries
pub record OfPhases (P : Phase → Type 0) : Type 0 where
  pub fetch_ : P phase.Fetch
  pub hold_ : P phase.Hold
  pub drop_ : P phase.Drop
  pub process_ : P phase.Process
  pub space_ : P phase.Space
  pub files_ : P phase.Files
  pub flux_ : P phase.Flux1
  pub look_ : P phase.Look
  pub ask_ : P phase.Ask
  pub busy_ : P (phase.Busy turn.First)
  pub release_ : P phase.Release
  pub sleep_ : P phase.Sleep
  pub rest_ : P phase.Rest
  pub start_ : P phase.Start
  pub store_ : P phase.Store
  pub clear_ : P phase.Clear
  pub leave_ : P phase.Leave
  pub gone_ : P phase.Gone
  pub kill_ : P (phase.Kill doom.InCall)
  pub return_ : P phase.Return

at_effect : (P : Phase → Type 0) → OfPhases P → (g : Ground) → P (effect_phase g)
at_effect P all OfProcess = all.process_
at_effect P all OfSpace = all.space_
at_effect P all OfFiles = all.files_
at_effect P all OfInterest = all.flux_

at_store : (P : Phase → Type 0) → OfPhases P → (d : Option Death) → P (store_phase d)
at_store P all (Some d) = all.clear_
at_store P all None = all.store_

in_stage : (P : Phase → Type 0) (c : LxCall) → OfPhases P → (st : Stage) → P (phase_of c st)
in_stage P c all (stage.Fetch p) = all.fetch_
in_stage P c all stage.Hold = all.hold_
in_stage P c all stage.Drop = all.drop_
in_stage P c all stage.Effect = at_effect P all (ground_of (call_of c.number))
in_stage P c all stage.Move = all.look_
in_stage P c all stage.Clock = all.ask_
in_stage P c all (stage.Queue w) = all.busy_
in_stage P c all (stage.Requeue r) = all.busy_
in_stage P c all (stage.WakeOp w) = all.busy_
in_stage P c all (stage.Release w) = all.release_
in_stage P c all (stage.PiLock l) = all.busy_
in_stage P c all (stage.PiUnlock at) = all.busy_
in_stage P c all stage.Wait = all.sleep_
in_stage P c all stage.WaitMany = all.sleep_
in_stage P c all stage.PiWait = all.sleep_
in_stage P c all stage.Rest = all.rest_
in_stage P c all stage.Start = all.start_
in_stage P c all (stage.Mark m) = all.busy_
in_stage P c all (stage.Store p) = at_store P all c.death
in_stage P c all stage.Leave = all.leave_
in_stage P c all stage.Gone = all.gone_
in_stage P c all stage.Kill = all.kill_
in_stage P c all stage.Return = all.return_

-- so it holds of the next phase
pub in_next : (P : Phase → Type 0) (c : Call) → OfPhases P → P (next_phase c)
in_next P c all = in_stage P (resting c) all (stage_of (resting c))

-- ---- what families use

-- it is a phase of a call
pub call_next : (c : Call) → has_call (next_phase c) ≡ true
call_next c =
    in_next (λ p. has_call p ≡ true) c (record {
      fetch_ = refl;
      hold_ = refl;
      drop_ = refl;
      process_ = refl;
      space_ = refl;
      files_ = refl;
      flux_ = refl;
      look_ = refl;
      ask_ = refl;
      busy_ = refl;
      release_ = refl;
      sleep_ = refl;
      rest_ = refl;
      start_ = refl;
      store_ = refl;
      clear_ = refl;
      leave_ = refl;
      gone_ = refl;
      kill_ = refl;
      return_ = refl;
    })

-- it fits its call
pub fits_next : (c : Call) → Fits c (next_phase c)
fits_next c =
    in_next (λ p. next_phase c ≡ p → Fits c p) c
    (record {
      fetch_ = (λ e. e);
      hold_ = (λ e. e);
      drop_ = (λ e. e);
      process_ = (λ e. e);
      space_ = (λ e. e);
      files_ = (λ e. e);
      flux_ = (λ e. e);
      look_ = (λ e. e);
      ask_ = (λ e. e);
      busy_ = (λ e. e);
      release_ = (λ e. e);
      sleep_ = sleeps;
      rest_ = (λ e. e);
      start_ = (λ e. e);
      store_ = (λ e. e);
      clear_ = (λ e. e);
      leave_ = (λ e. e);
      gone_ = (λ e. e);
      kill_ = (λ e. e);
      return_ = (λ e. e);
    })
    refl
  where
    sleeps : next_phase c ≡ phase.Sleep → next_in phase.Sleep c ≡ phase.Sleep
    sleeps e = ap (λ (z : LxCall). phase_of z (stage_of z)) (sleeping_many c (many_sleeps c e)) ∙ e

-- its call rests
pub rests_next : (c : Call) → linux_call (next_phase c) c 0 ≡ resting c
rests_next c =
    in_next (λ p. next_phase c ≡ p → linux_call p c 0 ≡ resting c) c
    (record {
      fetch_ = (λ e. refl);
      hold_ = (λ e. refl);
      drop_ = (λ e. refl);
      process_ = (λ e. refl);
      space_ = (λ e. refl);
      files_ = (λ e. refl);
      flux_ = (λ e. refl);
      look_ = (λ e. refl);
      ask_ = (λ e. refl);
      busy_ = (λ e. refl);
      release_ = (λ e. refl);
      sleep_ = (λ e. sleeping_many c (many_sleeps c e));
      rest_ = (λ e. refl);
      start_ = (λ e. refl);
      store_ = (λ e. refl);
      clear_ = (λ e. refl);
      leave_ = (λ e. refl);
      gone_ = (λ e. refl);
      kill_ = (λ e. refl);
      return_ = (λ e. refl);
    })
    refl

-- the image of a thread at the next phase of its call: the thread outside a call, in this call
pub image_next : (t : ThreadState) (c : Call) (slot : Slot) (m : Option ℕ)
    → linux_thread (record t { call = c; phase = next_phase c }) (next_phase c) slot m 0
    ≡ with_call (linux_thread t phase.User slot m 0) (resting c)
image_next t c slot m =
    image_in_call (record t { call = c; phase = next_phase c }) (next_phase c) slot m 0 (call_next c)
    ∙ ap (λ (z : LxCall). with_call (linux_thread t phase.User slot m 0) z) (rests_next c)

pub advanced_is : (t : ThreadState) (c : Call) → advanced t c ≡ record t { call = c; phase = next_phase c }
unfolding advanced
advanced_is t c = refl

-- ---- waits

-- once its insertion is made, the phase is that of its wait, and of futex_waitv the next one
pub fits_inserted : (c : Call) → WaitsOn c → Fits c (next_in phase.Sleep c)
fits_inserted c on = by (is_many c) refl
  where
    by : (b : Bool) → is_many c ≡ b → Fits c (next_in phase.Sleep c)
    by false one =
        let e = on (ap not one) in subst (λ (p : Phase). Fits c p) (sym e) e
    by true many =
        let e : next_in phase.Sleep c ≡ next_phase c = ap (λ (z : LxCall). phase_of z (stage_of z)) (sleeping_many c many) in
        subst (λ (p : Phase). Fits c p) (sym e) (fits_next c)

-- the call in this phase is the one that it was as it was inserted
pub rests_inserted : (c : Call) (turn : Turn) → WaitsOn c
    → linux_call (next_in phase.Sleep c) c 0 ≡ linux_call (phase.Finish turn owed.Insertion) c 0
rests_inserted c turn on = by (is_many c) refl
  where
    by : (b : Bool) → is_many c ≡ b → linux_call (next_in phase.Sleep c) c 0 ≡ linux_call (phase.Finish turn owed.Insertion) c 0
    by false one = ap (λ (p : Phase). linux_call p c 0) (on (ap not one))
    by true many =
        let e : next_in phase.Sleep c ≡ next_phase c = ap (λ (z : LxCall). phase_of z (stage_of z)) (sleeping_many c many) in
        ap (λ (p : Phase). linux_call p c 0) e ∙ rests_next c ∙ sym (inserting_many c turn many)

-- and it is a phase of a call
pub call_inserted : (c : Call) → WaitsOn c → has_call (next_in phase.Sleep c) ≡ true
call_inserted c on = by (is_many c) refl
  where
    by : (b : Bool) → is_many c ≡ b → has_call (next_in phase.Sleep c) ≡ true
    by false one = ap has_call (on (ap not one))
    by true many =
        let e : next_in phase.Sleep c ≡ next_phase c = ap (λ (z : LxCall). phase_of z (stage_of z)) (sleeping_many c many) in
        ap has_call e ∙ call_next c
