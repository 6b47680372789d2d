-- The phase of a call that has its answer, and which wait it is that sleeps.
use Rattle.std.proofs.Common.{◌≡◌, ◌≢◌, ℕ, Bool, true, false, List, [], ◌∷◌, Option, Some, None, option_map, if◌then◌else◌, refl, sym, ap, ◌∙◌}
use Rattle.linux_abi.specs.declared.calls.Call.TheVariants as call
use Rattle.linux_abi.specs.declared.futexes.Comparison.{Comparison}
use Rattle.linux_abi.specs.declared.futexes.FutexOperation.{FutexOperation}
use Rattle.linux_abi.specs.declared.futexes.FutexOperation.TheVariants as operation
use Rattle.linux_abi.specs.declared.futexes.WordOperation.{WordOperation}
use Rattle.lx_machine.specs.Calls.{answered_stage, low_argument, storing}
use Rattle.lx_machine.specs.Clone.{born_from}
use Rattle.lx_machine.specs.Futex.{comparison_in, futex_stage_by, has_time, lock_of, operation_in, wait_of, waiting_from, wake_op_by, word_operation_in}
use Rattle.lx_machine.specs.FutexWaitv.{has_queued, place_wait, waitv_from}
use Rattle.lx_machine.specs.Queue.{all_bits}
use Rattle.lx_machine.specs.Shape.{finishing_stage, stage_of, stage_with}
use Rattle.lx_machine.specs.declared.calls.LxCall.{LxCall}
use Rattle.lx_machine.specs.declared.calls.Piece.{Piece}
use Rattle.lx_machine.specs.declared.calls.Stage.{Stage}
use Rattle.lx_machine.specs.declared.calls.Stage.TheVariants as stage
use Rattle.bsd_thread.specs.declared.call.Answer.{Answer}
use Rattle.bsd_thread.specs.declared.call.Call.{Call}
use Rattle.bsd_thread.specs.declared.phase.Phase.TheVariants as phase
use Rattle.threads_stand.specs.Image.{is_many, is_waitv, linux_call, resting}
use Rattle.threads_stand.specs.Numbers.{linux_answer}
use Rattle.threads_stand.specs.Phases.{answered_phase, asks_lock, birth_phase, held_phase, is_lock_pi, next_in, next_phase, phase_of, storing_phase}
use Rattle.threads_stand.proofs.Stages.{SleepStage, sleeps, sleeps_many, sleeps_pi, stage_at_phase}
use Rattle.threads_stand.proofs.Waits.{OfFutex, of_futex, of_waitv, futex_stages, sleep_is, stage_by}

-- ---- a call that has its answer

module _ (c : Call) where
  storing_is : (ps : List Piece) (bytes : List ℕ) → phase_of (resting c) (storing ps bytes) ≡ storing_phase ps bytes c.death
  storing_is [] bytes = refl
  storing_is (p ∷ ps) [] = refl
  storing_is (p ∷ ps) (b ∷ bytes) = refl

  held_is : (o : Option ℕ) → phase_of (resting c) (answered_stage (resting c) o) ≡ held_phase c o
  held_is (Some file) = refl
  held_is None = storing_is c.pieces c.bytes

  born_is : (ps : List Piece) → phase_of (resting c) (born_from ps) ≡ birth_phase ps c.death
  born_is [] = refl
  born_is (p ∷ ps) = refl

  finishing_is : (o : Option ℕ) → phase_of (resting c) (finishing_stage (resting c) o) ≡ answered_phase c o
  finishing_is (Some slot) = born_is c.pieces
  finishing_is None = held_is c.held

  pub answered_next : (a : Answer) → c.answer ≡ Some a → next_phase c ≡ answered_phase c c.child
  answered_next a e =
      ap (λ (o : Option Answer). phase_of (resting c) (stage_with (resting c) (option_map linux_answer o))) e
      ∙ finishing_is c.child

-- ---- a call that sleeps

-- which wait it is
pub data Sleeps (c : Call) : Type 0 where
  plain : is_many c ≡ false → asks_lock c ≡ false → stage_of (linux_call phase.Sleep c 0) ≡ stage.Wait → Sleeps c
  lock : is_many c ≡ false → asks_lock c ≡ true → stage_of (linux_call phase.Sleep c 0) ≡ stage.PiWait → Sleeps c
  many : is_many c ≡ true → stage_of (linux_call phase.Sleep c 0) ≡ stage.WaitMany → Sleeps c

-- a futex's stage that sleeps
data FutexSleeps (o : Option FutexOperation) (st : Stage) : Type 0 where
  is_plain : is_lock_pi o ≡ false → st ≡ stage.Wait → FutexSleeps o st
  is_lock : is_lock_pi o ≡ true → st ≡ stage.PiWait → FutexSleeps o st
  is_awake : (SleepStage st → ⊥) → FutexSleeps o st

no_sleep : (st : Stage) → st ≢ stage.Wait → st ≢ stage.WaitMany → st ≢ stage.PiWait → SleepStage st → ⊥
no_sleep st a b c (sleeps e) = a e
no_sleep st a b c (sleeps_many e) = b e
no_sleep st a b c (sleeps_pi e) = c e

plain_from : (c : LxCall) (o : Option FutexOperation) (bits : ℕ) (ps : List Piece) → is_lock_pi o ≡ false
    → FutexSleeps o (waiting_from c (stage.Queue (wait_of c bits)) stage.Wait ps)
plain_from c o bits (p ∷ ps) e = is_awake (no_sleep (stage.Fetch p) (λ f. (cc)) (λ f. (cc)) (λ f. (cc)))
plain_from c o bits [] e = by (has_time c) c.waits
  where
    by : (timed waits : Bool) → FutexSleeps o (if timed then stage.Clock else (if waits then stage.Wait else stage.Queue (wait_of c bits)))
    by true waits = is_awake (no_sleep stage.Clock (λ f. (cc)) (λ f. (cc)) (λ f. (cc)))
    by false true = is_plain e refl
    by false false = is_awake (no_sleep (stage.Queue (wait_of c bits)) (λ f. (cc)) (λ f. (cc)) (λ f. (cc)))

lock_from : (c : LxCall) (ps : List Piece)
    → FutexSleeps (Some operation.LockPi) (waiting_from c (stage.PiLock (lock_of c false)) stage.PiWait ps)
lock_from c (p ∷ ps) = is_awake (no_sleep (stage.Fetch p) (λ f. (cc)) (λ f. (cc)) (λ f. (cc)))
lock_from c [] = by (has_time c) c.waits
  where
    by : (timed waits : Bool)
        → FutexSleeps (Some operation.LockPi) (if timed then stage.Clock else (if waits then stage.PiWait else stage.PiLock (lock_of c false)))
    by true waits = is_awake (no_sleep stage.Clock (λ f. (cc)) (λ f. (cc)) (λ f. (cc)))
    by false true = is_lock refl refl
    by false false = is_awake (no_sleep (stage.PiLock (lock_of c false)) (λ f. (cc)) (λ f. (cc)) (λ f. (cc)))

wake_op_awake : (c : LxCall) (o : Option FutexOperation) (a : Option WordOperation) (b : Option Comparison)
    → FutexSleeps o (wake_op_by c a b)
wake_op_awake c o (Some a) (Some b) = is_awake (λ s. no_sleep _ (λ f. (cc)) (λ f. (cc)) (λ f. (cc)) s)
wake_op_awake c o (Some a) None = is_awake (no_sleep stage.Return (λ f. (cc)) (λ f. (cc)) (λ f. (cc)))
wake_op_awake c o None b = is_awake (no_sleep stage.Return (λ f. (cc)) (λ f. (cc)) (λ f. (cc)))

futex_sleeps : (c : LxCall) (o : Option FutexOperation) → FutexSleeps o (futex_stage_by c o)
futex_sleeps c (Some operation.Wait) = plain_from c (Some operation.Wait) all_bits c.pieces refl
futex_sleeps c (Some operation.WaitBitset) = plain_from c (Some operation.WaitBitset) (low_argument c 5) c.pieces refl
futex_sleeps c (Some operation.LockPi) = lock_from c c.pieces
futex_sleeps c (Some operation.TryLockPi) = is_awake (λ s. no_sleep _ (λ f. (cc)) (λ f. (cc)) (λ f. (cc)) s)
futex_sleeps c (Some operation.UnlockPi) = is_awake (λ s. no_sleep _ (λ f. (cc)) (λ f. (cc)) (λ f. (cc)) s)
futex_sleeps c (Some operation.Wake) = is_awake (λ s. no_sleep _ (λ f. (cc)) (λ f. (cc)) (λ f. (cc)) s)
futex_sleeps c (Some operation.WakeBitset) = is_awake (λ s. no_sleep _ (λ f. (cc)) (λ f. (cc)) (λ f. (cc)) s)
futex_sleeps c (Some operation.Requeue) = is_awake (λ s. no_sleep _ (λ f. (cc)) (λ f. (cc)) (λ f. (cc)) s)
futex_sleeps c (Some operation.CompareRequeue) = is_awake (λ s. no_sleep _ (λ f. (cc)) (λ f. (cc)) (λ f. (cc)) s)
futex_sleeps c (Some operation.WakeOp) =
    wake_op_awake c (Some operation.WakeOp) (word_operation_in (low_argument c 5)) (comparison_in (low_argument c 5))
futex_sleeps c None = is_awake (no_sleep stage.Return (λ f. (cc)) (λ f. (cc)) (λ f. (cc)))

-- futex_waitv sleeps in many places
waitv_sleeps : (c : LxCall) (ps : List Piece) → SleepStage (waitv_from c ps) → waitv_from c ps ≡ stage.WaitMany
waitv_sleeps c (p ∷ ps) s = absurd (no_sleep (stage.Fetch p) (λ f. (cc)) (λ f. (cc)) (λ f. (cc)) s)
waitv_sleeps c [] s = by (has_time c) (has_queued c) s
  where
    by : (timed queued : Bool)
        → SleepStage (if timed then stage.Clock else (if queued then stage.WaitMany else stage.Queue (place_wait c c.queued)))
        → (if timed then stage.Clock else (if queued then stage.WaitMany else stage.Queue (place_wait c c.queued))) ≡ stage.WaitMany
    by true queued f = absurd (no_sleep stage.Clock (λ f. (cc)) (λ f. (cc)) (λ f. (cc)) f)
    by false true f = refl
    by false false f = absurd (no_sleep (stage.Queue (place_wait c c.queued)) (λ f. (cc)) (λ f. (cc)) (λ f. (cc)) f)

-- a thread in the phase Sleep
pub sleeps_at : (c : Call) → next_in phase.Sleep c ≡ phase.Sleep → Sleeps c
sleeps_at c e = by (futex_stages lc (sleep_is (stage_of lc) asleep).1)
  where
    lc : LxCall
    lc = linux_call phase.Sleep c 0

    asleep : SleepStage (stage_of lc)
    asleep = stage_at_phase lc (stage_of lc) phase.Sleep e

    to : (st : Stage) → stage_of lc ≡ st → SleepStage st
    to st same = by_same st same asleep
      where
        by_same : (st : Stage) → stage_of lc ≡ st → SleepStage (stage_of lc) → SleepStage st
        by_same st same (sleeps f) = sleeps (sym same ∙ f)
        by_same st same (sleeps_many f) = sleeps_many (sym same ∙ f)
        by_same st same (sleeps_pi f) = sleeps_pi (sym same ∙ f)

    at_futex : is_many c ≡ false → stage_of lc ≡ futex_stage_by lc (operation_in lc)
        → FutexSleeps (operation_in lc) (futex_stage_by lc (operation_in lc)) → Sleeps c
    at_futex one same (is_plain a b) = plain one a (same ∙ b)
    at_futex one same (is_lock a b) = lock one a (same ∙ b)
    at_futex one same (is_awake none) = absurd (none (to (futex_stage_by lc (operation_in lc)) same))

    by : OfFutex lc → Sleeps c
    by (of_futex none known) = at_futex (ap is_waitv known) (stage_by lc (Some call.Futex) none known) (futex_sleeps lc (operation_in lc))
    by (of_waitv none known) =
        let same = stage_by lc (Some call.FutexWaitv) none known in
        many (ap is_waitv known) (same ∙ waitv_sleeps lc lc.pieces (to (waitv_from lc lc.pieces) same))
