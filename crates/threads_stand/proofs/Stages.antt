-- What a phase tells of the stage of its call.
use Rattle.std.proofs.Common.{◌≡◌, ℕ, Option, Some, None, option_map, refl, ap, ◌∙◌, subst}
use Rattle.linux_abi.specs.Call.{call_of}
use Rattle.lx_machine.specs.Exit.{exit_stage}
use Rattle.lx_machine.specs.RobustList.{stage_at}
use Rattle.lx_machine.specs.Shape.{stage_of, stage_with}
use Rattle.lx_machine.specs.Table.{rules_at}
use Rattle.lx_machine.specs.declared.calls.LxCall.{LxCall}
use Rattle.lx_machine.specs.declared.calls.Piece.{Piece}
use Rattle.lx_machine.specs.declared.calls.Stage.{Stage}
use Rattle.lx_machine.specs.declared.calls.Stage.TheVariants as stage
use Rattle.lx_machine.specs.declared.death.Death.{Death}
use Rattle.lx_machine.specs.declared.death.DeathPlace.{DeathPlace}
use Rattle.lx_machine.specs.declared.death.DeathPlace.TheVariants as place
use Rattle.lx_machine.specs.declared.futexes.Mark.{Mark}
use Rattle.lx_machine.specs.declared.futexes.PiLock.{PiLock}
use Rattle.lx_machine.specs.declared.futexes.Requeue.{Requeue}
use Rattle.lx_machine.specs.declared.futexes.Wait.{Wait}
use Rattle.lx_machine.specs.declared.futexes.Wake.{Wake}
use Rattle.lx_machine.specs.declared.futexes.WakeOp.{WakeOp}
use Rattle.bsd_thread.specs.declared.call.Answer.{Answer}
use Rattle.bsd_thread.specs.declared.call.Call.{Call}
use Rattle.bsd_thread.specs.declared.phase.Doom.TheVariants as doom
use Rattle.bsd_thread.specs.declared.phase.Phase.{Phase}
use Rattle.bsd_thread.specs.declared.phase.Phase.TheVariants as phase
use Rattle.bsd_thread.specs.declared.phase.Turn.TheVariants as turn
use Rattle.bsd_thread.specs.declared.thread.ThreadState.{ThreadState}
use Rattle.threads_stand.specs.Image.{resting}
use Rattle.threads_stand.specs.Numbers.{linux_answer}
use Rattle.threads_stand.specs.Phases.{Ground, OfProcess, OfSpace, OfFiles, OfInterest, ground_of, effect_phase, store_phase, phase_of, next_phase}
use Rattle.threads_stand.specs.Slots.{Dies}

-- ---- the stages of a phase

-- the word of a futex, with the piece of work that is done there
pub data WordStage (st : Stage) : Type 0 where
  queues : (w : Wait) → st ≡ stage.Queue w → WordStage st
  requeues : (r : Requeue) → st ≡ stage.Requeue r → WordStage st
  wakes : (w : WakeOp) → st ≡ stage.WakeOp w → WordStage st
  marks : (m : Mark) → st ≡ stage.Mark m → WordStage st
  locks : (l : PiLock) → st ≡ stage.PiLock l → WordStage st
  unlocks : (at : ℕ) → st ≡ stage.PiUnlock at → WordStage st

-- a wait at a futex
pub data SleepStage (st : Stage) : Type 0 where
  sleeps : st ≡ stage.Wait → SleepStage st
  sleeps_many : st ≡ stage.WaitMany → SleepStage st
  sleeps_pi : st ≡ stage.PiWait → SleepStage st

-- the piece that is stored, of a call whose thread lives, and of one whose thread dies
pub record StoreStage (c : LxCall) (st : Stage) : Type 0 where
  pub piece : Piece
  pub is : st ≡ stage.Store piece
  pub lives : c.death ≡ None

pub record ClearStage (c : LxCall) (st : Stage) : Type 0 where
  pub piece : Piece
  pub is : st ≡ stage.Store piece
  pub death : Death
  pub dies : c.death ≡ Some death

-- the stage of a call in this phase, where it is the first phase of a stage
abbrev pub StageIs : LxCall → Phase → Stage → Type 0
StageIs c phase.Fetch st = (p : Piece) × (st ≡ stage.Fetch p)
StageIs c phase.Hold st = st ≡ stage.Hold
StageIs c phase.Drop st = st ≡ stage.Drop
StageIs c phase.Look st = st ≡ stage.Move
StageIs c phase.Process st = (st ≡ stage.Effect) × (ground_of (call_of c.number) ≡ OfProcess)
StageIs c phase.Space st = (st ≡ stage.Effect) × (ground_of (call_of c.number) ≡ OfSpace)
StageIs c phase.Files st = (st ≡ stage.Effect) × (ground_of (call_of c.number) ≡ OfFiles)
StageIs c phase.Flux1 st = (st ≡ stage.Effect) × (ground_of (call_of c.number) ≡ OfInterest)
StageIs c phase.Ask st = st ≡ stage.Clock
StageIs c (phase.Busy turn.First) st = WordStage st
StageIs c phase.Release st = (w : Wake) × (st ≡ stage.Release w)
StageIs c phase.Sleep st = SleepStage st
StageIs c phase.Rest st = st ≡ stage.Rest
StageIs c phase.Start st = st ≡ stage.Start
StageIs c phase.Store st = StoreStage c st
StageIs c phase.Clear st = ClearStage c st
StageIs c phase.Leave st = st ≡ stage.Leave
StageIs c phase.Gone st = st ≡ stage.Gone
StageIs c (phase.Kill doom.InCall) st = st ≡ stage.Kill
StageIs c phase.Return st = st ≡ stage.Return
StageIs c p st = ⊥

effect_is : (c : LxCall) (g : Ground) → ground_of (call_of c.number) ≡ g → StageIs c (effect_phase g) stage.Effect
effect_is c OfProcess e = (refl, e)
effect_is c OfSpace e = (refl, e)
effect_is c OfFiles e = (refl, e)
effect_is c OfInterest e = (refl, e)

store_is : (c : LxCall) (p : Piece) (d : Option Death) → c.death ≡ d → StageIs c (store_phase d) (stage.Store p)
store_is c p None e = record { piece = p; is = refl; lives = e }
store_is c p (Some d) e = record { piece = p; is = refl; death = d; dies = e }

stage_is : (c : LxCall) (st : Stage) → StageIs c (phase_of c st) st
stage_is c (stage.Fetch p) = (p, refl)
stage_is c stage.Hold = refl
stage_is c stage.Drop = refl
stage_is c stage.Effect = effect_is c (ground_of (call_of c.number)) refl
stage_is c stage.Move = refl
stage_is c stage.Clock = refl
stage_is c (stage.Queue w) = queues w refl
stage_is c (stage.Requeue r) = requeues r refl
stage_is c (stage.WakeOp w) = wakes w refl
stage_is c (stage.Release w) = (w, refl)
stage_is c (stage.PiLock l) = locks l refl
stage_is c (stage.PiUnlock at) = unlocks at refl
stage_is c stage.Wait = sleeps refl
stage_is c stage.WaitMany = sleeps_many refl
stage_is c stage.PiWait = sleeps_pi refl
stage_is c stage.Rest = refl
stage_is c stage.Start = refl
stage_is c (stage.Mark m) = marks m refl
stage_is c (stage.Store p) = store_is c p c.death refl
stage_is c stage.Leave = refl
stage_is c stage.Gone = refl
stage_is c stage.Kill = refl
stage_is c stage.Return = refl

-- a call whose stage has this phase has one of its stages
pub stage_at_phase : (c : LxCall) (st : Stage) (p : Phase) → phase_of c st ≡ p → StageIs c p st
stage_at_phase c st p e = subst (λ (q : Phase). StageIs c q st) e (stage_is c st)

-- of a call between its entries
pub stage_at_next : (c : Call) (p : Phase) → next_phase c ≡ p → StageIs (resting c) p (stage_of (resting c))
stage_at_next c p e = stage_at_phase (resting c) (stage_of (resting c)) p e

-- ---- a thread that dies

abbrev pub death_phase : DeathPlace → Phase
death_phase place.Head = phase.Fetch
death_phase place.Next = phase.Fetch
death_phase (place.Entry next) = phase.Busy turn.First
death_phase place.Pending = phase.Busy turn.First
death_phase place.Clear = phase.Clear
death_phase place.Wake = phase.Release
death_phase place.Gone = phase.Gone

at_place : (c : LxCall) (d : Death) (p : DeathPlace) → c.death ≡ Some d → phase_of c (stage_at d p) ≡ death_phase p
at_place c d place.Head e = refl
at_place c d place.Next e = refl
at_place c d (place.Entry next) e = refl
at_place c d place.Pending e = refl
at_place c d place.Clear e = ap store_phase e
at_place c d place.Wake e = refl
at_place c d place.Gone e = refl

-- the stage of its call is the one of its death
pub dies_at : (rules : ℕ) (t : ThreadState) (d : Dies rules t) → stage_of (resting t.call) ≡ stage_at d.death d.death.place
dies_at rules t d =
    ap (λ (o : Option Answer). stage_with (resting t.call) (option_map linux_answer o)) d.unanswered
    ∙ ap (λ o. (rules_at o).stage (resting t.call)) d.exits
    ∙ ap exit_stage d.walks

-- so its next phase is one of six: no Return, no Start, no clock, no hold
pub dies_next : (rules : ℕ) (t : ThreadState) (d : Dies rules t) → next_phase t.call ≡ death_phase d.death.place
dies_next rules t d =
    ap (λ (st : Stage). phase_of (resting t.call) st) (dies_at rules t d) ∙ at_place (resting t.call) d.death d.death.place d.walks
