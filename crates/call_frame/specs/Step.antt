-- BStep: one entry of a tape on the parts of the machine, and the labels that it has in the Linux machine. Source: this project's own.
-- The phase table of docs/PHASES.md says what each phase does; the rows stand in the families.
use Rattle.std.specs.Prelude.{ℕ, ◌==◌, ◌&&◌, Bool, true, false, nat_lt, if◌then◌else◌, List, [], ◌∷◌, Option, Some, None, option_map}
use Rattle.tape.specs.declared.entry.Entry.{Entry}
use Rattle.lx_machine.specs.Lists.{bind}
use Rattle.lx_machine.specs.declared.label.Label.{Label}
use Rattle.lx_machine.specs.declared.label.Label.TheVariants as label
use Rattle.lx_machine.specs.declared.label.LxSide.{LxSide}
use Rattle.lx_machine.specs.declared.label.LxSide.TheVariants.{Out, Err}
use Rattle.bsd_files.specs.Calls.{can_drain, drained}
use Rattle.bsd_files.specs.State.{FilesState}
use Rattle.bsd_proc.specs.Clock.{may_pass, passed}
use Rattle.bsd_proc.specs.Slots.{ProcessState}
use Rattle.bsd_thread.specs.declared.phase.Phase.{Phase}
use Rattle.bsd_thread.specs.declared.phase.Phase.TheVariants as phase
use Rattle.bsd_thread.specs.declared.thread.ThreadState.{ThreadState}
use Rattle.machine_parts.specs.Parts.{Parts, files_at, lacking, process_at, put_files, put_process, put_thread, thread_at}
use Rattle.machine_parts.specs.declared.object.Object.{Object}
use Rattle.machine_parts.specs.declared.object.Object.TheVariants as object
use Rattle.call_frame.specs.Families.{family_of}
use Rattle.call_frame.specs.Law.{LabelsOf}
use Rattle.call_frame.specs.Rows.{Made, StepOf}
use Rattle.call_frame.specs.declared.applied.Applied.{Applied}
use Rattle.call_frame.specs.declared.applied.Applied.TheVariants.{Going}
use Rattle.call_frame.specs.declared.family.Family.{Family}

-- what the families bring: the step, the labels and the plan of each; and those of a thread outside a call that takes a signal
pub record Families : Type 0 where
  pub steps : Family → StepOf
  pub labels : Family → LabelsOf
  pub plans : Family → ThreadState → List Object
  pub take : StepOf
  pub take_labels : LabelsOf
  pub take_plan : ThreadState → List Object

-- the parts after an entry, and whether the guest goes on
pub record After : Type 0 where
  pub parts : Parts
  pub applied : Applied

abbrev pub after : Parts → Applied → After
after M a = record { parts = M; applied = a }

-- ---- a slot's entry: amount 0 is the next of its phase, and amount 1 takes a signal outside a call

abbrev pub is_user : Phase → Bool
is_user phase.User = true
is_user p = false

abbrev pub step_by : Families → ℕ → StepOf
step_by F amount s t m =
    if amount == 0 then F.steps (family_of t) s t m
    else if amount == 1 && is_user t.phase then F.take s t m
    else None

-- the thread is taken out of the parts, and put back
abbrev pub put_back : ℕ → Made → After
put_back s r = after (put_thread r.parts s r.thread) r.applied

abbrev pub thread_entry : Families → Parts → ℕ → ℕ → Option After
thread_entry F M s amount = bind (thread_at M s) (λ t. option_map (put_back s) (step_by F amount s t (lacking M s)))

-- ---- Time: the clock rises, where an ask stands or a deadline is passed

abbrev pub time_entry : Parts → ℕ → Option After
time_entry M now = bind (process_at M) (λ p. if may_pass p now then Some (after (put_process M (passed p now)) Going) else None)

-- ---- Drain: the first n bytes of a console room go

abbrev pub drain_entry : Parts → LxSide → ℕ → Option After
drain_entry M which n = bind (files_at M) (λ f. if can_drain f.plain which n then Some (after (put_files M (drained f which n)) Going) else None)

-- ---- an entry, by its actor: a slot, or 253 for the clock, 254 and 255 for the console rooms

abbrev pub by_actor : {X : Type 0} → ℕ → (ℕ → X) → X → (LxSide → X) → X → X
by_actor actor slot time drain none =
    if nat_lt actor 128 then slot actor
    else if actor == 253 then time
    else if actor == 254 then drain Out
    else if actor == 255 then drain Err
    else none

abbrev pub BStep : Families → Parts → Entry → Option After
BStep F M e = by_actor e.actor (λ s. thread_entry F M s e.amount) (time_entry M e.amount) (λ which. drain_entry M which e.amount) None

-- its fold
abbrev pub BRun : Families → Parts → List Entry → Option Parts
BRun F M [] = Some M
BRun F M (e ∷ es) = bind (BStep F M e) (λ r. BRun F r.parts es)

-- ---- the labels of an entry

abbrev pub labels_by : Families → ℕ → LabelsOf
labels_by F amount s t m = if amount == 0 then F.labels (family_of t) s t m else F.take_labels s t m

abbrev pub thread_labels : Families → Parts → ℕ → ℕ → Option ThreadState → List Label
thread_labels F M s amount None = []
thread_labels F M s amount (Some t) = labels_by F amount s t (lacking M s)

abbrev pub Labels : Families → Parts → Entry → List Label
Labels F M e = by_actor e.actor (λ s. thread_labels F M s e.amount (thread_at M s)) (label.Time e.amount ∷ []) (λ which. label.Drain which e.amount ∷ []) []

-- ---- the objects of an entry: the actor's thread, and those of its family's plan; the process; the files

abbrev pub plan_by : Families → ℕ → ThreadState → List Object
plan_by F amount t = if amount == 0 then F.plans (family_of t) t else F.take_plan t

abbrev pub thread_plan : Families → ℕ → ℕ → Option ThreadState → List Object
thread_plan F s amount None = object.Thread s ∷ []
thread_plan F s amount (Some t) = object.Thread s ∷ plan_by F amount t

abbrev pub Plan : Families → Entry → Option ThreadState → List Object
Plan F e own = by_actor e.actor (λ s. thread_plan F s e.amount own) (object.Process ∷ []) (λ which. object.Files ∷ []) []
