-- What each family owes: its step is the Linux steps of its labels, keeps what is sound, and reads and changes its plan alone.
-- Source: this project's own.
use Rattle.std.specs.Prelude.{◌≡◌, ℕ, ◌∷◌, List, length, Option, Some, None, option_map}
use Rattle.page_store.specs.Pages.{Pages}
use Rattle.lx_machine.specs.Step.{LRun}
use Rattle.lx_machine.specs.declared.label.Label.{Label}
use Rattle.lx_machine.specs.declared.state.LinuxState.{LinuxState}
use Rattle.bsd_proc.specs.Slots.{ProcessState}
use Rattle.bsd_thread.specs.declared.thread.ThreadState.{ThreadState}
use Rattle.machine_parts.specs.Held.{HoldsAll, SameObjects, over}
use Rattle.machine_parts.specs.Parts.{Parts, lacking, process_at, put_thread, thread_at}
use Rattle.machine_parts.specs.declared.object.Object.{Object}
use Rattle.call_frame.specs.Families.{family_of}
use Rattle.call_frame.specs.Rows.{Made, StepOf}
use Rattle.call_frame.specs.Sound.{Sound}
use Rattle.call_frame.specs.Stands.{Stands}
use Rattle.call_frame.specs.declared.family.Family.{Family}

-- the guest has not ended
abbrev pub GoesOn : Parts → Type 0
GoesOn M = (p : ProcessState) → process_at M ≡ Some p → p.end ≡ None

-- the labels of an entry, of a slot, its thread, and the parts without it
abbrev pub LabelsOf : Type 0
LabelsOf = ℕ → ThreadState → Parts → List Label

-- the labels lead from L to a state for which M stands
pub record Simulated (L : LinuxState) (labels : List Label) (M : Parts) : Type 0 where
  pub after : LinuxState
  pub run : LRun L labels ≡ Some after
  pub stands : Stands M after

-- what an entry leaves is sound, and is what its labels leave of each Linux state for which the machine stood
pub record Lawful (code : Pages) (M : Parts) (s : ℕ) (labels : List Label) (r : Made) : Type 0 where
  pub simulated : (L : LinuxState) → GoesOn M → Stands M L → Simulated L labels (put_thread r.parts s r.thread)
  pub sound : Sound code (put_thread r.parts s r.thread)

-- one-effect-law: so it is for each entry of the family, whatever sound machine it is taken in
abbrev pub IsLawful : Family → StepOf → LabelsOf → Type 0
IsLawful family step labels = (code : Pages) (M : Parts) (s : ℕ) (t : ThreadState) (r : Made) →
    Sound code M → thread_at M s ≡ Some t → family_of t ≡ family → step s t (lacking M s) ≡ Some r →
    Lawful code M s (labels s t (lacking M s)) r

-- a step reads and changes the objects of its plan alone: of what is held of a machine it makes what it makes of the machine, and
-- what is held besides stays
pub record IsLocal (planned : ThreadState → List Object) (step : StepOf) : Type 0 where
  pub reads : (s : ℕ) (t : ThreadState) (h m : Parts) → length h ≡ length m → over h m ≡ m → HoldsAll (planned t) h →
      step s t m ≡ option_map {T = Made} (λ r. record r { parts = over r.parts m }) (step s t h)
  pub same : (s : ℕ) (t : ThreadState) (h : Parts) (r : Made) → step s t h ≡ Some r → SameObjects h r.parts

-- what is held, with the actor's thread apart, is of one sound machine
pub record IsPartOf (code : Pages) (s : ℕ) (t : ThreadState) (h : Parts) : Type 0 where
  pub machine : Parts
  pub sound : Sound code machine
  pub here : thread_at machine s ≡ Some t
  pub agrees : over h machine ≡ machine
  pub long : length h ≡ length machine
