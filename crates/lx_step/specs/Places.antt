-- Steps in the place of a thread.
use Rattle.std.specs.Prelude.{◌≡◌, ℕ, if◌then◌else◌, List, Option, Some, None, Result, Ok, Err}
use Rattle.page_store.specs.Pages.{Pages}
use Rattle.lx_machine.specs.Lists.{at_place, with_place}
use Rattle.lx_machine.specs.Instruction.{Ran, ran}
use Rattle.lx_machine.specs.Threads.{is_user}
use Rattle.lx_machine.specs.declared.threads.LxThread.{LxThread}
use Rattle.lx_instructions.specs.declared.instruction.Written.{Written}
use Rattle.lx_machine.specs.declared.refusal.LxRefusal.{LxRefusal}
use Rattle.lx_machine.specs.declared.refusal.LxRefusal.TheVariants.{NoStep, NoMemory}

-- the instruction of the thread in this place, if it has one that may run
abbrev pub ran_at : Pages → Option LxThread → Option Ran
ran_at pages None = None
ran_at pages (Some t) = if is_user t then Some (ran pages t) else None

-- what becomes of the pages and of the place
abbrev pub RunsAt : Option Ran → Pages → Pages → Option LxThread → Option LxThread → Result Written LxRefusal → Type 0
RunsAt (Some r) pages pages' place place' (Ok w) = (pages' ≡ r.pages) × (place' ≡ Some r.thread) × (w ≡ record { at = r.at; len = r.written })
RunsAt None pages pages' place place' (Ok w) = ⊥
RunsAt (Some r) pages pages' place place' (Err NoStep) = ⊥
RunsAt None pages pages' place place' (Err NoStep) = (pages' ≡ pages) × (place' ≡ place)
RunsAt o pages pages' place place' (Err NoMemory) = (pages' ≡ pages) × (place' ≡ place)

-- the same in a slot, of all threads
abbrev pub ran_in : Pages → List (Option LxThread) → ℕ → Option Ran
ran_in pages threads s = ran_at pages (at_place threads s)

abbrev pub RunsIn : Option Ran → Pages → Pages → List (Option LxThread) → List (Option LxThread) → ℕ → Result Written LxRefusal → Type 0
RunsIn (Some r) pages pages' threads threads' s (Ok w) = (pages' ≡ r.pages) × (threads' ≡ with_place threads s r.thread) × (w ≡ record { at = r.at; len = r.written })
RunsIn None pages pages' threads threads' s (Ok w) = ⊥
RunsIn (Some r) pages pages' threads threads' s (Err NoStep) = ⊥
RunsIn None pages pages' threads threads' s (Err NoStep) = (pages' ≡ pages) × (threads' ≡ threads)
RunsIn o pages pages' threads threads' s (Err NoMemory) = (pages' ≡ pages) × (threads' ≡ threads)
