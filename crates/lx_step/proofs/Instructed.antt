-- A step in the place of a thread is a step of the state.
use Rattle.std.proofs.Common.{◌≡◌, ℕ, Bool, true, false, List, Option, Some, None, refl}
use Rattle.std.specs.Prelude.{if◌then◌else◌, Ok, Err}
use Rattle.page_store.specs.Pages.{Pages}
use Rattle.lx_machine.specs.Lists.{at_place, bind}
use Rattle.lx_machine.specs.Instruction.{Ran, instruction, ran}
use Rattle.lx_machine.specs.Threads.{after_write, is_user, outside_call}
use Rattle.lx_machine.specs.declared.state.LinuxState.{LinuxState}
use Rattle.lx_machine.specs.declared.threads.LxThread.{LxThread}
use Rattle.lx_step.specs.Places.{ran_at, ran_in, RunsIn}
use Rattle.lx_instructions.specs.declared.instruction.Written.{Written}
use Rattle.lx_machine.specs.declared.refusal.LxRefusal.TheVariants.{NoStep}

-- the instruction of the thread at a place, as a step of the state
abbrev at_a_place : LinuxState → ℕ → Option LxThread → Option LinuxState
at_a_place L s p = bind p (λ t. if is_user t then Some (instruction L s t) else None)

-- the state after it
abbrev after_run : LinuxState → ℕ → List (Option LxThread) → Pages → Written → LinuxState
after_run L s threads' pages' w = record L { space = record L.space { pages = pages' }; threads = after_write s w.at w.len threads' }

runs : (L : LinuxState) (s : ℕ) (t : LxThread) (b : Bool) (threads' : List (Option LxThread)) (pages' : Pages) (w : Written)
    → RunsIn (if b then Some (ran L.space.pages t) else None) L.space.pages pages' L.threads threads' s (Ok w)
    → (if b then Some (instruction L s t) else None) ≡ Some (after_run L s threads' pages' w)
runs L s t false threads' pages' w is = absurd is
runs L s t true threads' pages' w is = let (pages_are, threads_are, written_is) = is in rw (pages_are, threads_are, written_is) refl

steps_at : (L : LinuxState) (s : ℕ) (p : Option LxThread) (threads' : List (Option LxThread)) (pages' : Pages) (w : Written)
    → RunsIn (ran_at L.space.pages p) L.space.pages pages' L.threads threads' s (Ok w)
    → at_a_place L s p ≡ Some (after_run L s threads' pages' w)
steps_at L s None threads' pages' w is = absurd is
steps_at L s (Some t) threads' pages' w is = runs L s t (is_user t) threads' pages' w is

pub steps : (L : LinuxState) (s : ℕ) (threads' : List (Option LxThread)) (pages' : Pages) (w : Written)
    → RunsIn (ran_in L.space.pages L.threads s) L.space.pages pages' L.threads threads' s (Ok w)
    → outside_call L s (λ t. Some (instruction L s t)) ≡ Some (record L { space = record L.space { pages = pages' }; threads = after_write s w.at w.len threads' })
steps L s threads' pages' w is = steps_at L s (at_place L.threads s) threads' pages' w is

rests : (L : LinuxState) (s : ℕ) (t : LxThread) (b : Bool) (threads' : List (Option LxThread)) (pages' : Pages)
    → RunsIn (if b then Some (ran L.space.pages t) else None) L.space.pages pages' L.threads threads' s (Err NoStep)
    → (if b then Some (instruction L s t) else None) ≡ None
rests L s t false threads' pages' is = refl
rests L s t true threads' pages' is = absurd is

rests_at : (L : LinuxState) (s : ℕ) (p : Option LxThread) (threads' : List (Option LxThread)) (pages' : Pages)
    → RunsIn (ran_at L.space.pages p) L.space.pages pages' L.threads threads' s (Err NoStep)
    → at_a_place L s p ≡ None
rests_at L s None threads' pages' is = refl
rests_at L s (Some t) threads' pages' is = rests L s t (is_user t) threads' pages' is

pub no_step : (L : LinuxState) (s : ℕ) (threads' : List (Option LxThread)) (pages' : Pages)
    → RunsIn (ran_in L.space.pages L.threads s) L.space.pages pages' L.threads threads' s (Err NoStep)
    → outside_call L s (λ t. Some (instruction L s t)) ≡ None
no_step L s threads' pages' is = rests_at L s (at_place L.threads s) threads' pages' is

unchanged_by : (o : Option Ran) (pages pages' : Pages) (threads threads' : List (Option LxThread)) (s : ℕ)
    → RunsIn o pages pages' threads threads' s (Err NoStep) → (pages' ≡ pages) × (threads' ≡ threads)
unchanged_by None pages pages' threads threads' s is = is
unchanged_by (Some r) pages pages' threads threads' s is = absurd is
