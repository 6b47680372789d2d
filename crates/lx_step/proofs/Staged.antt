-- Gone by what comes next of a call; Effect of a call of all threads or of its own thread.
use Rattle.std.proofs.Common.{◌≡◌, ℕ, Option, Some, None, refl, subst, sym, true, false}
use Rattle.std.specs.Prelude.{if◌then◌else◌}
use Rattle.std.specs.Option.{option_or}
use Rattle.lx_machine.specs.Lists.{at_place, bind}
use Rattle.lx_machine.specs.Step.{effect, gone, in_call, of_call}
use Rattle.lx_machine.specs.Threads.{without_call, without_thread}
use Rattle.lx_machine.specs.declared.calls.LxCall.{LxCall}
use Rattle.lx_machine.specs.declared.calls.Stage.{Stage}
use Rattle.lx_machine.specs.declared.calls.Stage.TheVariants as stage
use Rattle.lx_machine.specs.declared.state.LinuxState.{LinuxState}
use Rattle.lx_machine.specs.declared.threads.LxThread.{LxThread}
use Rattle.lx_machine.specs.Shape.{stage_of}
use Rattle.lx_machine.specs.Rules.{Effect, OnAll, OnFiles, OnNothing, OnSpace, OnThread, has_effect}
use Rattle.lx_machine.specs.Table.{rules_of}
use Rattle.lx_call_steps.specs.Effects.{own_effect_at, own_part}
use Rattle.lx_step.specs.CallSteps.{after_gone, after_gone_in, is_gone, is_gone_in, is_gone_stage, whole_effect_at}
use Rattle.lx_step.specs.Wholes.{whole_part}

-- ---- Gone

staged : (st : Stage) (L : LinuxState) (s : ℕ) (t : LxThread) (c : LxCall)
    → gone st L s t c ≡ (if is_gone_stage st then Some (after_gone_in L (Some c)) else None)
staged stage.Gone L s t c = refl
staged (stage.Fetch p) L s t c = refl
staged stage.Hold L s t c = refl
staged stage.Drop L s t c = refl
staged stage.Effect L s t c = refl
staged stage.Move L s t c = refl
staged stage.Clock L s t c = refl
staged (stage.Queue w) L s t c = refl
staged (stage.Requeue r) L s t c = refl
staged (stage.WakeOp w) L s t c = refl
staged (stage.Release w) L s t c = refl
staged (stage.PiLock k) L s t c = refl
staged (stage.PiUnlock at) L s t c = refl
staged stage.Wait L s t c = refl
staged stage.WaitMany L s t c = refl
staged stage.PiWait L s t c = refl
staged stage.Rest L s t c = refl
staged stage.Start L s t c = refl
staged (stage.Mark m) L s t c = refl
staged (stage.Store p) L s t c = refl
staged stage.Leave L s t c = refl
staged stage.Kill L s t c = refl
staged stage.Return L s t c = refl

gone_in : (L : LinuxState) (s : ℕ) (t : LxThread) (o : Option LxCall)
    → bind o (λ c. gone (stage_of c) L s (without_call t) c) ≡ (if is_gone_in o then Some (after_gone_in L o) else None)
gone_in L s t None = refl
gone_in L s t (Some c) = staged (stage_of c) L s (without_call t) c

gone_at : (L : LinuxState) (s : ℕ) (t : LxThread) → at_place L.threads s ≡ Some t
    → in_call L s (gone) ≡ (if is_gone t then Some (after_gone (without_thread L s) t) else None)
gone_at L s t is =
    subst (λ (p : Option LxThread). bind p (λ t. of_call (gone) (without_thread L s) s t) ≡ (if is_gone t then Some (after_gone (without_thread L s) t) else None))
    (sym is) (gone_in (without_thread L s) s t t.call)

pub goes : (L : LinuxState) (s : ℕ) (t : LxThread) → at_place L.threads s ≡ Some t → is_gone t ≡ true
    → in_call L s (gone) ≡ Some (after_gone (without_thread L s) t)
goes L s t is so = rw (gone_at L s t is, so) refl

pub stays : (L : LinuxState) (s : ℕ) (t : LxThread) → at_place L.threads s ≡ Some t → is_gone t ≡ false
    → in_call L s (gone) ≡ None
stays L s t is so = rw (gone_at L s t is, so) refl

-- ---- Effect

-- an effect is on all threads, or is one of those that change no other
parts : (e : Effect) (L : LinuxState) (s : ℕ) (t : LxThread) (c : LxCall)
    → has_effect e L s t c ≡ option_or (whole_part e L s t c) (own_part e L s t c)
parts OnNothing L s t c = refl
parts (OnFiles f) L s t c = refl
parts (OnSpace f) L s t c = refl
parts (OnThread f) L s t c = refl
parts (OnAll f) L s t c = refl

effect_staged : (st : Stage) (L : LinuxState) (s : ℕ) (t : LxThread) (c : LxCall)
    → effect false st L s t c ≡ option_or (whole_effect_at st L s t c) (own_effect_at false st L s t c)
effect_staged (stage.Fetch p) L s t c = refl
effect_staged stage.Hold L s t c = refl
effect_staged stage.Drop L s t c = refl
effect_staged stage.Effect L s t c = parts (rules_of c).effect L s t c
effect_staged stage.Move L s t c = refl
effect_staged stage.Clock L s t c = refl
effect_staged (stage.Queue w) L s t c = refl
effect_staged (stage.Requeue r) L s t c = refl
effect_staged (stage.WakeOp w) L s t c = refl
effect_staged (stage.Release w) L s t c = refl
effect_staged (stage.PiLock k) L s t c = refl
effect_staged (stage.PiUnlock at) L s t c = refl
effect_staged stage.Wait L s t c = refl
effect_staged stage.WaitMany L s t c = refl
effect_staged stage.PiWait L s t c = refl
effect_staged stage.Rest L s t c = refl
effect_staged stage.Start L s t c = refl
effect_staged (stage.Mark m) L s t c = refl
effect_staged (stage.Store p) L s t c = refl
effect_staged stage.Leave L s t c = refl
effect_staged stage.Gone L s t c = refl
effect_staged stage.Kill L s t c = refl
effect_staged stage.Return L s t c = refl

effect_in : (L : LinuxState) (s : ℕ) (t : LxThread) (o : Option LxCall)
    → bind o (λ c. effect false (stage_of c) L s t c) ≡
    option_or (bind o (λ c. whole_effect_at (stage_of c) L s t c)) (bind o (λ c. own_effect_at false (stage_of c) L s t c))
effect_in L s t None = refl
effect_in L s t (Some c) = effect_staged (stage_of c) L s t c

effect_at : (L : LinuxState) (s : ℕ) (p : Option LxThread)
    → bind p (λ t. of_call (effect false) L s t) ≡
    option_or (bind p (λ t. of_call whole_effect_at L s t)) (bind p (λ t. of_call (own_effect_at false) L s t))
effect_at L s None = refl
effect_at L s (Some t) = effect_in L s (without_call t) t.call

pub goes_by_parts : (L : LinuxState) (s : ℕ)
    → in_call L s (effect false) ≡
    option_or (in_call L s whole_effect_at) (in_call L s (own_effect_at false))
goes_by_parts L s = effect_at (without_thread L s) s (at_place L.threads s)

short_staged : (st : Stage) (L : LinuxState) (s : ℕ) (t : LxThread) (c : LxCall)
    → effect true st L s t c ≡ own_effect_at true st L s t c
short_staged (stage.Fetch p) L s t c = refl
short_staged stage.Hold L s t c = refl
short_staged stage.Drop L s t c = refl
short_staged stage.Effect L s t c = refl
short_staged stage.Move L s t c = refl
short_staged stage.Clock L s t c = refl
short_staged (stage.Queue w) L s t c = refl
short_staged (stage.Requeue r) L s t c = refl
short_staged (stage.WakeOp w) L s t c = refl
short_staged (stage.Release w) L s t c = refl
short_staged (stage.PiLock k) L s t c = refl
short_staged (stage.PiUnlock at) L s t c = refl
short_staged stage.Wait L s t c = refl
short_staged stage.WaitMany L s t c = refl
short_staged stage.PiWait L s t c = refl
short_staged stage.Rest L s t c = refl
short_staged stage.Start L s t c = refl
short_staged (stage.Mark m) L s t c = refl
short_staged (stage.Store p) L s t c = refl
short_staged stage.Leave L s t c = refl
short_staged stage.Gone L s t c = refl
short_staged stage.Kill L s t c = refl
short_staged stage.Return L s t c = refl

short_in : (L : LinuxState) (s : ℕ) (t : LxThread) (o : Option LxCall)
    → bind o (λ c. effect true (stage_of c) L s t c) ≡ bind o (λ c. own_effect_at true (stage_of c) L s t c)
short_in L s t None = refl
short_in L s t (Some c) = short_staged (stage_of c) L s t c

short_at : (L : LinuxState) (s : ℕ) (p : Option LxThread)
    → bind p (λ t. of_call (effect true) L s t) ≡ bind p (λ t. of_call (own_effect_at true) L s t)
short_at L s None = refl
short_at L s (Some t) = short_in L s (without_call t) t.call

pub runs_short : (L : LinuxState) (s : ℕ)
    → in_call L s (effect true) ≡ in_call L s (own_effect_at true)
runs_short L s = short_at (without_thread L s) s (at_place L.threads s)
