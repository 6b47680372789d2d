-- Effect of a call of all threads: the call is taken out of its thread, which stays in its place, and is put back.
use Rattle.std.proofs.Common.{◌≡◌, ℕ, zero, suc, List, [], ◌∷◌, Option, Some, None, slice_set, refl, ap, subst, sym, ◌∙◌, Result}
use Rattle.std.specs.Prelude.{false, slice_get, Ok, Err}
use Rattle.std.specs.Option.{option_map}
use Rattle.linux_abi.specs.Call.{call_of}
use Rattle.lx_machine.specs.Lists.{at_place, bind}
use Rattle.lx_machine.specs.Step.{in_call}
use Rattle.lx_machine.specs.Threads.{without_call, without_thread}
use Rattle.lx_machine.specs.declared.calls.LxCall.{LxCall}
use Rattle.lx_machine.specs.declared.calls.Stage.{Stage}
use Rattle.lx_machine.specs.declared.calls.Stage.TheVariants as stage
use Rattle.lx_machine.specs.declared.state.LinuxState.{LinuxState}
use Rattle.lx_machine.specs.declared.threads.LxThread.{LxThread}
use Rattle.lx_machine.specs.Shape.{stage_of}
use Rattle.lx_machine.specs.Whole.{Whole, call_put, put_whole, whole}
use Rattle.lx_machine.specs.Table.{rules_of}
use Rattle.lx_call_steps.specs.Makes.{effect_makes}
use Rattle.lx_call_steps.specs.Outcomes.{IsDecided}
use Rattle.lx_step.specs.CallSteps.{whole_effect_at}
use Rattle.lx_step.specs.Outcomes.{WholeGoes}
use Rattle.lx_step.specs.Wholes.{all_part, whole_at, taken_at, taken_of, taken_from, call_out}
use Rattle.lx_machine.specs.declared.refusal.LxRefusal.{LxRefusal}
use Rattle.lx_machine.specs.declared.refusal.LxRefusal.TheVariants.{NoStep, NoMemory}
use Rattle.lx_step.specs.Steps.{Steps}
use Rattle.lx_step.specs.Wants.{WantsIn, in_call_may_want, may_want_at}
use Rattle.lx_machine.specs.declared.files.Files.{Files}
use Rattle.lx_machine.specs.declared.label.Label.TheVariants as label
use Rattle.lx_machine.specs.declared.threads.LxWaiter.{LxWaiter}
use Rattle.lx_machine.specs.declared.threads.PiWaiter.{PiWaiter}
use Rattle.std.specs.Bool.{OnFalse}
use Rattle.lx_step.proofs.PutBack.{call_back}
use Rattle.lx_step.specs.declared.whole_steps.Taken.{Taken}

set_twice : (xs : List (Option LxThread)) (i : ℕ) (a b : Option LxThread) → slice_set (slice_set xs i a) i b ≡ slice_set xs i b
set_twice [] i a b = refl
set_twice (x ∷ xs) zero a b = refl
set_twice (x ∷ xs) (suc i) a b = let rest : slice_set (slice_set xs i a) i b ≡ slice_set xs i b = set_twice xs i a b in λ j. x ∷ rest j

-- the step of the definition is that of the state with the caller in no call, and the call is then put back
staged : (st : Stage) (L : LinuxState) (threads : List (Option LxThread)) (s : ℕ) (t : LxThread) (c : LxCall)
    → whole_effect_at st (record L { threads = slice_set threads s None }) s (without_call t) c ≡
    option_map (put_whole s) (whole_at st (record L { threads = slice_set threads s (Some (without_call t)) }) t.mask t.robust_head c)
staged stage.Effect L threads s t c =
    ap (λ (places : List (Option LxThread)). option_map (put_whole s) (all_part (rules_of c).effect (record L { threads = places }) t.mask t.robust_head c))
    (set_twice threads s None (Some (without_call t)))
staged (stage.Fetch p) L threads s t c = refl
staged stage.Hold L threads s t c = refl
staged stage.Drop L threads s t c = refl
staged stage.Move L threads s t c = refl
staged stage.Clock L threads s t c = refl
staged (stage.Queue w) L threads s t c = refl
staged (stage.Requeue r) L threads s t c = refl
staged (stage.WakeOp w) L threads s t c = refl
staged (stage.Release w) L threads s t c = refl
staged (stage.PiLock k) L threads s t c = refl
staged (stage.PiUnlock at) L threads s t c = refl
staged stage.Wait L threads s t c = refl
staged stage.WaitMany L threads s t c = refl
staged stage.PiWait L threads s t c = refl
staged stage.Rest L threads s t c = refl
staged stage.Start L threads s t c = refl
staged (stage.Mark m) L threads s t c = refl
staged (stage.Store p) L threads s t c = refl
staged stage.Leave L threads s t c = refl
staged stage.Gone L threads s t c = refl
staged stage.Kill L threads s t c = refl
staged stage.Return L threads s t c = refl

-- ---- a step

abbrev at_call : LinuxState → ℕ → LxThread → Option LxCall → Option LinuxState
at_call L s t o = bind o (λ c. whole_effect_at (stage_of c) (without_thread L s) s (without_call t) c)

abbrev whole_of : LinuxState → ℕ → LxThread → Taken → Option Whole
whole_of L s t k = whole_at (stage_of k.call) (record L { threads = slice_set L.threads s (Some (without_call t)) }) k.mask k.robust_head k.call

steps_call : (L : LinuxState) (s : ℕ) (t : LxThread) (o : Option LxCall) (k : Taken) (next : Option Whole)
    → option_map (taken_from t) o ≡ Some k → whole_of L s t k ≡ next → at_call L s t o ≡ option_map (put_whole s) next
steps_call L s t None k next is goes = cc
steps_call L s t (Some c) k next is goes =
    let same : k ≡ taken_from t c = cc in
    let goes_so : whole_of L s t (taken_from t c) ≡ next = subst (λ (taken : Taken). whole_of L s t taken ≡ next) same goes in
    rw (staged (stage_of c) L L.threads s t c, goes_so) refl

abbrev whole_by_place : LinuxState → ℕ → Option LxThread → Taken → Option Whole
whole_by_place L s p k = whole_at (stage_of k.call) (record L { threads = slice_set L.threads s (option_map without_call p) }) k.mask k.robust_head k.call

steps_place : (L : LinuxState) (s : ℕ) (p : Option LxThread) (k : Taken) (next : Option Whole)
    → bind p taken_of ≡ Some k → whole_by_place L s p k ≡ next
    → bind p (λ t. at_call L s t t.call) ≡ option_map (put_whole s) next
steps_place L s None k next is goes = cc
steps_place L s (Some t) k next is goes = steps_call L s t t.call k next is goes

-- where the step of all threads is there, so is that of the definition
pub steps : (L L' : LinuxState) (s : ℕ) (k : Taken) (c' : LxCall)
    → taken_at L.threads s ≡ Some k
    → whole_at (stage_of k.call) (record L { threads = call_out L.threads s }) k.mask k.robust_head k.call ≡ Some (whole L' c')
    → in_call L s whole_effect_at ≡ Some (record L' { threads = call_put L'.threads s c' })
steps L L' s k c' is goes = steps_place L s (at_place L.threads s) k (Some (whole L' c')) is goes

pub rests : (L : LinuxState) (s : ℕ) (k : Taken)
    → taken_at L.threads s ≡ Some k
    → whole_at (stage_of k.call) (record L { threads = call_out L.threads s }) k.mask k.robust_head k.call ≡ None
    → in_call L s whole_effect_at ≡ None
rests L s k is goes = steps_place L s (at_place L.threads s) k None is goes

-- ---- a call that is put back changes nothing

back_in_call : (xs : List (Option LxThread)) (s : ℕ) (t : LxThread) (c : LxCall) → slice_get xs s ≡ Some (Some t) → t.call ≡ Some c
    → call_put (slice_set xs s (Some (without_call t))) s c ≡ xs
back_in_call [] s t c is call_is = cc
back_in_call (x ∷ xs) zero t c is call_is =
    let same : x ≡ Some t = cc in
    rw (same, call_back t c call_is) refl
back_in_call (x ∷ xs) (suc s) t c is call_is =
    let rest : call_put (slice_set xs s (Some (without_call t))) s c ≡ xs = back_in_call xs s t c is call_is in
    λ j. x ∷ rest j

back_by_call : (xs : List (Option LxThread)) (s : ℕ) (t : LxThread) (o : Option LxCall) (k : Taken) → slice_get xs s ≡ Some (Some t) → t.call ≡ o
    → option_map (taken_from t) o ≡ Some k → call_put (slice_set xs s (Some (without_call t))) s k.call ≡ xs
back_by_call xs s t None k is call_is has = cc
back_by_call xs s t (Some c) k is call_is has =
    let same : k ≡ taken_from t c = cc in
    subst (λ (taken : Taken). call_put (slice_set xs s (Some (without_call t))) s taken.call ≡ xs) (sym same) (back_in_call xs s t c is call_is)

back_by_place : (xs : List (Option LxThread)) (s : ℕ) (g : Option (Option LxThread)) (k : Taken) → slice_get xs s ≡ g
    → bind (bind g (λ p. p)) taken_of ≡ Some k → call_put (slice_set xs s (option_map without_call (bind g (λ p. p)))) s k.call ≡ xs
back_by_place xs s None k is has = cc
back_by_place xs s (Some None) k is has = cc
back_by_place xs s (Some (Some t)) k is has = back_by_call xs s t t.call k is refl has

pub back : (L : LinuxState) (s : ℕ) (k : Taken) → taken_at L.threads s ≡ Some k
    → record L { threads = call_put (call_out L.threads s) s k.call } ≡ L
back L s k is =
    ap (λ (threads : List (Option LxThread)). record L { threads = threads }) (back_by_place L.threads s (slice_get L.threads s) k refl is)

-- ---- no call

without_none : (t : LxThread) → t.call ≡ None → without_call t ≡ t
without_none t is = ap (λ (o : Option LxCall). record t { call = o }) (sym is)

same_place : (xs : List (Option LxThread)) (s : ℕ) (p : Option LxThread) → slice_get xs s ≡ Some p → slice_set xs s p ≡ xs
same_place [] s p is = refl
same_place (x ∷ xs) zero p is = let same : p ≡ x = cc in rw same refl
same_place (x ∷ xs) (suc s) p is = let rest : slice_set xs s p ≡ xs = same_place xs s p is in λ j. x ∷ rest j

pub set_past : (xs : List (Option LxThread)) (s : ℕ) (p : Option LxThread) → slice_get xs s ≡ None → slice_set xs s p ≡ xs
set_past [] s p is = refl
set_past (x ∷ xs) zero p is = cc
set_past (x ∷ xs) (suc s) p is = let rest : slice_set xs s p ≡ xs = set_past xs s p is in λ j. x ∷ rest j

none_by_call : (xs : List (Option LxThread)) (s : ℕ) (t : LxThread) (o : Option LxCall) → slice_get xs s ≡ Some (Some t) → t.call ≡ o
    → option_map (taken_from t) o ≡ None → slice_set xs s (Some (without_call t)) ≡ xs
none_by_call xs s t None is call_is has = rw (without_none t call_is) (same_place xs s (Some t) is)
none_by_call xs s t (Some c) is call_is has = cc

none_by_place : (xs : List (Option LxThread)) (s : ℕ) (g : Option (Option LxThread)) → slice_get xs s ≡ g
    → bind (bind g (λ p. p)) taken_of ≡ None → slice_set xs s (option_map without_call (bind g (λ p. p))) ≡ xs
none_by_place xs s None is has = set_past xs s None is
none_by_place xs s (Some None) is has = same_place xs s None is
none_by_place xs s (Some (Some t)) is has = none_by_call xs s t t.call is refl has

pub unchanged : (L : LinuxState) (s : ℕ) → taken_at L.threads s ≡ None → record L { threads = call_out L.threads s } ≡ L
unchanged L s is =
    ap (λ (threads : List (Option LxThread)). record L { threads = threads }) (none_by_place L.threads s (slice_get L.threads s) refl is)

no_step_call : (L : LinuxState) (s : ℕ) (t : LxThread) (o : Option LxCall) → option_map (taken_from t) o ≡ None → at_call L s t o ≡ None
no_step_call L s t None has = refl
no_step_call L s t (Some c) has = cc

no_step_place : (L : LinuxState) (s : ℕ) (p : Option LxThread) → bind p taken_of ≡ None → bind p (λ t. at_call L s t t.call) ≡ None
no_step_place L s None has = refl
no_step_place L s (Some t) has = no_step_call L s t t.call has

pub no_step : (L : LinuxState) (s : ℕ) → taken_at L.threads s ≡ None → in_call L s whole_effect_at ≡ None
no_step L s has = no_step_place L s (at_place L.threads s) has

-- ---- the step, from the parts that the code has

ended : (L L2 : LinuxState) (s : ℕ) (k : Taken) (c2 : LxCall) (result : Result (Unit {0}) LxRefusal)
    → taken_at L.threads s ≡ Some k
    → WholeGoes (whole_at (stage_of k.call) (record L { threads = call_out L.threads s }) k.mask k.robust_head k.call) (record L { threads = call_out L.threads s }) L2 k.call c2 result
    → Steps (in_call L s whole_effect_at) L (record L2 { threads = call_put L2.threads s c2 }) result
ended L L2 s k c2 (Ok done) is goes = steps L L2 s k c2 is goes
ended L L2 s k c2 (Err NoStep) is goes =
    let (none, unchanged) = goes in
    let (same, same_call) = unchanged in
    (rests L s k is none, (λ i. record (same i) { threads = call_put (same i).threads s (same_call i) }) ∙ back L s k is)
ended L L2 s k c2 (Err NoMemory) is goes =
    let (same, same_call) = goes in
    (λ i. record (same i) { threads = call_put (same i).threads s (same_call i) }) ∙ back L s k is

pub ends : (L L1 L2 : LinuxState) (s : ℕ) (k : Taken) (c2 : LxCall) (threads2 : List (Option LxThread)) (result : Result (Unit {0}) LxRefusal)
    → taken_at L.threads s ≡ Some k
    → L1 ≡ record L { threads = call_out L.threads s }
    → WholeGoes (whole_at (stage_of k.call) L1 k.mask k.robust_head k.call) L1 L2 k.call c2 result
    → threads2 ≡ call_put L2.threads s c2
    → Steps (in_call L s whole_effect_at) L (record L2 { threads = threads2 }) result
ends L L1 L2 s k c2 threads2 result is out_is goes put =
    subst (λ (threads : List (Option LxThread)). Steps (in_call L s whole_effect_at) L (record L2 { threads = threads }) result) (sym put)
    (ended L L2 s k c2 result is
    (subst (λ (M : LinuxState). WholeGoes (whole_at (stage_of k.call) M k.mask k.robust_head k.call) M L2 k.call c2 result) out_is goes))

-- ---- want of memory

wants_call : (n : ℕ) (F : Files) (ws : List LxWaiter) (ls : List PiWaiter) (t : LxThread) (o : Option LxCall) (k : Taken) (r : Result (Unit {0}) LxRefusal)
    → option_map (taken_from t) o ≡ Some k → OnFalse (effect_makes (call_of k.call.number)) (IsDecided r)
    → OnFalse (in_call_may_want (label.Effect n false) F ws ls o) (IsDecided r)
wants_call n F ws ls t None k r is h = cc
wants_call n F ws ls t (Some c) k r is h =
    let same : k ≡ taken_from t c = cc in
    subst (λ (taken : Taken). OnFalse (effect_makes (call_of taken.call.number)) (IsDecided r)) same h

wants_place : (L : LinuxState) (n : ℕ) (p : Option LxThread) (k : Taken) (r : Result (Unit {0}) LxRefusal)
    → bind p taken_of ≡ Some k → OnFalse (effect_makes (call_of k.call.number)) (IsDecided r)
    → OnFalse (may_want_at (label.Effect n false) L p) (IsDecided r)
wants_place L n None k r is h = cc
wants_place L n (Some t) k r is h = wants_call n L.files L.queue L.pi_queue t t.call k r is h

-- an effect on all threads wants memory only by its call
pub wants : (L : LinuxState) (n s : ℕ) (k : Taken) (r : Result (Unit {0}) LxRefusal)
    → taken_at L.threads s ≡ Some k → OnFalse (effect_makes (call_of k.call.number)) (IsDecided r) → WantsIn L (label.Effect n false) s r
wants L n s k r is h = wants_place L n (at_place L.threads s) k r is h
