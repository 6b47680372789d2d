-- One step of the Linux machine, opened: a run of one label, and the step of a thread in its call.
use Rattle.std.proofs.Common.{◌≡◌, ℕ, false, [], ◌∷◌, Option, Some, None, ap, ◌∙◌}
use Rattle.linux_abi.specs.Call.{call_of}
use Rattle.linux_abi.specs.declared.calls.Call.{Call}
use Rattle.lx_machine.specs.Lists.{at_place, bind}
use Rattle.lx_machine.specs.Rules.{has_effect}
use Rattle.lx_machine.specs.Shape.{stage_of}
use Rattle.lx_machine.specs.Step.{LRun, effect_of, in_call, of_call, step_of, unless_ended}
use Rattle.lx_machine.specs.Table.{rules, rules_at}
use Rattle.lx_machine.specs.Threads.{InCall, without_call, without_thread}
use Rattle.lx_machine.specs.declared.calls.LxCall.{LxCall}
use Rattle.lx_machine.specs.declared.calls.Stage.{Stage}
use Rattle.lx_machine.specs.declared.label.Label.{Label}
use Rattle.lx_machine.specs.declared.state.LinuxState.{LinuxState}
use Rattle.lx_machine.specs.declared.threads.GuestEnd.{GuestEnd}
use Rattle.lx_machine.specs.declared.threads.LxThread.{LxThread}

-- a run of one label
pub step_runs : (L L' : LinuxState) (l : Label) → L.end ≡ None → step_of L l ≡ Some L' → LRun L (l ∷ []) ≡ Some L'
step_runs L L' l on step =
    ap (λ (e : Option GuestEnd). bind (unless_ended e (step_of L l)) (λ (n : LinuxState). Some n)) on ∙ ap (λ (o : Option LinuxState). bind o (λ (n : LinuxState). Some n)) step

-- the step of a thread in its call, where its call is at this stage
pub in_call_is : (L : LinuxState) (s : ℕ) (t : LxThread) (c : LxCall) (st : Stage) (f : Stage → InCall) → at_place L.threads s ≡ Some t → t.call ≡ Some c → stage_of c ≡ st
    → in_call L s f ≡ f st (without_thread L s) s (without_call t) c
in_call_is L s t c st f there called next =
    ap (λ (o : Option LxThread). bind o (λ t. of_call f (without_thread L s) s t)) there
    ∙ ap (λ (o : Option LxCall). bind o (λ c. f (stage_of c) (without_thread L s) s (without_call t) c)) called
    ∙ ap (λ (z : Stage). f z (without_thread L s) s (without_call t) c) next

-- the effect of a call, by which call it is
pub effect_is : (L : LinuxState) (s : ℕ) (t : LxThread) (c : LxCall) (k : Call) → call_of c.number ≡ Some k → effect_of false L s t c ≡ has_effect (rules k).effect L s t c
effect_is L s t c k is = ap (λ (o : Option Call). has_effect (rules_at o).effect L s t c) is
