-- Runs of no step, of one step, and one after the other.
use Rattle.std.proofs.Common.{◌≡◌, List, [], ◌∷◌, ◌++◌, Option, Some, None, refl, arith}
use Rattle.lx_machine.specs.Lists.{bind}
use Rattle.lx_machine.specs.declared.label.Label.{Label}
use Rattle.lx_machine.specs.declared.state.LinuxState.{LinuxState}
use Rattle.lx_machine.specs.Step.{LRun, LStep}
use Rattle.lx_machine.specs.Step.{step_of, unless_ended}
use Rattle.lx_machine.specs.declared.threads.GuestEnd.{GuestEnd}
use Rattle.lx_scheduler.specs.Play.{Reaches, HasEnded, IsEarly}
use Rattle.lx_scheduler.specs.declared.play.RunEnd.{RunEnd}
use Rattle.lx_scheduler.specs.declared.play.RunEnd.TheVariants as run_end

pub here : (L : LinuxState) → Reaches L L
here L = record { labels = []; goes = refl }

once : (o : Option LinuxState) (b : LinuxState) → o ≡ Some b → bind o (λ next. LRun next []) ≡ Some b
once None b is = is
once (Some a) b is = is

pub one : (L L' : LinuxState) (l : Label) → LStep L l ≡ Some L' → Reaches L L'
one L L' l is = record { labels = l ∷ []; goes = once (LStep L l) L' is }

pub stays : (L L' : LinuxState) → L' ≡ L → Reaches L L'
stays L L' same = rw same (here L)

-- a run goes on from what a step gives
after : (o : Option LinuxState) (xs ys : List Label) (b c : LinuxState) → bind o (λ next. LRun next xs) ≡ Some b → LRun b ys ≡ Some c → bind o (λ next. LRun next (xs ++ ys)) ≡ Some c
after None xs ys b c first then = grind arith
after (Some a) [] ys b c first then = grind arith
after (Some a) (x ∷ xs) ys b c first then = after (LStep a x) xs ys b c first then

pub onward : (a b c : LinuxState) → Reaches a b → Reaches b c → Reaches a c
onward a b c first then = record { labels = first.labels ++ then.labels; goes = after (Some a) first.labels then.labels b c first.goes then.goes }

pub onward_twice : (a b c d : LinuxState) → Reaches a b → Reaches b c → Reaches c d → Reaches a d
onward_twice a b c d first then last = onward a c d (onward a b c first then) last

-- ---- a guest that has ended stays as it is

no_next : (o : Option GuestEnd) (e : GuestEnd) (next : Option LinuxState) (f : LinuxState → Option LinuxState) (b : LinuxState) → o ≡ Some e → bind (unless_ended o next) f ≡ Some b → ⊥
no_next None e next f b is goes = absurd (cc)
no_next (Some x) e next f b is goes = absurd (cc)

at_end : (labels : List Label) (L L' : LinuxState) (e : GuestEnd) → L.end ≡ Some e → LRun L labels ≡ Some L' → L'.end ≡ Some e
at_end [] L L' e is goes = grind arith
at_end (l ∷ labels) L L' e is goes = absurd (no_next L.end e (step_of L l) (λ next. LRun next labels) L' is goes)

pub still_ended : (L L' : LinuxState) (end : RunEnd) → HasEnded L end → Reaches L L' → HasEnded L' end
still_ended L L' (run_end.Ended e) is r = at_end r.labels L L' e is r.goes
still_ended L L' run_end.Standstill is r = tt
still_ended L L' run_end.BudgetSpent is r = tt
still_ended L L' run_end.NoMemory is r = tt
still_ended L L' run_end.WriteFailed is r = tt

pub ended_early : (L : LinuxState) (end : RunEnd) → IsEarly end → HasEnded L end
ended_early L (run_end.Ended e) is = absurd is
ended_early L run_end.Standstill is = tt
ended_early L run_end.BudgetSpent is = tt
ended_early L run_end.NoMemory is = tt
ended_early L run_end.WriteFailed is = tt
