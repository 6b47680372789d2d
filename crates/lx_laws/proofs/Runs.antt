-- Runs, step by step.
use Rattle.std.proofs.Common.{◌≡◌, List, [], ◌∷◌, Option, Some, None, refl, subst}
use Rattle.lx_machine.specs.Lists.{bind}
use Rattle.lx_machine.specs.Start.{start}
use Rattle.lx_machine.specs.Step.{LRun, LStep}
use Rattle.lx_machine.specs.declared.label.Label.{Label}
use Rattle.lx_machine.specs.declared.state.LinuxState.{LinuxState}
use Rattle.lx_laws.specs.Kept.{HoldsAlways, HoldsAtStart, IsKept}
use Rattle.lx_laws.proofs.Apart.{some_is}

pub bind_some : {A B : Type 0} (o : Option A) (f : A → Option B) (y : B) → bind o f ≡ Some y → (x : A) × (o ≡ Some x) × (f x ≡ Some y)
bind_some None f y h = absurd (cc)
bind_some (Some x) f y h = (x, refl, h)

-- what holds of a state and itself, and is carried over each step, holds over a run
pub over_run : (R : LinuxState → LinuxState → Type 0) → ((L : LinuxState) → R L L) → ((L next last : LinuxState) (l : Label) → LStep L l ≡ Some next → R next last → R L last) → (L last : LinuxState) (ls : List Label) → LRun L ls ≡ Some last → R L last
over_run R same step L last [] e = subst (R L) (some_is L last e) (same L)
over_run R same step L last (l ∷ ls) e =
    let first = bind_some (LStep L l) (λ next. LRun next ls) last e in
    step L first.0 last l first.1 (over_run R same step first.0 last ls first.2)

-- what each step keeps
pub kept_over_run : (P : LinuxState → Type 0) → IsKept P → (L last : LinuxState) (ls : List Label) → P L → LRun L ls ≡ Some last → P last
kept_over_run P kept L last ls h e = over_run (λ M N. P M → P N) (λ M k. k) (λ M next N l step later k. later (kept M next l k step)) L last ls e h

pub always : (P : LinuxState → Type 0) → HoldsAtStart P → IsKept P → HoldsAlways P
always P begins kept image name arguments input seed rules ls last e =
    kept_over_run P kept (start image name arguments input seed rules) last ls (begins image name arguments input seed rules) e
