-- A step of a thread in a call, whose thread and call are known.
use Rattle.std.proofs.Common.{ℕ, IfSome}
use Rattle.lx_machine.specs.Lists.{at_place}
use Rattle.lx_machine.specs.Shape.{stage_of}
use Rattle.lx_machine.specs.Step.{in_call, of_call}
use Rattle.lx_machine.specs.Threads.{InCall, without_call, without_thread}
use Rattle.lx_machine.specs.declared.calls.LxCall.{LxCall}
use Rattle.lx_machine.specs.declared.calls.Stage.{Stage}
use Rattle.lx_machine.specs.declared.state.LinuxState.{LinuxState}
use Rattle.lx_machine.specs.declared.threads.LxThread.{LxThread}
use Rattle.lx_laws.specs.Callers.{IsInCall}
use Rattle.lx_laws.proofs.Results.{for_some, of_bind_at}

pub known : (f : Stage → InCall) (R : LxThread → LxCall → LinuxState → Type 0) (L : LinuxState) (s : ℕ) →
    ((t : LxThread) (c : LxCall) → IfSome (f (stage_of c) (without_thread L s) s (without_call t) c) (R t c)) → IfSome (in_call L s f) (λ next. IsInCall L s (λ t c. R t c next))
known f R L s h =
    of_bind_at (λ next. IsInCall L s (λ t c. R t c next)) (at_place L.threads s) (λ t. of_call f (without_thread L s) s t) (λ t at.
    of_bind_at (λ next. IsInCall L s (λ t c. R t c next)) t.call (λ c. f (stage_of c) (without_thread L s) s (without_call t) c) (λ c calls.
    for_some (R t c) (λ next. IsInCall L s (λ t c. R t c next)) (f (stage_of c) (without_thread L s) s (without_call t) c)
    (λ next e. record { thread = t; call = c; in_place = at; in_call = calls; holds = e }) (h t c)))

-- what follows from what is known of the two
pub follow : (L : LinuxState) (s : ℕ) (P Q : LxThread → LxCall → Type 0) → ((t : LxThread) (c : LxCall) → P t c → Q t c) → IsInCall L s P → IsInCall L s Q
follow L s P Q f h = record { thread = h.thread; call = h.call; in_place = h.in_place; in_call = h.in_call; holds = f h.thread h.call h.holds }
