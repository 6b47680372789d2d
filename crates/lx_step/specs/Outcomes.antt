-- What a step of a thread, or of all threads, leaves, where there is one, none, or memory is wanting.
use Rattle.std.specs.Prelude.{◌≡◌, ℕ, Option, Result}
use Rattle.lx_machine.specs.Answers.{Goes}
use Rattle.lx_machine.specs.Threads.{with_thread}
use Rattle.lx_machine.specs.Whole.{Whole, whole}
use Rattle.lx_machine.specs.declared.calls.LxCall.{LxCall}
use Rattle.lx_machine.specs.declared.refusal.LxRefusal.{LxRefusal}
use Rattle.lx_machine.specs.declared.state.LinuxState.{LinuxState}
use Rattle.lx_machine.specs.declared.threads.LxThread.{LxThread}

-- what a step of a thread leaves, of the state in which the thread's place is free. No step exactly where there is none; a refusal
-- leaves all as it was
abbrev pub ThreadGoes : Option LinuxState → LinuxState → LinuxState → ℕ → LxThread → LxThread → Result (Unit {0}) LxRefusal → Type 0
ThreadGoes next L L' s t t' result = Goes next (λ done. with_thread L' s t') ((L' ≡ L) × (t' ≡ t)) result

-- what a step of all threads leaves, of the state with the caller in its place but in no call
abbrev pub WholeGoes : Option Whole → LinuxState → LinuxState → LxCall → LxCall → Result (Unit {0}) LxRefusal → Type 0
WholeGoes next L L' c c' result = Goes next (λ done. whole L' c') ((L' ≡ L) × (c' ≡ c)) result
