-- What a step of a thread in its call leaves of the state, the thread and the call, where there is one, none, or memory is wanting.
use Rattle.std.specs.Prelude.{◌≡◌, ℕ, List, Option, Some, None, Result, Ok, Err, ⊤}
use Rattle.std.specs.Option.{option_map}
use Rattle.a64_model.specs.declared.regs.Regs.{Regs}
use Rattle.lx_machine.specs.Answers.{Goes}
use Rattle.lx_machine.specs.Clone.{started, without_child}
use Rattle.lx_machine.specs.Lists.{with_place}
use Rattle.lx_machine.specs.Move.{on_transfer, transferred}
use Rattle.lx_machine.specs.Rules.{GivenUp, given_up}
use Rattle.lx_machine.specs.Threads.{InCall, in_call_of}
use Rattle.lx_machine.specs.declared.calls.LxCall.{LxCall}
use Rattle.lx_machine.specs.declared.refusal.LxRefusal.{LxRefusal}
use Rattle.lx_machine.specs.declared.refusal.LxRefusal.TheVariants.{NoStep, NoMemory}
use Rattle.lx_machine.specs.declared.state.LinuxState.{LinuxState}
use Rattle.lx_machine.specs.declared.threads.LxThread.{LxThread}

-- what a step of a thread in a call leaves: of the state in which the thread's place is free, of the thread in no call, and
-- of the call. No step exactly where there is none; a refusal leaves all as it was
abbrev pub CallGoes : Option LinuxState → LinuxState → LinuxState → ℕ → LxThread → LxThread → LxCall → LxCall → Result (Unit {0}) LxRefusal → Type 0
CallGoes next L L' s t t' c c' result = Goes next (λ done. in_call_of L' s t' c') ((L' ≡ L) × (t' ≡ t) × (c' ≡ c)) result

-- a step that needs no memory is never refused for want of it
abbrev pub IsDecided : Result (Unit {0}) LxRefusal → Type 0
IsDecided (Ok done) = ⊤
IsDecided (Err NoStep) = ⊤
IsDecided (Err NoMemory) = ⊥

-- Move of a transfer
abbrev pub move_of_transfer : InCall
move_of_transfer L s t c = option_map (on_transfer L s t) (transferred L.files c)

-- what a wait that ends by a signal leaves of the state and of the call
abbrev pub GivesUp : Option GivenUp → LinuxState → LinuxState → LxCall → LxCall → Result (Unit {0}) LxRefusal → Type 0
GivesUp next L L' c c' result = Goes next (λ done. given_up L' c') ((L' ≡ L) × (c' ≡ c)) result

-- the child in a place starts, if there is one
abbrev pub StartsAt : Option LxThread → Option LxThread → Regs → ℕ → LxCall → LxCall → Result (Unit {0}) LxRefusal → Type 0
StartsAt (Some child) place' regs mask c c' (Ok done) = (place' ≡ Some (started regs mask c child)) × (c' ≡ without_child c)
StartsAt None place' regs mask c c' (Ok done) = ⊥
StartsAt (Some child) place' regs mask c c' (Err NoStep) = ⊥
StartsAt None place' regs mask c c' (Err NoStep) = (place' ≡ None) × (c' ≡ c)
StartsAt place place' regs mask c c' (Err NoMemory) = (place' ≡ place) × (c' ≡ c)

abbrev pub Starts : Option LxThread → List (Option LxThread) → List (Option LxThread) → ℕ → Regs → ℕ → LxCall → LxCall → Result (Unit {0}) LxRefusal → Type 0
Starts (Some child) threads threads' at regs mask c c' (Ok done) = (threads' ≡ with_place threads at (started regs mask c child)) × (c' ≡ without_child c)
Starts None threads threads' at regs mask c c' (Ok done) = ⊥
Starts (Some child) threads threads' at regs mask c c' (Err NoStep) = ⊥
Starts None threads threads' at regs mask c c' (Err NoStep) = (threads' ≡ threads) × (c' ≡ c)
Starts place threads threads' at regs mask c c' (Err NoMemory) = (threads' ≡ threads) × (c' ≡ c)
