-- What the player sees of the Linux machine, and that it takes steps of it alone.
use Rattle.std.specs.Prelude.{◌≡◌, ⊤, ℕ, Bool, true, false, List, length, drop, ◌-◌, Option, Some, None, Result, Ok, Err}
use Rattle.std.specs.Option.{option_map}
use Rattle.linux_abi.specs.declared.signals.LinuxSig.{LinuxSig}
use Rattle.lx_machine.specs.Lists.{at_place, bind}
use Rattle.lx_machine.specs.Interests.{side_holds}
use Rattle.lx_machine.specs.declared.buffer.NoMemory.{NoMemory}
use Rattle.lx_machine.specs.declared.calls.Stage.{Stage}
use Rattle.lx_machine.specs.declared.label.Label.{Label}
use Rattle.lx_machine.specs.declared.label.LxSide.{LxSide}
use Rattle.lx_machine.specs.declared.label.LxSide.TheVariants as side
use Rattle.lx_machine.specs.declared.state.LinuxState.{LinuxState}
use Rattle.lx_machine.specs.Shape.{stage_of}
use Rattle.lx_machine.specs.Step.{LRun}
use Rattle.lx_scheduler.specs.declared.play.RunEnd.{RunEnd}
use Rattle.lx_scheduler.specs.declared.play.RunEnd.TheVariants as run_end

-- what the call of the thread in a slot does next
abbrev pub stage_in : LinuxState → ℕ → Option Stage
stage_in L s = option_map stage_of (bind (at_place L.threads s) (λ t. t.call))

-- the signal of the trap of the thread in a slot
abbrev pub trap_in : LinuxState → ℕ → Option LinuxSig
trap_in L s = option_map (λ trap. trap.signal) (bind (at_place L.threads s) (λ t. t.trap))

-- all bytes that were ever put into a console room
abbrev pub ever_put : LinuxState → LxSide → List ℕ
ever_put L side.Out = L.files.put_out
ever_put L side.Err = L.files.put_err

-- the last of them, as many as the room holds
abbrev pub last_put : LinuxState → LxSide → List ℕ
last_put L which = drop (length (ever_put L which) - length (side_holds L.files which)) (ever_put L which)

-- true exactly where there is a next state, which it then is; false exactly where there is none, and then the state is as
-- it was. Want of memory alone is free, and leaves the state as it was
abbrev pub Takes : Option LinuxState → LinuxState → LinuxState → Result Bool NoMemory → Type 0
Takes next old new (Ok true) = next ≡ Some new
Takes next old new (Ok false) = (next ≡ None) × (new ≡ old)
Takes next old new (Err e) = new ≡ old

-- a run of the Linux machine leads from the one state to the other
pub record Reaches (old : LinuxState) (new : LinuxState) : Type 0 where
  pub labels : List Label
  pub goes : LRun old labels ≡ Some new

-- where the run is told to have ended with the guest, the guest has ended so
abbrev pub HasEnded : LinuxState → RunEnd → Type 0
HasEnded L (run_end.Ended end) = L.end ≡ Some end
HasEnded L _ = ⊤

-- the run ended before the guest
abbrev pub IsEarly : RunEnd → Type 0
IsEarly (run_end.Ended end) = ⊥
IsEarly _ = ⊤
