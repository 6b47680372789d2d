-- The thread in a slot, and its call. This project's own.
use Rattle.std.specs.Prelude.{Some, ℕ, ◌≡◌}
use Rattle.lx_machine.specs.Lists.{at_place}
use Rattle.lx_machine.specs.declared.calls.LxCall.{LxCall}
use Rattle.lx_machine.specs.declared.state.LinuxState.{LinuxState}
use Rattle.lx_machine.specs.declared.threads.LxThread.{LxThread}

-- the thread in slot s is in a call, and this holds of the two
pub record IsInCall (L : LinuxState) (s : ℕ) (Holds : LxThread → LxCall → Type 0) : Type 0 where
  pub thread : LxThread
  pub call : LxCall
  pub in_place : at_place L.threads s ≡ Some thread
  pub in_call : thread.call ≡ Some call
  pub holds : Holds thread call
