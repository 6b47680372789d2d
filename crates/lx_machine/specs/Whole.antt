-- A call that looks at all threads, or changes others: its caller is in its place, in no call, and the call beside it. This
-- project's own.
use Rattle.std.specs.Option.{option_map}
use Rattle.std.specs.Prelude.{List, Option, slice_set, ℕ}
use Rattle.lx_machine.specs.Lists.{at_place}
use Rattle.lx_machine.specs.Threads.{with_call}
use Rattle.lx_machine.specs.declared.calls.LxCall.{LxCall}
use Rattle.lx_machine.specs.declared.state.LinuxState.{LinuxState}
use Rattle.lx_machine.specs.declared.threads.LxThread.{LxThread}

-- the state with all threads in their places, the caller in no call, and the call beside it
pub record Whole : Type 0 where
  pub state : LinuxState
  pub call : LxCall

abbrev pub whole : LinuxState → LxCall → Whole
whole L c = record { state = L; call = c }

-- the thread in slot s, if there is one, stands so in this call
abbrev pub call_put : List (Option LxThread) → ℕ → LxCall → List (Option LxThread)
call_put threads s c = slice_set threads s (option_map (λ t. with_call t c) (at_place threads s))

abbrev pub put_whole : ℕ → Whole → LinuxState
put_whole s w = record w.state { threads = call_put w.state.threads s w.call }
