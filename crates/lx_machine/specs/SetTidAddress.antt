-- set_tid_address. Source: set_tid_address(2).
use Rattle.std.specs.Prelude.{ℕ}
use Rattle.lx_machine.specs.Calls.{answered, argument}
use Rattle.lx_machine.specs.Threads.{in_call_of}
use Rattle.lx_machine.specs.declared.calls.LxCall.{LxCall}
use Rattle.lx_machine.specs.declared.state.LinuxState.{LinuxState}
use Rattle.lx_machine.specs.declared.threads.LxThread.{LxThread}

abbrev pub set_tid_address : LinuxState → ℕ → LxThread → LxCall → LinuxState
set_tid_address L s t c = in_call_of L s (record t { clear_at = argument c 0 }) (answered c t.tid)
