-- The end of a thread and of the guest: exit as Leave, Gone, and exit_group. Source: _exit(2), exit_group(2).
use Rattle.lx_machine.specs.declared.death.Death.{Death}
use Rattle.lx_machine.specs.declared.calls.Stage.{Stage}
use Rattle.std.specs.Prelude.{None, Option, Some, if◌then◌else◌, ℕ, ◌%◌}
use Rattle.lx_machine.specs.Calls.{low_argument}
use Rattle.lx_machine.specs.RobustList.{begun, death_stage}
use Rattle.lx_machine.specs.Threads.{has_no_thread, in_call_of}
use Rattle.lx_machine.specs.declared.calls.LxCall.{LxCall}
use Rattle.lx_machine.specs.declared.state.LinuxState.{LinuxState}
use Rattle.lx_machine.specs.declared.threads.GuestEnd.TheVariants.{Exited}
use Rattle.lx_machine.specs.declared.threads.Life.TheVariants.{Dying}
use Rattle.lx_machine.specs.declared.threads.LxThread.{LxThread}
use Rattle.lx_machine.specs.declared.calls.Stage.TheVariants as stage

-- the guest ends with the low 8 bits of the code
abbrev pub exited : LinuxState → LxCall → LinuxState
exited L c = record L { end = Some (Exited (low_argument c 0 % 256)) }

abbrev pub exit_group : LinuxState → ℕ → LxThread → LxCall → LinuxState
exit_group L s t c = in_call_of (exited L c) s t c

-- Leave: exit of the only thread ends the guest; else the thread dies
abbrev pub dies : LinuxState → ℕ → LxThread → LxCall → LinuxState
dies L s t c = in_call_of L s (record t { life = Dying }) (begun t.robust_head t.clear_at c)

abbrev pub leave : LinuxState → ℕ → LxThread → LxCall → Option LinuxState
leave L s t c = Some (if has_no_thread L.threads then exit_group L s t c else dies L s t c)

-- Gone: the place of the thread is free, and the last thread's code is the guest's
abbrev pub gone : LinuxState → ℕ → LxThread → LxCall → Option LinuxState
gone L s t c = Some (if has_no_thread L.threads then exited L c else L)

-- ---- shape

-- exit begins the death of its thread, and then that goes on
abbrev pub exit_stage : Option Death → Stage
exit_stage None = stage.Leave
exit_stage (Some d) = death_stage d
