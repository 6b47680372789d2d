-- Which family of calls takes the next entry of a thread. Source: this project's own; the calls are those of the manual pages.
use Rattle.std.specs.Prelude.{Bool, true, false, Option, Some, None, if◌then◌else◌}
use Rattle.linux_abi.specs.Call.{call_of}
use Rattle.linux_abi.specs.declared.calls.Call.{Call as LinuxCall}
use Rattle.linux_abi.specs.declared.calls.Call.TheVariants as call
use Rattle.linux_abi.specs.declared.futexes.FutexOperation.{FutexOperation}
use Rattle.linux_abi.specs.declared.futexes.FutexOperation.TheVariants as operation
use Rattle.lx_machine.specs.Futex.{operation_in}
use Rattle.lx_machine.specs.Shape.{stage_of}
use Rattle.lx_machine.specs.declared.calls.Stage.{Stage}
use Rattle.lx_machine.specs.declared.calls.Stage.TheVariants as stage
use Rattle.bsd_thread.specs.declared.call.Call.{Call}
use Rattle.bsd_thread.specs.declared.phase.Owed.TheVariants as owed
use Rattle.bsd_thread.specs.declared.phase.Phase.{Phase}
use Rattle.bsd_thread.specs.declared.phase.Phase.TheVariants as phase
use Rattle.bsd_thread.specs.declared.thread.ThreadState.{ThreadState}
use Rattle.threads_stand.specs.Image.{resting}
use Rattle.call_frame.specs.declared.family.Family.{Family}
use Rattle.call_frame.specs.declared.family.Family.TheVariants.{Core, Memory, Files, Epoll, Futex, Pi, Time, Clone, Robust, Signal}

-- an operation on locks that name their owner
abbrev pub of_operation : Option FutexOperation → Family
of_operation (Some operation.LockPi) = Pi
of_operation (Some operation.TryLockPi) = Pi
of_operation (Some operation.UnlockPi) = Pi
of_operation _ = Futex

-- the mark of a lock that names its owner
abbrev pub of_mark : Stage → Family
of_mark (stage.Mark m) = if m.inherits then Pi else Robust
of_mark _ = Robust

-- an exit: its death walks the robust list, and else is its own
abbrev pub of_death : Call → Phase → Family
of_death c phase.Fetch = Robust
of_death c (phase.Busy turn) = of_mark (stage_of (resting c))
of_death c phase.Word = of_mark (stage_of (resting c))
of_death c (phase.Finish turn owed.Handing) = Pi
of_death c (phase.Finish turn o) = Robust
of_death c p = Clone

-- a call in this phase
abbrev pub of_call : Option LinuxCall → Call → Phase → Family
of_call (Some call.Brk) c p = Memory
of_call (Some call.Mmap) c p = Memory
of_call (Some call.Munmap) c p = Memory
of_call (Some call.Mprotect) c p = Memory
of_call (Some call.Madvise) c p = Memory
of_call (Some call.Eventfd2) c p = Files
of_call (Some call.Dup) c p = Files
of_call (Some call.Dup3) c p = Files
of_call (Some call.Fcntl) c p = Files
of_call (Some call.Ioctl) c p = Files
of_call (Some call.Close) c p = Files
of_call (Some call.Pipe2) c p = Files
of_call (Some call.Lseek) c p = Files
of_call (Some call.Read) c p = Files
of_call (Some call.Write) c p = Files
of_call (Some call.Readv) c p = Files
of_call (Some call.Writev) c p = Files
of_call (Some call.EpollCreate1) c p = Epoll
of_call (Some call.EpollCtl) c p = Epoll
of_call (Some call.EpollPwait) c p = Epoll
of_call (Some call.Futex) c p = of_operation (operation_in (resting c))
of_call (Some call.FutexWaitv) c p = Futex
of_call (Some call.Nanosleep) c p = Time
of_call (Some call.ClockGettime) c p = Time
of_call (Some call.Uname) c p = Time
of_call (Some call.SetRobustList) c p = Robust
of_call (Some call.GetRobustList) c p = Robust
of_call (Some call.Kill) c p = Signal
of_call (Some call.Tkill) c p = Signal
of_call (Some call.Tgkill) c p = Signal
of_call (Some call.Sigaltstack) c p = Signal
of_call (Some call.RtSigsuspend) c p = Signal
of_call (Some call.RtSigaction) c p = Signal
of_call (Some call.RtSigprocmask) c p = Signal
of_call (Some call.RtSigpending) c p = Signal
of_call (Some call.RtSigreturn) c p = Signal
of_call (Some call.Exit) c p = of_death c p
of_call (Some k) c p = Clone
of_call None c p = Core

-- a thread in this phase: outside a call, a signal that is delivered is of the family of signals, and an instruction of the core
abbrev pub family_in : Call → Phase → Family
family_in c phase.Idle = Core
family_in c phase.User = Core
family_in c (phase.Forced signal) = Signal
family_in c (phase.Frame delivery) = Signal
family_in c (phase.Kill doom) = Signal
family_in c p = of_call (call_of c.number) c p

abbrev pub family_of : ThreadState → Family
family_of t = family_in t.call t.phase
