-- Answers, signals and actions in Linux's numbers. Source: errno(3), signal(7) and sigaction(2) of Linux and of FreeBSD, translated
-- as FreeBSD's linux(4) does it.
use Rattle.std.specs.Prelude.{ℕ}
use Rattle.linux_abi.specs.LinuxErrno.{answer_of}
use Rattle.linux_abi.specs.LinuxSig.{signal_number}
use Rattle.abi_map.specs.Errors.{errno_out_of}
use Rattle.signal_map.specs.Signals.{signal_out_of}
use Rattle.signal_map.specs.Sets.{set_out_of}
use Rattle.lx_machine.specs.declared.label.PendingList.{PendingList}
use Rattle.lx_machine.specs.declared.label.PendingList.TheVariants.{Own, Shared}
use Rattle.lx_machine.specs.declared.signals.Action.{Action as LxAction}
use Rattle.lx_machine.specs.declared.signals.Origin.{Origin as LxOrigin}
use Rattle.lx_machine.specs.declared.signals.Origin.TheVariants as lx_origin
use Rattle.lx_machine.specs.declared.signals.SigInfo.{SigInfo as LxSigInfo}
use Rattle.lx_machine.specs.declared.signals.Taken.{Taken as LxTaken}
use Rattle.lx_machine.specs.declared.threads.GuestEnd.{GuestEnd as LxEnd}
use Rattle.lx_machine.specs.declared.threads.GuestEnd.TheVariants as lx_end
use Rattle.lx_machine.specs.declared.threads.Life.{Life as LxLife}
use Rattle.lx_machine.specs.declared.threads.Life.TheVariants as lx_life
use Rattle.bsd_proc.specs.declared.lives.GuestEnd.{GuestEnd}
use Rattle.bsd_proc.specs.declared.lives.GuestEnd.TheVariants as bsd_end
use Rattle.bsd_proc.specs.declared.lives.Life.{Life}
use Rattle.bsd_proc.specs.declared.lives.Life.TheVariants as bsd_life
use Rattle.bsd_proc.specs.declared.signals.Action.{Action}
use Rattle.bsd_proc.specs.declared.signals.Origin.{Origin}
use Rattle.bsd_proc.specs.declared.signals.Origin.TheVariants as bsd_origin
use Rattle.bsd_proc.specs.declared.signals.Signal.{Signal}
use Rattle.bsd_proc.specs.declared.signals.Target.{Target}
use Rattle.bsd_proc.specs.declared.signals.Target.TheVariants.{All, One}
use Rattle.bsd_thread.specs.declared.call.Answer.{Answer}
use Rattle.bsd_thread.specs.declared.call.Answer.TheVariants.{Number, Error}
use Rattle.bsd_thread.specs.declared.call.Kept.{Kept}
use Rattle.bsd_thread.specs.declared.phase.Delivery.{Delivery}

-- what a call answers, as x0 has it
abbrev pub linux_answer : Answer → ℕ
linux_answer (Number n) = n
linux_answer (Error e) = answer_of (errno_out_of e)

-- where a signal comes from
abbrev pub linux_origin : Origin → LxOrigin
linux_origin (bsd_origin.Sender pid uid) = lx_origin.Sender pid uid
linux_origin (bsd_origin.Address at) = lx_origin.Address at

-- a signal with its information
abbrev pub linux_info : Signal → LxSigInfo
linux_info s = record { signal = signal_out_of s.sig; code = s.info.code; origin = linux_origin s.info.origin }

-- the signal that ended a wait; the Linux machine doesn't tell from which list it came
abbrev pub linux_kept : Kept → LxSigInfo
linux_kept k = linux_info k.signal

-- what is done at a signal
abbrev pub linux_action : Action → LxAction
linux_action a = record { handler = a.handler; flags = a.flags; restorer = a.restorer; mask = set_out_of a.mask }

-- a signal that was taken, with its action
abbrev pub linux_taken : Delivery → LxTaken
linux_taken d = record { info = linux_info d.signal; action = linux_action d.action }

-- the list of pending signals that a target has
abbrev pub linux_list : Target → PendingList
linux_list All = Shared
linux_list (One s) = Own

-- how far a life has come
abbrev pub linux_life : Life → LxLife
linux_life bsd_life.Reserved = lx_life.Reserved
linux_life bsd_life.Live = lx_life.Live
linux_life bsd_life.Dying = lx_life.Dying

-- how the process tells of the guest's end: a signal by its number on Linux
abbrev pub told_end : LxEnd → GuestEnd
told_end (lx_end.Exited code) = bsd_end.Exited code
told_end (lx_end.Killed sig) = bsd_end.Killed (signal_number sig)
