-- The threads at boot. Source: execve(2); the first tid is this project's own.
use Rattle.std.specs.Prelude.{ℕ, zero, suc, nat_lt, if◌then◌else◌, Option, Some, None}
use Rattle.a64_model.specs.declared.regs.Regs.{Regs}
use Rattle.places.specs.declared.limits.TheConstants.{SLOTS}
use Rattle.bsd_thread.specs.Threads.{idle, started}
use Rattle.bsd_thread.specs.declared.thread.ThreadState.{ThreadState}

-- the thread of slot 0 begins with these registers, with all signals unblocked, and the others idle
abbrev pub boot_thread : Regs → ℕ → ThreadState
boot_thread regs zero = started idle 1000 regs 0 0
boot_thread regs (suc s) = record idle { slot = suc s }

-- each slot has one
abbrev pub boot_threads : Regs → ℕ → Option ThreadState
boot_threads regs s = if nat_lt s SLOTS then Some (boot_thread regs s) else None
