-- Which calls make bytes, or keep one thing more, and so may want memory.
use Rattle.std.specs.Prelude.{Bool, Option, Some, false, true}
use Rattle.linux_abi.specs.declared.calls.Call.{Call}
use Rattle.linux_abi.specs.declared.calls.Call.TheVariants as call

-- Effect, by the call: what is copied out is made, an interest or pages are kept, or a signal, where its list has room
abbrev pub effect_makes : Option Call → Bool
effect_makes (Some call.Pipe2) = true
effect_makes (Some call.EpollCtl) = true
effect_makes (Some call.Brk) = true
effect_makes (Some call.Mmap) = true
effect_makes (Some call.Uname) = true
effect_makes (Some call.Sigaltstack) = true
effect_makes (Some call.RtSigprocmask) = true
effect_makes (Some call.RtSigpending) = true
effect_makes (Some call.RtSigaction) = true
effect_makes (Some call.Clone) = true
effect_makes (Some call.GetRobustList) = true
effect_makes (Some call.Kill) = true
effect_makes (Some call.Tkill) = true
effect_makes (Some call.Tgkill) = true
effect_makes _ = false

-- Clock: of clock_gettime alone, whose bytes are made
abbrev pub clock_makes : Option Call → Bool
clock_makes (Some call.ClockGettime) = true
clock_makes _ = false

-- Interrupt: of nanosleep alone, whose rest is made
abbrev pub interrupt_makes : Option Call → Bool
interrupt_makes (Some call.Nanosleep) = true
interrupt_makes _ = false
