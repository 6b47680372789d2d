-- Where a step in a call may want memory: where it makes bytes, maps pages or keeps one thing more, and where a list or a count has
-- come to its end. Nowhere else is want of memory an answer.
use Rattle.std.proofs.Math.Bool.{not}
use Rattle.std.specs.Bool.{OnFalse}
use Rattle.std.specs.Prelude.{Bool, List, None, Option, Result, Some, false, length, nat_le, true, ℕ, ◌&&◌, ⊤}
use Rattle.linux_abi.specs.Call.{call_of}
use Rattle.lx_call_steps.specs.Makes.{clock_makes, effect_makes, interrupt_makes}
use Rattle.lx_call_steps.specs.Outcomes.{IsDecided}
use Rattle.lx_machine.specs.Lists.{at_place}
use Rattle.lx_machine.specs.Transfers.{has_most_holds}
use Rattle.lx_machine.specs.declared.calls.LxCall.{LxCall}
use Rattle.lx_machine.specs.declared.files.Files.{Files}
use Rattle.lx_machine.specs.declared.label.Label.{Label}
use Rattle.lx_machine.specs.declared.label.Label.TheVariants as label
use Rattle.lx_machine.specs.declared.refusal.LxRefusal.{LxRefusal}
use Rattle.lx_machine.specs.declared.state.LinuxState.{LinuxState}
use Rattle.lx_machine.specs.declared.threads.LxThread.{LxThread}
use Rattle.lx_machine.specs.declared.threads.LxWaiter.{LxWaiter}
use Rattle.lx_machine.specs.declared.threads.PiWaiter.{PiWaiter}

-- a step of a thread in this call: Hold, where one more hold can't be counted, and Queue and PiLock, where as many wait as there is
-- room for; Fetch, Move, Mark and Leave make bytes
abbrev pub call_may_want : Label → Files → List LxWaiter → List PiWaiter → LxCall → Bool
call_may_want (label.Fetch s) F ws ls c = true
call_may_want (label.Hold s) F ws ls c = has_most_holds F c
call_may_want (label.Effect s short) F ws ls c = not short && effect_makes (call_of c.number)
call_may_want (label.Move s picks) F ws ls c = true
call_may_want (label.Clock s) F ws ls c = clock_makes (call_of c.number)
call_may_want (label.Queue s) F ws ls c = nat_le 4096 (length ws)
call_may_want (label.PiLock s) F ws ls c = nat_le 128 (length ls)
call_may_want (label.Mark s) F ws ls c = true
call_may_want (label.Interrupt s list sig) F ws ls c = interrupt_makes (call_of c.number)
call_may_want (label.Leave s) F ws ls c = true
call_may_want _ F ws ls c = false

abbrev pub in_call_may_want : Label → Files → List LxWaiter → List PiWaiter → Option LxCall → Bool
in_call_may_want l F ws ls None = false
in_call_may_want l F ws ls (Some c) = call_may_want l F ws ls c

-- a step of the thread in this place
abbrev pub may_want_at : Label → LinuxState → Option LxThread → Bool
may_want_at l L None = false
may_want_at l L (Some t) = in_call_may_want l L.files L.queue L.pi_queue t.call

-- a step of the thread in slot s is never refused for want of memory where it makes nothing
abbrev pub WantsIn : LinuxState → Label → ℕ → Result (Unit {0}) LxRefusal → Type 0
WantsIn L l s r = OnFalse (may_want_at l L (at_place L.threads s)) (IsDecided r)

-- the same of a step by its label, where the label alone doesn't tell
abbrev pub Wants : LinuxState → Label → Result (Unit {0}) LxRefusal → Type 0
Wants L (label.Hold s) r = WantsIn L (label.Hold s) s r
Wants L (label.Effect s short) r = WantsIn L (label.Effect s short) s r
Wants L (label.Clock s) r = WantsIn L (label.Clock s) s r
Wants L (label.Queue s) r = WantsIn L (label.Queue s) s r
Wants L (label.PiLock s) r = WantsIn L (label.PiLock s) s r
Wants L (label.Interrupt s list sig) r = WantsIn L (label.Interrupt s list sig) s r
Wants L _ r = ⊤
