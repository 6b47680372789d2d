-- What a step of the runnable machine answers.
use Rattle.std.specs.Prelude.{◌≡◌, Bool, true, false, Option, Result}
use Rattle.std.specs.Bool.{OnFalse}
use Rattle.lx_call_steps.specs.Outcomes.{IsDecided}
use Rattle.lx_machine.specs.Answers.{Goes}
use Rattle.lx_machine.specs.declared.label.Label.{Label}
use Rattle.lx_machine.specs.declared.label.Label.TheVariants as label
use Rattle.lx_machine.specs.declared.state.LinuxState.{LinuxState}
use Rattle.lx_machine.specs.declared.refusal.LxRefusal.{LxRefusal}

-- Ok exactly where there is a next state, which it then is; no step exactly where there is none, and then the state is as
-- it was. Want of memory alone is free, and leaves the state as it was
abbrev pub Steps : Option LinuxState → LinuxState → LinuxState → Result (Unit {0}) LxRefusal → Type 0
Steps next old new result = Goes next (λ done. new) (new ≡ old) result

-- the steps that may need memory: those that copy bytes in or make bytes, that take a hold or a place, and those of
-- instructions and effects
abbrev pub may_need_memory : Label → Bool
may_need_memory (label.Instr s) = true
may_need_memory (label.Fetch s) = true
may_need_memory (label.Hold s) = true
may_need_memory (label.Effect s short) = true
may_need_memory (label.Move s picks) = true
may_need_memory (label.Clock s) = true
may_need_memory (label.Queue s) = true
may_need_memory (label.PiLock s) = true
may_need_memory (label.Mark s) = true
may_need_memory (label.Interrupt s list sig) = true
may_need_memory (label.Leave s) = true
may_need_memory _ = false

-- all others are never refused for want of it
abbrev pub IsDecidedAt : Label → Result (Unit {0}) LxRefusal → Type 0
IsDecidedAt l r = OnFalse (may_need_memory l) (IsDecided r)
