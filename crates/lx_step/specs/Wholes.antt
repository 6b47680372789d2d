-- The step of a call that looks at all threads: of the state with the caller in its place, whose call is taken out of it.
use Rattle.std.specs.Prelude.{ℕ, List, Option, None, Some, slice_set}
use Rattle.std.specs.Option.{option_map}
use Rattle.lx_machine.specs.Rules.{Effect, OnAll}
use Rattle.lx_machine.specs.Threads.{InCall, with_thread, without_call}
use Rattle.lx_machine.specs.declared.calls.LxCall.{LxCall}
use Rattle.lx_machine.specs.declared.calls.Stage.{Stage}
use Rattle.lx_machine.specs.declared.state.LinuxState.{LinuxState}
use Rattle.lx_machine.specs.declared.threads.LxThread.{LxThread}
use Rattle.lx_machine.specs.Lists.{at_place, bind}
use Rattle.lx_machine.specs.declared.calls.Stage.TheVariants as stage
use Rattle.lx_step.specs.declared.whole_steps.Taken.{Taken}
use Rattle.lx_machine.specs.Whole.{Whole, put_whole}
use Rattle.lx_machine.specs.Table.{rules_of}

-- on all threads: of the state with the caller in its place, in no call, with this mask and this robust list
abbrev pub all_part : Effect → LinuxState → ℕ → ℕ → LxCall → Option Whole
all_part (OnAll f) L mask robust_head c = Some (f L mask robust_head c)
all_part _ L mask robust_head c = None

-- the same of the state where the caller's place is free
abbrev pub whole_part : Effect → InCall
whole_part e L s t c = option_map (put_whole s) (all_part e (with_thread L s t) t.mask t.robust_head c)

-- the step of all threads, of a caller with this mask and this robust list, where Effect is what the call does next
abbrev pub whole_at : Stage → LinuxState → ℕ → ℕ → LxCall → Option Whole
whole_at stage.Effect L mask robust_head c = all_part (rules_of c).effect L mask robust_head c
whole_at _ L mask robust_head c = None

-- the call of the thread in a slot, if it is in one, with its mask and its robust list
abbrev pub taken_from : LxThread → LxCall → Taken
taken_from t c = record { mask = t.mask; robust_head = t.robust_head; call = c }

abbrev pub taken_of : LxThread → Option Taken
taken_of t = option_map (taken_from t) t.call

abbrev pub taken_at : List (Option LxThread) → ℕ → Option Taken
taken_at threads s = bind (at_place threads s) taken_of

-- the threads where the thread in slot s, if there is one, is in no call
abbrev pub call_out : List (Option LxThread) → ℕ → List (Option LxThread)
call_out threads s = slice_set threads s (option_map without_call (at_place threads s))
