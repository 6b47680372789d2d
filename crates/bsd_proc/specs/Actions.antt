-- The actions of signals. Source: sigaction(2), signal(7), signal(3). That a signal whose action becomes to ignore or to discard
-- it is pending no more, and that there is no stopping, are this project's own.
use Rattle.std.specs.Prelude.{◌==◌, Bool, ◌&&◌, ◌||◌, if◌then◌else◌, List, map, Option, Some, None, option_map, slice_index_or, slice_set}
use Rattle.bsd_abi.specs.declared.signals.BsdSig.{BsdSig}
use Rattle.bsd_abi.specs.BsdSig.{place_of, is_dropped_by_default}
use Rattle.bsd_proc.specs.declared.signals.Action.{Action}
use Rattle.bsd_proc.specs.Signals.{without_all}
use Rattle.bsd_proc.specs.Slots.{Slot, ProcessState, default_action}

-- the action of a signal
abbrev pub action_of : List Action → BsdSig → Action
action_of actions sig = slice_index_or actions (place_of sig) default_action

-- the action is to ignore the signal (SIG_IGN, 1), or the default one (SIG_DFL, 0), which drops it
abbrev pub is_ignored : Action → BsdSig → Bool
is_ignored action sig = action.handler == 1 || (action.handler == 0 && is_dropped_by_default sig)

-- the signal is pending no more for the slot
abbrev pub without_sig : BsdSig → Slot → Slot
without_sig sig slot = record slot { pending = without_all sig slot.pending }

-- the signal is pending nowhere any more
abbrev pub forgotten : BsdSig → ProcessState → ProcessState
forgotten sig p = record p { slots = map (option_map (without_sig sig)) p.slots; pending = without_all sig p.pending }

-- the signal has this action
abbrev pub with_action : ProcessState → BsdSig → Action → ProcessState
with_action p sig action = record p { actions = slice_set p.actions (place_of sig) action }

-- the signal has the new action, if there is one; one that is ignored from now on is pending nowhere any more
abbrev pub acted : ProcessState → BsdSig → Option Action → ProcessState
acted p sig None = p
acted p sig (Some action) = if is_ignored action sig then forgotten sig (with_action p sig action) else with_action p sig action
