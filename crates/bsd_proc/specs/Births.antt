-- Birth: the lowest free slot and the next tid. Source: clone(2), gettid(2). The order of slots and tids, and their ends, are this
-- project's own.
use Rattle.std.specs.Prelude.{ℕ, ◌+◌, ◌-◌, ◌^◌, nat_lt, is_none, position, take, if◌then◌else◌, Option, Some, None, slice_set}
use Rattle.bsd_proc.specs.declared.lives.Life.TheVariants.{Reserved}
use Rattle.bsd_proc.specs.Slots.{ProcessState, slot_limit, fresh}

-- the greatest tid
abbrev pub last_tid : ℕ
last_tid = 2 ^ 30 - 1

-- the lowest free slot, if there is one and there is a tid left
abbrev pub slot_for : ProcessState → Option ℕ
slot_for p = if nat_lt last_tid p.next_tid then None else position is_none (take (slot_limit p.rules) p.slots)

-- the slot is reserved for a thread with the next tid
abbrev pub reserved : ProcessState → ℕ → ProcessState
reserved p s = record p { slots = slice_set p.slots s (Some (fresh p.next_tid Reserved)); next_tid = p.next_tid + 1 }
