-- Threads that leave, and the guest's end. Source: exit(2), exit_group(2). How slots are counted is this project's own.
use Rattle.std.specs.Prelude.{ℕ, is_some, count_by, Some, None, slice_set}
use Rattle.bsd_proc.specs.declared.lives.Life.{Life}
use Rattle.bsd_proc.specs.declared.lives.GuestEnd.{GuestEnd}
use Rattle.bsd_proc.specs.Slots.{ProcessState, on_slot, with_life}

-- the slot is free, and nothing of it is kept
abbrev pub left : ProcessState → ℕ → ProcessState
left p s = record p { slots = slice_set p.slots s None }

-- how many slots are in use
abbrev pub in_use : ProcessState → ℕ
in_use p = count_by is_some p.slots

-- the slot's thread is in this life
abbrev pub living : ProcessState → ℕ → Life → ProcessState
living p s life = on_slot p s (with_life life)

-- the guest has ended so
abbrev pub ended : ProcessState → GuestEnd → ProcessState
ended p end = record p { end = Some end }
