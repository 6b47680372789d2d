-- The process, and what it keeps of the thread in a slot.
-- Source: clone(2), set_robust_list(2), nanosleep(2), signal(7) and brk(2) name what a process keeps. That it is one record for
-- each of 128 slots, and the two sets of rules, are this project's own.
use Rattle.std.specs.Prelude.{ℕ, ◌==◌, Bool, false, if◌then◌else◌, List, [], Option, Some, None, option_map, slice_index_or, slice_set, replicate}
use Rattle.std.specs.Option.{option_map_or}
use Rattle.vm_areas.specs.declared.runs.Area.{Area}
use Rattle.bsd_proc.specs.declared.lives.Life.{Life}
use Rattle.bsd_proc.specs.declared.lives.Life.TheVariants.{Live}
use Rattle.bsd_proc.specs.declared.lives.GuestEnd.{GuestEnd}
use Rattle.bsd_proc.specs.declared.signals.Action.{Action}
use Rattle.bsd_proc.specs.declared.signals.Signal.{Signal}

-- a slot in use: the thread's tid and life, its robust list (0 for none), until when it waits, whether it asks for the time, and the
-- signals that are pending for it alone
pub record Slot : Type 0 where
  pub tid : ℕ
  pub life : Life
  pub robust_head : ℕ
  pub deadline : Option ℕ
  pub asks : Bool
  pub pending : List Signal

-- the process: its rules, 128 slots, the next tid, the areas of its memory, its break and where that started, the actions in
-- the order of their signals, the signals that are pending for all threads, the clock in microseconds, and how the guest ended
pub record ProcessState : Type 0 where
  pub rules : ℕ
  pub slots : List (Option Slot)
  pub next_tid : ℕ
  pub areas : List Area
  pub break_at : ℕ
  pub break_start : ℕ
  pub actions : List Action
  pub pending : List Signal
  pub clock : ℕ
  pub end : Option GuestEnd

-- rules 1 have the slots below 32, rules 2 all 128
abbrev pub slot_limit : ℕ → ℕ
slot_limit rules = if rules == 1 then 32 else 128

-- the slot, if it is in use
abbrev pub slot_at : ProcessState → ℕ → Option Slot
slot_at p s = slice_index_or p.slots s None

-- the process once the slot is as `f` makes it; a free slot stays free
abbrev pub on_slot : ProcessState → ℕ → (Slot → Slot) → ProcessState
on_slot p s f = record p { slots = slice_set p.slots s (option_map f (slot_at p s)) }

-- the tid and the life of the slot's thread
abbrev pub thread_of : Slot → ℕ × Life
thread_of slot = (slot.tid, slot.life)

-- the signals that are pending for the slot alone
abbrev pub pending_of : Option Slot → List Signal
pending_of o = option_map_or (λ slot. slot.pending) o []

abbrev pub own_pending : ProcessState → ℕ → List Signal
own_pending p s = pending_of (slot_at p s)

-- the slot with another life, ask or deadline
abbrev pub with_life : Life → Slot → Slot
with_life life slot = record slot { life = life }

abbrev pub with_asks : Bool → Slot → Slot
with_asks asks slot = record slot { asks = asks }

abbrev pub with_deadline : Option ℕ → Slot → Slot
with_deadline at slot = record slot { deadline = at }

-- a slot of a thread in this life, which has set, asked for and been sent nothing
abbrev pub fresh : ℕ → Life → Slot
fresh tid life = record { tid = tid; life = life; robust_head = 0; deadline = None; asks = false; pending = [] }

-- the default action
abbrev pub default_action : Action
default_action = record { handler = 0; flags = 0; restorer = 0; mask = 0 }

-- a process at boot: the first thread lives in slot 0 with the tid 1000
abbrev pub started : List Area → ℕ → ℕ → ProcessState
started areas break_at rules = record {
  rules = rules;
  slots = slice_set (replicate 128 None) 0 (Some (fresh 1000 Live));
  next_tid = 1001;
  areas = areas;
  break_at = break_at;
  break_start = break_at;
  actions = replicate 64 default_action;
  pending = [];
  clock = 0;
  end = None;
}
