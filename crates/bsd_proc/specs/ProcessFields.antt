-- What the fields of a process say, and what they keep.
use Rattle.std.specs.Prelude.{◌≡◌, ◌≤◌, length}
use Rattle.bsd_proc.specs.declared.process.Process.TheInside.{Inside}
use Rattle.bsd_proc.specs.Sending.{queued_in}
use Rattle.bsd_proc.specs.Slots.{ProcessState}

abbrev pub state_in : Inside → ProcessState
state_in s = record {
  rules = s.rules;
  slots = s.slots.items;
  next_tid = s.next_tid;
  areas = s.rest.value.areas;
  break_at = s.rest.value.break_at;
  break_start = s.rest.value.break_start;
  actions = s.rest.value.actions.items;
  pending = s.pending;
  clock = s.rest.value.clock;
  end = s.rest.value.end;
}

-- there are 128 slots and 64 actions; the number of queued real-time signals is kept, and at most 64
pub record IsKept (s : Inside) : Type 0 where
  pub slots : length s.slots.items ≡ 128
  pub actions : length s.rest.value.actions.items ≡ 64
  pub counted : s.queued ≡ queued_in s.slots.items s.pending
  pub few : s.queued ≤ 64
