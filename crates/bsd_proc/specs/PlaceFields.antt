-- What the fields of a slot's place say.
use Rattle.std.specs.Prelude.{ℕ, List, Option, option_map}
use Rattle.bsd_proc.specs.declared.place.Brief.{Brief}
use Rattle.bsd_proc.specs.declared.place.Place.TheInside.{Inside}
use Rattle.bsd_proc.specs.declared.signals.Signal.{Signal}
use Rattle.bsd_proc.specs.Slots.{Slot}

-- a slot with this robust list and these pending signals
abbrev pub slot_with : ℕ → List Signal → Brief → Slot
slot_with robust_head pending brief = record {
  tid = brief.tid;
  life = brief.life;
  robust_head = robust_head;
  deadline = brief.deadline;
  asks = brief.asks;
  pending = pending;
}

abbrev pub slot_in : Inside → Option Slot
slot_in s = option_map (slot_with s.robust_head s.pending) s.brief
