-- Time: the clock in microseconds, asks for it, and deadlines. Source: clock_gettime(2), nanosleep(2). That the clock rises by entries
-- of its own, each of which answers an ask or passes a deadline, is this project's own.
use Rattle.std.specs.Prelude.{ℕ, ◌-◌, ◌^◌, ◌==◌, Bool, false, ◌&&◌, ◌||◌, not, nat_le, nat_lt, is_none, map, Option, option_map, option_and_then}
use Rattle.std.specs.List.{list_any}
use Rattle.std.specs.Option.{option_map_or}
use Rattle.bsd_proc.specs.Slots.{Slot, ProcessState, on_slot, with_asks, with_deadline}

-- the clock's end
abbrev pub latest : ℕ
latest = 2 ^ 64 - 1

-- the slot asks for the time, unless the clock is at its end
abbrev pub asking : ProcessState → ℕ → ProcessState
asking p s = on_slot p s (with_asks (not (p.clock == latest)))

-- whether it asks
abbrev pub asks_in : Option Slot → Bool
asks_in o = option_map_or (λ slot. slot.asks) o false

-- the slot waits until then, or has no deadline
abbrev pub waiting : ProcessState → ℕ → Option ℕ → ProcessState
waiting p s at = on_slot p s (with_deadline at)

-- until when the slot waits
abbrev pub deadline_in : Option Slot → Option ℕ
deadline_in o = option_and_then (λ slot. slot.deadline) o

-- a deadline is above the clock, and passed as it rises to `now`
abbrev pub is_passed_by : ℕ → ℕ → ℕ → Bool
is_passed_by clock now at = nat_lt clock at && nat_le at now

abbrev pub passes_in : ℕ → ℕ → Option Slot → Bool
passes_in clock now o = option_map_or (is_passed_by clock now) (deadline_in o) false

-- the clock may rise to `now`: the guest hasn't ended, that is above the clock, and some slot asks or has a deadline that is
-- passed
abbrev pub may_pass : ProcessState → ℕ → Bool
may_pass p now = is_none p.end && nat_lt p.clock now && (list_any asks_in p.slots || list_any (passes_in p.clock now) p.slots)

-- the clock has risen to `now`, and all asks have ended
abbrev pub passed : ProcessState → ℕ → ProcessState
passed p now = record p { clock = now; slots = map (option_map (with_asks false)) p.slots }
