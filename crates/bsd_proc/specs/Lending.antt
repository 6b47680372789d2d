-- What is lent, and how what is written to it comes back.
use Rattle.std.specs.Prelude.{ℕ, List, Option, option_map}
use Rattle.std.specs.Borrow.{Lends, MutBor, Fml, u64 as number}
use Rattle.vm_areas.specs.declared.runs.Area.{Area}
use Rattle.vm_areas.specs.contracts.page_map.Areas as areas
use Rattle.bsd_proc.specs.Slots.{Slot, ProcessState, on_slot}
use Rattle.bsd_proc.specs.contracts.place.Place as place
use Rattle.bsd_proc.specs.contracts.process.Process as process

-- the slot has this robust list
abbrev pub with_head : ℕ → Slot → Slot
with_head head slot = record slot { robust_head = head }

-- a slot ends with the last value behind r as its robust list
abbrev pub LendsHead : MutBor (Option Slot) → MutBor ℕ → Fml
LendsHead s r = Lends place.the_row number s r (λ head. option_map (with_head head) s.now)

-- the process ends with the last value behind r as the slot's robust list
abbrev pub LendsRobust : MutBor ProcessState → ℕ → MutBor ℕ → Fml
LendsRobust s slot r = Lends process.the_row number s r (λ head. on_slot s.now slot (with_head head))

-- the process ends with the last value behind r as its areas, and as its break
abbrev pub LendsAreas : MutBor ProcessState → MutBor (List Area) → Fml
LendsAreas s r = Lends process.the_row areas.the_row s r (λ list. record s.now { areas = list })

abbrev pub LendsBreak : MutBor ProcessState → MutBor ℕ → Fml
LendsBreak s r = Lends process.the_row number s r (λ at. record s.now { break_at = at })
