-- The marks of the Linux threads, slot by slot, and what a write leaves of them.
-- Source: the local exclusive monitor, Arm ARM (DDI 0487), B2.9.
use Rattle.std.specs.Prelude.{ℕ, ◌+◌, ◌-◌, ◌==◌, List, Option, if◌then◌else◌}
use Rattle.places.specs.Places as place
use Rattle.lx_machine.specs.Lists.{at_place, bind}
use Rattle.lx_machine.specs.Threads.{mark_left}
use Rattle.lx_machine.specs.declared.threads.LxThread.{LxThread}

-- the mark of the thread in a slot, if there is one
abbrev pub marks_of : List (Option LxThread) → ℕ → Option ℕ
marks_of ts s = bind (at_place ts s) (λ t. t.mark)

-- the marks after the thread in a slot has written to these granules: it keeps its own
abbrev pub marks_left : ℕ → ℕ → ℕ → (ℕ → Option ℕ) → ℕ → Option ℕ
marks_left slot first last marks s = if s == slot then marks s else mark_left first last (marks s)

-- the marks after it has written so many bytes from an address on
abbrev pub wrote : ℕ → ℕ → ℕ → (ℕ → Option ℕ) → ℕ → Option ℕ
wrote slot at len marks s = if len == 0 then marks s else marks_left slot (place.granule at) (place.granule (at + len - 1)) marks s

-- this at a slot, and at every other slot what is there
abbrev pub put : {X : Type 0} → (ℕ → X) → ℕ → X → ℕ → X
put xs slot x s = if s == slot then x else xs s
