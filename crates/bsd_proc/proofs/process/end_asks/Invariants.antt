use Rattle.std.proofs.Common.{◌≡◌, ◌++◌, take, drop, map, false}
use Rattle.std.specs.Prelude.{option_map}
use Rattle.bsd_proc.specs.Slots.{with_asks}
use Rattle.bsd_proc.proofs.process.end_asks.Given as goal

-- the slots so far are changed, and those to come are as they were
abbrev pub invariant-loop-place : goal.invariant-loop-place
invariant-loop-place l = l.slots ≡ map (option_map (with_asks false)) (take l.place-index l.fn.slots) ++ drop l.place-index l.fn.slots
