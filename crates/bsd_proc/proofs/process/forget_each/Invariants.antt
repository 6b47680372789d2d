use Rattle.std.proofs.Common.{◌≡◌, ◌++◌, take, drop, map}
use Rattle.std.specs.Prelude.{option_map}
use Rattle.bsd_proc.specs.Actions.{without_sig}
use Rattle.bsd_proc.proofs.process.forget_each.Given as goal

-- the slots so far are changed, and those to come are as they were
abbrev pub invariant-loop-place : goal.invariant-loop-place
invariant-loop-place l = l.slots ≡ map (option_map (without_sig l.sig)) (take l.place-index l.fn.slots) ++ drop l.place-index l.fn.slots
