use Rattle.std.proofs.Common.{◌≡◌, fold, take}
use Rattle.vm_areas.specs.Steps.{step_over}
use Rattle.vm_areas.proofs.walks.reached.Given as goal

abbrev pub invariant-loop-area : goal.invariant-loop-area
invariant-loop-area l = l.at ≡ fold step_over l.first (take l.area-index l.areas)
