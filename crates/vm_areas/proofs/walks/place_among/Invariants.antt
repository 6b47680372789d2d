use Rattle.std.proofs.Common.{◌≡◌, drop}
use Rattle.std.specs.Option.{option_or}
use Rattle.vm_areas.specs.Steps.{highest_place}
use Rattle.vm_areas.proofs.walks.place_among.Given as goal

abbrev pub invariant-loop-area : goal.invariant-loop-area
invariant-loop-area l = option_or (highest_place l.pages l.from (drop l.area-index l.areas)) l.best ≡ highest_place l.pages 16 l.areas
