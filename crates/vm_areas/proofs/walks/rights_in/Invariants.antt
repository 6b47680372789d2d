use Rattle.std.proofs.Common.{◌≡◌, drop}
use Rattle.vm_areas.specs.PageMap.{rights_at}
use Rattle.vm_areas.proofs.walks.rights_in.Given as goal

abbrev pub invariant-loop-area : goal.invariant-loop-area
invariant-loop-area l = rights_at l.areas l.page ≡ rights_at (drop l.area-index l.areas) l.page
