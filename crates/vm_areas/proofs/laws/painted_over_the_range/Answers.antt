use Rattle.vm_areas.proofs.Painting.{painted-is}
use Rattle.vm_areas.proofs.laws.painted_over_the_range.Goals as goal

pub returns : goal.returns
returns c old first pages rights maximal fits = painted-is old first pages rights fits maximal
