use Rattle.std.proofs.Common.{List, subst}
use Rattle.vm_areas.specs.declared.runs.Area.{Area}
use Rattle.vm_areas.specs.PageMap.{IsMaximal}
use Rattle.vm_areas.proofs.Painting.{painted-is}
use Rattle.vm_areas.proofs.page_map.Areas.fits.Goals as goal

pub returns-clause-painted : goal.returns-clause-painted
returns-clause-painted c =
    painted-is c.args.self.now c.args.first c.args.pages c.args.rights c.requires
    (subst (λ (xs : List Area). IsMaximal xs) c.self.view_is c.self.invariant.areas.maximal)
