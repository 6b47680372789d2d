use Rattle.lx_memory.specs.Ranges.{anew}
use Rattle.lx_memory.proofs.OnEach.{each-is}
use Rattle.lx_memory.proofs.memory.Memory.map.Goals as goal

pub returns-clause-ok : goal.returns-clause-ok
returns-clause-ok c = rw (← c.self.view_is) (each-is (anew c.args.rights) c.self.inside.pages.pages c.args.first c.args.count _ c.map_each.ensures)
