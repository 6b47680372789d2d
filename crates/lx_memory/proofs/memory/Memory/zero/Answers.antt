use Rattle.lx_memory.specs.Ranges.{cleared}
use Rattle.lx_memory.proofs.OnEach.{each-is}
use Rattle.lx_memory.proofs.memory.Memory.zero.Goals as goal

pub returns-clause-after : goal.returns-clause-after
returns-clause-after c = rw (← c.self.view_is) (each-is cleared c.self.inside.pages.pages c.args.first c.args.count _ c.change_each.ensures)
