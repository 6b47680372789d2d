use Rattle.lx_memory.specs.Ranges.{away}
use Rattle.lx_memory.proofs.OnEach.{each-is}
use Rattle.lx_memory.proofs.memory.Memory.unmap.Goals as goal

pub returns-clause-after : goal.returns-clause-after
returns-clause-after c = rw (← c.self.view_is) (each-is away c.self.inside.pages.pages c.args.first c.args.count _ c.change_each.ensures)
