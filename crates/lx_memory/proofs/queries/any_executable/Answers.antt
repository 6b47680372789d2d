use Rattle.lx_memory.proofs.PageTests.{same_any_executable}
use Rattle.lx_memory.proofs.queries.any_executable.Goals as goal

pub returns : goal.returns
returns c = same_any_executable c.any_executable.result c.args.memory.now c.args.first c.args.count c.any_executable.ensures
