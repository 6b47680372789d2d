use Rattle.lx_memory.proofs.PageTests.{same_all_free}
use Rattle.lx_memory.proofs.queries.all_free.Goals as goal

pub returns : goal.returns
returns c = same_all_free c.all_free.result c.args.memory.now c.args.first c.args.count c.all_free.ensures
