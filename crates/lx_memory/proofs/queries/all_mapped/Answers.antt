use Rattle.lx_memory.proofs.PageTests.{same_all_mapped}
use Rattle.lx_memory.proofs.queries.all_mapped.Goals as goal

pub returns : goal.returns
returns c = same_all_mapped c.all_mapped.result c.args.memory.now c.args.first c.args.count c.all_mapped.ensures
