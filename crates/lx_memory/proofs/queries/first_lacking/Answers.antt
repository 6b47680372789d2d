use Rattle.lx_memory.proofs.Lacking.{same_first_lacking}
use Rattle.lx_memory.proofs.queries.first_lacking.Goals as goal

pub returns-clause-value : goal.returns-clause-value
returns-clause-value c = same_first_lacking c.first_lacking.result c.args.right c.args.memory.now c.args.at c.args.len c.first_lacking.ensures.lacking
