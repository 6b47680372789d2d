use Rattle.lx_memory.proofs.HighestGaps.{same_highest_gap}
use Rattle.lx_memory.proofs.queries.highest_gap.Goals as goal

pub returns-clause-value : goal.returns-clause-value
returns-clause-value c = same_highest_gap c.highest_gap.result c.args.memory.now c.args.count c.args.low c.args.high c.highest_gap.ensures
