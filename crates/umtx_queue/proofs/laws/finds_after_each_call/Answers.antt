use Rattle.umtx_queue.proofs.LineLaws.{finds_after}
use Rattle.umtx_queue.proofs.laws.finds_after_each_call.Goals as goal

pub returns : goal.returns
returns c = finds_after
