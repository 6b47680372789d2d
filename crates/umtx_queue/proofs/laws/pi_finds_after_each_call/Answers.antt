use Rattle.umtx_queue.proofs.PiLaws.{pi_finds_after}
use Rattle.umtx_queue.proofs.laws.pi_finds_after_each_call.Goals as goal

pub returns : goal.returns
returns c = pi_finds_after
