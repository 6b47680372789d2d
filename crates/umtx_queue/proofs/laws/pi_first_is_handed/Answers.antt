use Rattle.umtx_queue.proofs.PiLaws.{tells_of_first}
use Rattle.umtx_queue.proofs.laws.pi_first_is_handed.Goals as goal

pub returns : goal.returns
returns c = tells_of_first
