use Rattle.umtx_queue.proofs.PiLaws.{stays_a_pi_line}
use Rattle.umtx_queue.proofs.laws.pi_lines_stay_pi_lines.Goals as goal

pub returns : goal.returns
returns c = stays_a_pi_line
