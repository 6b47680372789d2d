use Rattle.umtx_queue.proofs.LineLaws.{stays_a_line}
use Rattle.umtx_queue.proofs.laws.lines_stay_lines.Goals as goal

pub returns : goal.returns
returns c = stays_a_line
