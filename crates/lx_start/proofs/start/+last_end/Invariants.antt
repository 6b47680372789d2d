use Rattle.std.proofs.Common.{length}
use Rattle.lx_start.proofs.start.+last_end.Given as goal

abbrev pub decreases-last_end : goal.decreases-last_end
decreases-last_end l = length l.segments.now
