use Rattle.std.proofs.Common.{length}
use Rattle.lx_start.proofs.start.+add_segments.Given as goal

abbrev pub decreases-add_segments : goal.decreases-add_segments
decreases-add_segments l = length l.segments.now
