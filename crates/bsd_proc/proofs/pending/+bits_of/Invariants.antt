use Rattle.std.proofs.Common.{length}
use Rattle.bsd_proc.proofs.pending.+bits_of.Given as goal

abbrev pub decreases-bits_of : goal.decreases-bits_of
decreases-bits_of l = length l.signals.now
