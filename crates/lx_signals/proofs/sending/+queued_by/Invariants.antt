use Rattle.std.proofs.Common.{length}
use Rattle.lx_signals.proofs.sending.+queued_by.Given as goal

abbrev pub decreases-queued_by : goal.decreases-queued_by
decreases-queued_by l = length l.places.now
