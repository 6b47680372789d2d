use Rattle.std.proofs.Common.{◌∙◌, None}
use Rattle.bsd_proc.proofs.Queues.{replicate-push}
use Rattle.bsd_proc.proofs.process.free_slots.Goals as goal

pub loop-preserved : goal.loop-preserved
loop-preserved c = c.in_ok-push.ensures.items ∙ rw (c.loop.invariant, c.in_ok-make.ensures) (replicate-push c.loop.counter None)
