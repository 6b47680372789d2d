-- One entry more.
use Rattle.std.proofs.Common.{add-one}
use Rattle.plain_machine.proofs.running.run.Goals as goal

pub loop-count-preserved : goal.loop-count-preserved
loop-count-preserved c = rw add-one (rw c.loop-count.invariant c.if-not-step.ensures)
