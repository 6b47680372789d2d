use Rattle.std.proofs.Common.{◌-◌}
use Rattle.lx_machine.proofs.thread_table.+forget_from.Given as goal

abbrev pub decreases-forget_from : goal.decreases-forget_from
decreases-forget_from l = l.used - l.at
