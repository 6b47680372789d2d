use Rattle.std.proofs.Common.{◌-◌}
use Rattle.lx_machine.proofs.thread_table.+unmark_from.Given as goal

abbrev pub decreases-unmark_from : goal.decreases-unmark_from
decreases-unmark_from l = l.used - l.at
