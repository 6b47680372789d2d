use Rattle.std.proofs.Common.{◌-◌}
use Rattle.lx_signal_calls.proofs.sigreturn.+read_from.Given as goal

abbrev pub decreases-read_from : goal.decreases-read_from
decreases-read_from l = 31 - l.i
