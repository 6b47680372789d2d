use Rattle.std.proofs.Common.{◌-◌, length}
use Rattle.lx_machine.proofs.files.+report_from.Given as goal

abbrev pub decreases-report_from : goal.decreases-report_from
decreases-report_from l = length l.interests.now - l.at
