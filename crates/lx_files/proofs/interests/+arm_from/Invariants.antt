use Rattle.std.proofs.Common.{◌-◌, length}
use Rattle.lx_files.proofs.interests.+arm_from.Given as goal

abbrev pub decreases-arm_from : goal.decreases-arm_from
decreases-arm_from l = length l.epolls.now - l.at
