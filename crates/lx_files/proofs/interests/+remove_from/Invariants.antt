use Rattle.std.proofs.Common.{◌-◌, length}
use Rattle.lx_files.proofs.interests.+remove_from.Given as goal

abbrev pub decreases-remove_from : goal.decreases-remove_from
decreases-remove_from l = length l.epolls.now - l.at
