use Rattle.std.proofs.Common.{◌-◌, length}
use Rattle.lx_machine.proofs.files.+change_from.Given as goal

abbrev pub decreases-change_from : goal.decreases-change_from
decreases-change_from l = length l.interests.now - l.at
