use Rattle.std.proofs.Common.{length}
use Rattle.lx_machine.proofs.signals.+with_bits.Given as goal

abbrev pub decreases-with_bits : goal.decreases-with_bits
decreases-with_bits l = length l.infos.now
