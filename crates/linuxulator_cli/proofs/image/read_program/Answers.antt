-- The entry lies in a segment, so there is one.
use Rattle.std.proofs.Common.{arith}
use Rattle.linuxulator_cli.proofs.image.read_program.Goals as goal

pub single_program-requires : goal.single_program-requires
single_program-requires c = omega (arith, c.in-Ok.ensures.laid_out.entry.2)
