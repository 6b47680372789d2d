use Rattle.std.proofs.Common.{arith}
use Rattle.a64_step.proofs.PlacedLemmas.{placed_16_whole}
use Rattle.a64_step.proofs.immediates.placed_16.Goals as goal

pub returns-clause-value : goal.returns-clause-value
returns-clause-value c = rw (c.from.ensures, c.from-2.ensures) (placed_16_whole c.args.width c.args.hw c.args.imm16 (omega arith) c.requires)
