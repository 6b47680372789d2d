use Rattle.std.proofs.Common.{◌+◌, ◌-◌, ◌*◌, ◌<◌, arith}
use Rattle.a64_alu.proofs.Highest.{highest_set_bit-le}
use Rattle.a64_alu.proofs.patterns.element_log.Goals as goal

pub returns-clause-small : goal.returns-clause-small
returns-clause-small c =
    let seven_bits : c.args.n * 64 + (63 - c.args.imms) < 128 = omega arith in
    omega (arith, highest_set_bit-le (c.args.n * 64 + (63 - c.args.imms)) seven_bits)
