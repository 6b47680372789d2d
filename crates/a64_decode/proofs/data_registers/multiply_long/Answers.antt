use Rattle.std.proofs.Common.{Some, ◌==◌, if◌then◌else◌, refl, rules}
use Rattle.std.proofs.Math.Bool.{not}
use Rattle.a64_model.specs.declared.rows.Form.TheVariants.{MultiplyLong}
use Rattle.a64_model.specs.declared.operands.AddOp.TheVariants.{Add, Subtract}
use Rattle.a64_decode.proofs.Fields.{row_by_two_fields}
use Rattle.a64_decode.proofs.data_registers.multiply_long.Goals as goal

pub returns-clause-row : goal.returns-clause-row
returns-clause-row c =
    row_by_two_fields 0xFF60_0000 0x9B20_0000 1 23 1 15 (λ u n. Some (MultiplyLong (not (u == 1)) (if n == 1 then Subtract else Add))) c.args.word (search rules)
    (((refl, refl), ((refl, refl), tt)), (((refl, refl), ((refl, refl), tt)), tt)) (search rules)
