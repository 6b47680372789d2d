use Rattle.std.proofs.Common.{Some, ◌==◌, if◌then◌else◌, refl, rules, [], ◌∷◌}
use Rattle.a64_model.specs.declared.rows.Form.TheVariants as form
use Rattle.a64_model.specs.declared.operands.AddOp.TheVariants.{Add, Subtract}
use Rattle.a64_decode.proofs.Fields.{row_by_field}
use Rattle.a64_decode.proofs.Rows.{no_row, Is, IsNone}
use Rattle.a64_decode.proofs.data_registers.multiply_add.Goals as goal

pub returns-in-452984832-clause-row : goal.returns-in-452984832-clause-row
returns-in-452984832-clause-row c =
    row_by_field 0x7FE0_0000 0x1B00_0000 1 15 (λ n. Some (form.MultiplyAdd (if n == 1 then Subtract else Add))) c.args.word (search rules)
    ((refl, refl), ((refl, refl), tt)) (search rules)

pub returns-in_default-clause-row : goal.returns-in_default-clause-row
returns-in_default-clause-row c =
    no_row (Is 0x7F60_0000 0x1B00_0000 ∷ IsNone 0x7FE0_0000 (0x1B00_0000 ∷ []) ∷ []) c.args.word (search rules) refl
