use Rattle.std.proofs.Common.{Some, ◌==◌, refl, rules, [], ◌∷◌}
use Rattle.a64_model.specs.declared.rows.Form.TheVariants as form
use Rattle.std.proofs.Math.Bool.{not}
use Rattle.a64_decode.proofs.Fields.{row_by_field}
use Rattle.a64_decode.proofs.Rows.{no_row, Is, IsNone}
use Rattle.a64_decode.proofs.data_registers.multiply_high.Goals as goal

pub returns-in-2604694528-clause-row : goal.returns-in-2604694528-clause-row
returns-in-2604694528-clause-row c =
    row_by_field 0xFF60_FC00 0x9B40_7C00 1 23 (λ n. Some (form.MultiplyHigh (not (n == 1)))) c.args.word (search rules)
    ((refl, refl), ((refl, refl), tt)) (search rules)

pub returns-in_default-clause-row : goal.returns-in_default-clause-row
returns-in_default-clause-row c =
    no_row (Is 0xFF60_0000 0x9B40_0000 ∷ IsNone 0xFF60_FC00 (0x9B40_7C00 ∷ []) ∷ []) c.args.word (search rules) refl
