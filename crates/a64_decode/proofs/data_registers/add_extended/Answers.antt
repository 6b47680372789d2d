use Rattle.std.proofs.Common.{refl, rules, [], ◌∷◌}
use Rattle.a64_model.specs.declared.rows.Form.TheVariants as form
use Rattle.a64_decode.proofs.Rows.{row_at, no_row, Is, IsNone}
use Rattle.a64_decode.proofs.data_registers.add_extended.Goals as goal

pub returns-in-186646528-clause-row : goal.returns-in-186646528-clause-row
returns-in-186646528-clause-row c =
    row_at 0x1FE0_0000 0x0B20_0000 c.args.word form.AddExtended (search rules) refl refl c.add_extended.ensures.value

pub returns-in_default-clause-row : goal.returns-in_default-clause-row
returns-in_default-clause-row c =
    no_row (Is 0x1F20_0000 0x0B20_0000 ∷ IsNone 0x1FE0_0000 (0x0B20_0000 ∷ []) ∷ []) c.args.word (search rules) refl
