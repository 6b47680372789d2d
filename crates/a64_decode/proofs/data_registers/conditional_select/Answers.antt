use Rattle.std.proofs.Common.{refl, rules, [], ◌∷◌}
use Rattle.a64_model.specs.declared.rows.Form.TheVariants as form
use Rattle.a64_decode.proofs.Rows.{row_at, no_row, Is, IsNone}
use Rattle.a64_decode.proofs.data_registers.conditional_select.Goals as goal

pub returns-in-444596224-clause-row : goal.returns-in-444596224-clause-row
returns-in-444596224-clause-row c =
    row_at 0x3FE0_0800 0x1A80_0000 c.args.word form.ConditionalSelect (search rules) refl refl c.conditional_select.ensures.value

pub returns-in_default-clause-row : goal.returns-in_default-clause-row
returns-in_default-clause-row c =
    no_row (Is 0x3FE0_0000 0x1A80_0000 ∷ IsNone 0x3FE0_0800 (0x1A80_0000 ∷ []) ∷ []) c.args.word (search rules) refl
