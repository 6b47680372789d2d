use Rattle.std.proofs.Common.{refl, rules, [], ◌∷◌}
use Rattle.a64_model.specs.declared.rows.Form.TheVariants as form
use Rattle.a64_decode.proofs.Rows.{row_at, no_row, Is, IsNone}
use Rattle.a64_decode.proofs.immediates.extract.Goals as goal

pub returns-in-327155712-clause-row : goal.returns-in-327155712-clause-row
returns-in-327155712-clause-row c =
    row_at 0x7FA0_0000 0x1380_0000 c.args.word form.Extract (search rules) refl refl c.extract.ensures.value

pub returns-in_default-clause-row : goal.returns-in_default-clause-row
returns-in_default-clause-row c =
    no_row (Is 0x1F80_0000 0x1380_0000 ∷ IsNone 0x7FA0_0000 (0x1380_0000 ∷ []) ∷ []) c.args.word (search rules) refl
