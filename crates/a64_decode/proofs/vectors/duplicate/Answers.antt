use Rattle.std.proofs.Common.{refl, rules, [], ◌∷◌}
use Rattle.a64_model.specs.declared.rows.Form.TheVariants as form
use Rattle.a64_decode.proofs.Rows.{row_at, no_row, Is, IsNone}
use Rattle.a64_decode.proofs.vectors.duplicate.Goals as goal

pub returns-in-234884096-clause-row : goal.returns-in-234884096-clause-row
returns-in-234884096-clause-row c =
    row_at 0xBFE0_FC00 0x0E00_0C00 c.args.word form.Duplicate (search rules) refl refl c.duplicate.ensures.value

pub returns-in_default-clause-row : goal.returns-in_default-clause-row
returns-in_default-clause-row c =
    no_row (Is 0xBF00_0000 0x0E00_0000 ∷ IsNone 0xBFE0_FC00 (0x0E00_0C00 ∷ []) ∷ []) c.args.word (search rules) refl
