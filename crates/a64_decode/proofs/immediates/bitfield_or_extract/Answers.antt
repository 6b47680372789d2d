use Rattle.std.proofs.Common.{refl, rules, [], ◌∷◌}
use Rattle.a64_model.specs.declared.rows.Form.TheVariants as form
use Rattle.a64_decode.proofs.Rows.{row_at, no_row, Is, IsNone}
use Rattle.a64_decode.proofs.immediates.bitfield_or_extract.Goals as goal

pub returns-in-318767104-clause-row : goal.returns-in-318767104-clause-row
returns-in-318767104-clause-row c =
    row_at 0x1F80_0000 0x1300_0000 c.args.word form.Bitfield (search rules) refl refl c.bitfield.ensures.value

pub returns-in_default-clause-row : goal.returns-in_default-clause-row
returns-in_default-clause-row c =
    no_row (Is 0x1F00_0000 0x1300_0000 ∷ IsNone 0x1F80_0000 (0x1300_0000 ∷ 0x1380_0000 ∷ []) ∷ []) c.args.word (search rules) refl
