use Rattle.std.proofs.Common.{refl, rules, [], ◌∷◌}
use Rattle.a64_model.specs.declared.rows.Form.TheVariants as form
use Rattle.a64_decode.proofs.Rows.{row_at, no_row, Is, IsNone}
use Rattle.a64_decode.proofs.immediates.add_immediate.Goals as goal

pub returns-in-285212672-clause-row : goal.returns-in-285212672-clause-row
returns-in-285212672-clause-row c =
    row_at 0x1F80_0000 0x1100_0000 c.args.word form.AddImmediate (search rules) refl refl c.add_immediate.ensures.value

pub returns-in_default-clause-row : goal.returns-in_default-clause-row
returns-in_default-clause-row c =
    no_row (Is 0x1F00_0000 0x1100_0000 ∷ IsNone 0x1F80_0000 (0x1100_0000 ∷ []) ∷ []) c.args.word (search rules) refl
