use Rattle.std.proofs.Common.{refl, rules, [], ◌∷◌}
use Rattle.a64_model.specs.declared.rows.Form.TheVariants as form
use Rattle.a64_decode.proofs.Rows.{row_at, no_row, Is, IsNone}
use Rattle.a64_decode.proofs.immediates.logical_or_move.Goals as goal

pub returns-in-301989888-clause-row : goal.returns-in-301989888-clause-row
returns-in-301989888-clause-row c =
    row_at 0x1F80_0000 0x1200_0000 c.args.word form.LogicalImmediate (search rules) refl refl c.logical_immediate.ensures.value

pub returns-in-310378496-clause-row : goal.returns-in-310378496-clause-row
returns-in-310378496-clause-row c =
    row_at 0x1F80_0000 0x1280_0000 c.args.word form.MoveWide (search rules) refl refl c.move_wide.ensures.value

pub returns-in_default-clause-row : goal.returns-in_default-clause-row
returns-in_default-clause-row c =
    no_row (Is 0x1F00_0000 0x1200_0000 ∷ IsNone 0x1F80_0000 (0x1200_0000 ∷ 0x1280_0000 ∷ []) ∷ []) c.args.word (search rules) refl
