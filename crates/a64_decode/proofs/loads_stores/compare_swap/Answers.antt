use Rattle.std.proofs.Common.{refl, rules, [], ◌∷◌}
use Rattle.a64_model.specs.declared.rows.Form.TheVariants as form
use Rattle.a64_decode.proofs.Rows.{row_at, no_row, Is, IsNone}
use Rattle.a64_decode.proofs.loads_stores.compare_swap.Goals as goal

pub returns-in-144735232-clause-row : goal.returns-in-144735232-clause-row
returns-in-144735232-clause-row c =
    row_at 0x3FA0_7C00 0x08A0_7C00 c.args.word form.CompareSwap (search rules) refl refl c.compare_swap.ensures.value

pub returns-in_default-clause-row : goal.returns-in_default-clause-row
returns-in_default-clause-row c =
    no_row (Is 0x3FA0_0000 0x08A0_0000 ∷ IsNone 0x3FA0_7C00 (0x08A0_7C00 ∷ []) ∷ []) c.args.word (search rules) refl
