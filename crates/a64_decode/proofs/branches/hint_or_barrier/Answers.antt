use Rattle.std.proofs.Common.{refl, rules, [], ◌∷◌}
use Rattle.a64_model.specs.declared.rows.Form.TheVariants as form
use Rattle.a64_decode.proofs.Rows.{row_at, no_row, Is, IsNone}
use Rattle.a64_decode.proofs.branches.hint_or_barrier.Goals as goal

pub returns-in-3573751839-clause-row : goal.returns-in-3573751839-clause-row
returns-in-3573751839-clause-row c = row_at 0xFFFF_F01F 0xD503_201F c.args.word form.Hint (search rules) refl refl refl

pub returns-in_default-clause-row : goal.returns-in_default-clause-row
returns-in_default-clause-row c =
    no_row (Is 0xFFD0_0000 0xD500_0000 ∷ IsNone 0xFFFF_F01F (0xD503_201F ∷ 0xD503_301F ∷ []) ∷ []) c.args.word (search rules) refl
