use Rattle.std.proofs.Common.{refl, rules, [], ◌∷◌}
use Rattle.a64_model.specs.declared.rows.Form.TheVariants as form
use Rattle.a64_decode.proofs.Rows.{row_at, no_row, Is, IsNone}
use Rattle.a64_decode.proofs.branches.barrier.Goals as goal

pub returns-in-3573755999-clause-row : goal.returns-in-3573755999-clause-row
returns-in-3573755999-clause-row c =
    row_at 0xFFFF_F0FF 0xD503_305F c.args.word form.ClearExclusive (search rules) refl refl refl

pub returns-in-3573756063-clause-row : goal.returns-in-3573756063-clause-row
returns-in-3573756063-clause-row c =
    row_at 0xFFFF_F0FF 0xD503_309F c.args.word form.Barrier (search rules) refl refl refl

pub returns-in-3573756095-clause-row : goal.returns-in-3573756095-clause-row
returns-in-3573756095-clause-row c =
    row_at 0xFFFF_F0FF 0xD503_30BF c.args.word form.Barrier (search rules) refl refl refl

pub returns-in-3573756127-clause-row : goal.returns-in-3573756127-clause-row
returns-in-3573756127-clause-row c =
    row_at 0xFFFF_F0FF 0xD503_30DF c.args.word form.Barrier (search rules) refl refl refl

pub returns-in_default-clause-row : goal.returns-in_default-clause-row
returns-in_default-clause-row c =
    no_row (Is 0xFFFF_F01F 0xD503_301F ∷ IsNone 0xFFFF_F0FF (0xD503_305F ∷ 0xD503_309F ∷ 0xD503_30BF ∷ 0xD503_30DF ∷ []) ∷ []) c.args.word (search rules) refl
