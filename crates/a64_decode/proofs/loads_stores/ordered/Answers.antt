use Rattle.std.proofs.Common.{refl, rules, [], ◌∷◌}
use Rattle.a64_decode.proofs.Rows.{no_row, Is, IsNone}
use Rattle.a64_decode.proofs.loads_stores.ordered.Goals as goal

pub returns-in_default-clause-row : goal.returns-in_default-clause-row
returns-in_default-clause-row c =
    no_row (Is 0x3FA0_0000 0x0880_0000 ∷ IsNone 0x3FBF_FC00 (0x089F_FC00 ∷ []) ∷ []) c.args.word (search rules) refl
