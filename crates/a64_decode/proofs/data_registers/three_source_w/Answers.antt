use Rattle.std.proofs.Common.{refl, rules, [], ◌∷◌}
use Rattle.a64_decode.proofs.Rows.{no_row, Is, IsNone}
use Rattle.a64_decode.proofs.data_registers.three_source_w.Goals as goal

pub returns-in_default-clause-row : goal.returns-in_default-clause-row
returns-in_default-clause-row c =
    no_row (Is 0xFF00_0000 0x1B00_0000 ∷ IsNone 0x7F60_0000 (0x1B00_0000 ∷ []) ∷ []) c.args.word (search rules) refl
