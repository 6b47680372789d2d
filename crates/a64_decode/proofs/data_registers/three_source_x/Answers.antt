use Rattle.std.proofs.Common.{refl, rules, [], ◌∷◌}
use Rattle.a64_decode.proofs.Fields.{joined}
use Rattle.a64_decode.proofs.Rows.{no_row, Is, IsNone}
use Rattle.a64_decode.proofs.data_registers.three_source_x.Goals as goal

pub multiply_long-requires : goal.multiply_long-requires
multiply_long-requires c = joined 0xFF00_0000 0x9B00_0000 0x7F60_0000 0x1B20_0000 c.args.word (search rules) (search rules)

pub multiply_high-requires : goal.multiply_high-requires
multiply_high-requires c = joined 0xFF00_0000 0x9B00_0000 0x7F60_0000 0x1B40_0000 c.args.word (search rules) (search rules)

pub returns-in_default-clause-row : goal.returns-in_default-clause-row
returns-in_default-clause-row c =
    no_row (Is 0xFF00_0000 0x9B00_0000 ∷ IsNone 0x7F60_0000 (0x1B00_0000 ∷ 0x1B20_0000 ∷ 0x1B40_0000 ∷ []) ∷ []) c.args.word (search rules) refl
