use Rattle.std.proofs.Common.{refl, rules, [], ◌∷◌}
use Rattle.a64_decode.proofs.Fields.{joined}
use Rattle.a64_decode.proofs.Rows.{no_row, Is, IsNone}
use Rattle.a64_decode.proofs.data_registers.carry_or_compare.Goals as goal

pub conditional_compare-requires : goal.conditional_compare-requires
conditional_compare-requires c = joined 0x3F00_0000 0x3A00_0000 0x1FE0_0000 0x1A40_0000 c.args.word (search rules) (search rules)

pub returns-in_default-clause-row : goal.returns-in_default-clause-row
returns-in_default-clause-row c =
    no_row (Is 0x3F00_0000 0x3A00_0000 ∷ IsNone 0x1FE0_0000 (0x1A00_0000 ∷ 0x1A40_0000 ∷ []) ∷ []) c.args.word (search rules) refl
