use Rattle.std.proofs.Common.{refl, rules, [], ◌∷◌}
use Rattle.a64_decode.proofs.Fields.{joined}
use Rattle.a64_decode.proofs.Rows.{narrowed, no_row, Is, IsNone}
use Rattle.a64_decode.proofs.data_registers.select_or_two_source.Goals as goal

pub conditional_select-requires : goal.conditional_select-requires
conditional_select-requires c = narrowed 0x7FE0_0000 0x1A80_0000 0x3FE0_0000 c.args.word (joined 0x7F00_0000 0x1A00_0000 0x1FE0_0000 0x1A80_0000 c.args.word (search rules) (search rules)) refl

pub two_source-requires : goal.two_source-requires
two_source-requires c = joined 0x7F00_0000 0x1A00_0000 0x1FE0_0000 0x1AC0_0000 c.args.word (search rules) (search rules)

pub returns-in_default-clause-row : goal.returns-in_default-clause-row
returns-in_default-clause-row c =
    no_row (Is 0x7F00_0000 0x1A00_0000 ∷ IsNone 0x1FE0_0000 (0x1A00_0000 ∷ 0x1A80_0000 ∷ 0x1AC0_0000 ∷ []) ∷ []) c.args.word (search rules) refl
