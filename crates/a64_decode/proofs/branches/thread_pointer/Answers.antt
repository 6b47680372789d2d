use Rattle.std.proofs.Common.{refl, rules, [], ◌∷◌}
use Rattle.a64_decode.proofs.Rows.{no_row, Is, IsNone}
use Rattle.a64_decode.proofs.branches.thread_pointer.Goals as goal

pub returns-in_default-clause-row : goal.returns-in_default-clause-row
returns-in_default-clause-row c =
    no_row (Is 0xFFD0_0000 0xD510_0000 ∷ IsNone 0xFFDF_FFE0 (0xD51B_D040 ∷ []) ∷ []) c.args.word (search rules) refl
