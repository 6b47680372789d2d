use Rattle.std.proofs.Common.{refl, rules, [], ◌∷◌}
use Rattle.a64_model.specs.declared.rows.Form.TheVariants as form
use Rattle.a64_decode.proofs.Rows.{row_at, no_row, Is, IsNone}
use Rattle.a64_decode.proofs.branches.conditional.Goals as goal

pub returns-in-1409286144-clause-row : goal.returns-in-1409286144-clause-row
returns-in-1409286144-clause-row c =
    row_at 0xFF00_0010 0x5400_0000 c.args.word form.BranchConditional (search rules) refl refl c.branch_conditional.ensures.value

pub returns-in_default-clause-row : goal.returns-in_default-clause-row
returns-in_default-clause-row c =
    no_row (Is 0xFF00_0000 0x5400_0000 ∷ IsNone 0xFF00_0010 (0x5400_0000 ∷ []) ∷ []) c.args.word (search rules) refl
