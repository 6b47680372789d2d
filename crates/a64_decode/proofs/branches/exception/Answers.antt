use Rattle.std.proofs.Common.{refl, rules, [], ◌∷◌}
use Rattle.a64_model.specs.declared.rows.Form.TheVariants as form
use Rattle.a64_decode.proofs.Rows.{row_at, no_row, Is, IsNone}
use Rattle.a64_decode.proofs.branches.exception.Goals as goal

pub returns-in-3556769793-clause-row : goal.returns-in-3556769793-clause-row
returns-in-3556769793-clause-row c =
    row_at 0xFFE0_001F 0xD400_0001 c.args.word form.SupervisorCall (search rules) refl refl refl

pub returns-in-3558866944-clause-row : goal.returns-in-3558866944-clause-row
returns-in-3558866944-clause-row c =
    row_at 0xFFE0_001F 0xD420_0000 c.args.word form.Breakpoint (search rules) refl refl refl

pub returns-in_default-clause-row : goal.returns-in_default-clause-row
returns-in_default-clause-row c =
    no_row (Is 0xFF00_0000 0xD400_0000 ∷ IsNone 0xFFE0_001F (0xD400_0001 ∷ 0xD420_0000 ∷ []) ∷ []) c.args.word (search rules) refl
