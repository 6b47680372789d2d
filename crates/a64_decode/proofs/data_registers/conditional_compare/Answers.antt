use Rattle.std.proofs.Common.{refl, rules, [], ◌∷◌}
use Rattle.a64_model.specs.declared.rows.Form.TheVariants as form
use Rattle.a64_decode.proofs.Rows.{row_at, no_row, Is, IsNone}
use Rattle.a64_decode.proofs.data_registers.conditional_compare.Goals as goal

pub returns-in-977272832-clause-row : goal.returns-in-977272832-clause-row
returns-in-977272832-clause-row c =
    row_at 0x3FE0_0C10 0x3A40_0000 c.args.word form.ConditionalCompareRegister (search rules) refl refl c.conditional_compare_register.ensures.value

pub returns-in-977274880-clause-row : goal.returns-in-977274880-clause-row
returns-in-977274880-clause-row c =
    row_at 0x3FE0_0C10 0x3A40_0800 c.args.word form.ConditionalCompareImmediate (search rules) refl refl c.conditional_compare_immediate.ensures.value

pub returns-in_default-clause-row : goal.returns-in_default-clause-row
returns-in_default-clause-row c =
    no_row (Is 0x3FE0_0000 0x3A40_0000 ∷ IsNone 0x3FE0_0C10 (0x3A40_0000 ∷ 0x3A40_0800 ∷ []) ∷ []) c.args.word (search rules) refl
