use Rattle.std.proofs.Common.{refl, rules, [], ◌∷◌}
use Rattle.a64_model.specs.declared.rows.Form.TheVariants as form
use Rattle.a64_decode.proofs.Rows.{row_at, no_row, Is, IsNone}
use Rattle.a64_decode.proofs.data_registers.reverse_bytes.Goals as goal

pub returns-in-3670019072-clause-row : goal.returns-in-3670019072-clause-row
returns-in-3670019072-clause-row c =
    row_at 0xFFFF_FC00 0xDAC0_0C00 c.args.word form.ReverseBytes (search rules) refl refl c.reverse_bytes.ensures.value

pub returns-in_default-clause-row : goal.returns-in_default-clause-row
returns-in_default-clause-row c =
    no_row (Is 0x7FFF_FC00 0x5AC0_0C00 ∷ IsNone 0xFFFF_FC00 (0xDAC0_0C00 ∷ []) ∷ []) c.args.word (search rules) refl
