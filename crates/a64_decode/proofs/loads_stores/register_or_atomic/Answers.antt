use Rattle.std.proofs.Common.{refl, rules, [], ◌∷◌}
use Rattle.a64_model.specs.declared.rows.Form.TheVariants as form
use Rattle.a64_decode.proofs.Rows.{row_at, no_row, Is, IsNone}
use Rattle.a64_decode.proofs.loads_stores.register_or_atomic.Goals as goal

pub returns-in-941623296-clause-row : goal.returns-in-941623296-clause-row
returns-in-941623296-clause-row c =
    row_at 0x3F20_0C00 0x3820_0800 c.args.word form.LoadStoreRegister (search rules) refl refl c.load_store_register.ensures.value

pub returns-in_default-clause-row : goal.returns-in_default-clause-row
returns-in_default-clause-row c =
    no_row (Is 0x3F20_0000 0x3820_0000 ∷ IsNone 0x3F20_0C00 (0x3820_0000 ∷ 0x3820_0800 ∷ []) ∷ []) c.args.word (search rules) refl
