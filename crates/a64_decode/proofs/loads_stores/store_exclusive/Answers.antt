use Rattle.std.proofs.Common.{refl, rules, [], ◌∷◌, inl, inr}
use Rattle.a64_model.specs.declared.rows.Form.TheVariants as form
use Rattle.a64_decode.proofs.Rows.{row_at, no_row, Is, IsNone}
use Rattle.a64_decode.proofs.loads_stores.store_exclusive.Goals as goal

pub returns-in-134249472-clause-row : goal.returns-in-134249472-clause-row
returns-in-134249472-clause-row c =
    elim c.in-134249472.is [
      | inl plain ↦ row_at 0x3FE0_FC00 0x0800_7C00 c.args.word form.StoreExclusive plain refl refl c.store_exclusive.ensures.value
      | inr ordered ↦ row_at 0x3FE0_FC00 0x0800_FC00 c.args.word form.StoreExclusive ordered refl refl c.store_exclusive.ensures.value
    ]

pub returns-in_default-clause-row : goal.returns-in_default-clause-row
returns-in_default-clause-row c =
    no_row (Is 0x3FE0_0000 0x0800_0000 ∷ IsNone 0x3FE0_FC00 (0x0800_7C00 ∷ 0x0800_FC00 ∷ []) ∷ []) c.args.word (search rules) refl
