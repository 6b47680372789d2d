use Rattle.std.proofs.Common.{refl, rules, [], ◌∷◌, inl, inr}
use Rattle.a64_model.specs.declared.rows.Form.TheVariants as form
use Rattle.a64_decode.proofs.Rows.{row_at, no_row, Is, IsNone}
use Rattle.a64_decode.proofs.loads_stores.load_exclusive.Goals as goal

pub returns-in-140475392-clause-row : goal.returns-in-140475392-clause-row
returns-in-140475392-clause-row c =
    elim c.in-140475392.is [
      | inl plain ↦ row_at 0x3FFF_FC00 0x085F_7C00 c.args.word form.LoadExclusive plain refl refl c.load_exclusive.ensures.value
      | inr ordered ↦ row_at 0x3FFF_FC00 0x085F_FC00 c.args.word form.LoadExclusive ordered refl refl c.load_exclusive.ensures.value
    ]

pub returns-in_default-clause-row : goal.returns-in_default-clause-row
returns-in_default-clause-row c =
    no_row (Is 0x3FE0_0000 0x0840_0000 ∷ IsNone 0x3FFF_FC00 (0x085F_7C00 ∷ 0x085F_FC00 ∷ []) ∷ []) c.args.word (search rules) refl
