use Rattle.std.proofs.Common.{Some, ◌==◌, refl, rules, [], ◌∷◌}
use Rattle.a64_model.specs.declared.rows.Form.TheVariants.{LoadStoreVector}
use Rattle.a64_decode.proofs.Fields.{row_by_field}
use Rattle.a64_decode.proofs.Rows.{no_row, Is, IsNone}
use Rattle.a64_decode.proofs.vectors.load_store.Goals as goal

pub returns-in-1031798784-clause-row : goal.returns-in-1031798784-clause-row
returns-in-1031798784-clause-row c =
    row_by_field 0xFF80_0000 0x3D80_0000 1 22 (λ n. Some (LoadStoreVector (n == 1))) c.args.word (search rules)
    ((refl, refl), ((refl, refl), tt)) (search rules)

pub returns-in_default-clause-row : goal.returns-in_default-clause-row
returns-in_default-clause-row c =
    no_row (Is 0xFF00_0000 0x3D00_0000 ∷ IsNone 0xFF80_0000 (0x3D80_0000 ∷ []) ∷ []) c.args.word (search rules) refl
