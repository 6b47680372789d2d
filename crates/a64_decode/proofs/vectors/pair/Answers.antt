use Rattle.std.proofs.Common.{Some, ◌==◌, refl, rules, [], ◌∷◌}
use Rattle.a64_model.specs.declared.rows.Form.TheVariants.{LoadStoreVectorPair}
use Rattle.a64_decode.proofs.Fields.{row_by_field}
use Rattle.a64_decode.proofs.Rows.{no_row, Is, IsNone}
use Rattle.a64_decode.proofs.vectors.pair.Goals as goal

pub returns-in-2902458368-clause-row : goal.returns-in-2902458368-clause-row
returns-in-2902458368-clause-row c =
    row_by_field 0xFF80_0000 0xAD00_0000 1 22 (λ n. Some (LoadStoreVectorPair (n == 1))) c.args.word (search rules)
    ((refl, refl), ((refl, refl), tt)) (search rules)

pub returns-in_default-clause-row : goal.returns-in_default-clause-row
returns-in_default-clause-row c =
    no_row (Is 0xFF00_0000 0xAD00_0000 ∷ IsNone 0xFF80_0000 (0xAD00_0000 ∷ []) ∷ []) c.args.word (search rules) refl
