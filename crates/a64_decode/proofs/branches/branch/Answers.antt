use Rattle.std.proofs.Common.{Some, ◌==◌, refl, rules}
use Rattle.a64_model.specs.declared.rows.Form.TheVariants.{Branch}
use Rattle.a64_decode.proofs.Fields.{row_by_field}
use Rattle.a64_decode.proofs.branches.branch.Goals as goal

pub returns-clause-row : goal.returns-clause-row
returns-clause-row c = row_by_field 0x7C00_0000 0x1400_0000 1 31 (λ n. Some (Branch (n == 1))) c.args.word (search rules) ((refl, refl), ((refl, refl), tt)) (search rules)
