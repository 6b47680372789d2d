use Rattle.std.proofs.Common.{Some, ◌==◌, refl, rules}
use Rattle.a64_model.specs.declared.rows.Form.TheVariants.{CompareBranch}
use Rattle.a64_decode.proofs.Fields.{row_by_field}
use Rattle.a64_decode.proofs.branches.compare_branch.Goals as goal

pub returns-clause-row : goal.returns-clause-row
returns-clause-row c = row_by_field 0x7E00_0000 0x3400_0000 1 24 (λ n. Some (CompareBranch (n == 1))) c.args.word (search rules) ((refl, refl), ((refl, refl), tt)) (search rules)
