use Rattle.std.proofs.Common.{Some, ◌==◌, refl, rules}
use Rattle.a64_model.specs.declared.rows.Form.TheVariants.{PcRelative}
use Rattle.a64_decode.proofs.Fields.{row_by_field}
use Rattle.a64_decode.proofs.immediates.pc_relative.Goals as goal

pub returns-clause-row : goal.returns-clause-row
returns-clause-row c = row_by_field 0x1F00_0000 0x1000_0000 1 31 (λ n. Some (PcRelative (n == 1))) c.args.word (search rules) ((refl, refl), ((refl, refl), tt)) (search rules)
