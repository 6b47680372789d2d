use Rattle.std.proofs.Common.{true, false, refl, rules}
use Rattle.a64_model.specs.declared.rows.Form.TheVariants.{LoadOrdered, StoreOrdered}
use Rattle.a64_decode.proofs.Fields.{row_by_bit}
use Rattle.a64_decode.proofs.loads_stores.load_or_store_ordered.Goals as goal

pub returns-then-bit-clause-row : goal.returns-then-bit-clause-row
returns-then-bit-clause-row c =
    row_by_bit 0x3FBF_FC00 0x089F_FC00 22 c.args.word LoadOrdered StoreOrdered true (search rules) ((refl, refl), ((refl, refl), tt)) (search rules) c.load_ordered.ensures.value

pub returns-else-bit-clause-row : goal.returns-else-bit-clause-row
returns-else-bit-clause-row c =
    row_by_bit 0x3FBF_FC00 0x089F_FC00 22 c.args.word LoadOrdered StoreOrdered false (search rules) ((refl, refl), ((refl, refl), tt)) (search rules) c.store_ordered.ensures.value
