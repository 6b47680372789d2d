use Rattle.std.proofs.Common.{true, false, refl, rules}
use Rattle.a64_model.specs.declared.rows.Form.TheVariants.{ReadThreadPointer, WriteThreadPointer}
use Rattle.a64_decode.proofs.Fields.{row_by_bit}
use Rattle.a64_decode.proofs.branches.read_or_write_thread_pointer.Goals as goal

pub returns-then-bit-clause-row : goal.returns-then-bit-clause-row
returns-then-bit-clause-row c =
    row_by_bit 0xFFDF_FFE0 0xD51B_D040 21 c.args.word ReadThreadPointer WriteThreadPointer true (search rules) ((refl, refl), ((refl, refl), tt)) (search rules) c.read_thread_pointer.ensures.value

pub returns-else-bit-clause-row : goal.returns-else-bit-clause-row
returns-else-bit-clause-row c =
    row_by_bit 0xFFDF_FFE0 0xD51B_D040 21 c.args.word ReadThreadPointer WriteThreadPointer false (search rules) ((refl, refl), ((refl, refl), tt)) (search rules) c.write_thread_pointer.ensures.value
