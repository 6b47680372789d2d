use Rattle.std.proofs.Common.{◌/◌, ◌^◌, ◌<◌}
use Rattle.std.proofs.lemmas.Nat.{mod_below, pow_pos}
use Rattle.a64_model.specs.Operands.{width_bits}
use Rattle.a64_model.specs.Bitfields.{field_of, field_length, field_from}
use Rattle.a64_alu.proofs.Widths.{width_bits_le}
use Rattle.a64_alu.proofs.Fields.{placed}
use Rattle.a64_alu.proofs.bitfields.unsigned_field.Goals as goal

pub returns : goal.returns
returns c =
    let below : field_of c.args.n c.args.immr c.args.imms < 2 ^ field_length c.args.immr c.args.imms =
    mod_below (c.args.n / 2 ^ field_from c.args.immr c.args.imms) (2 ^ field_length c.args.immr c.args.imms) (pow_pos (field_length c.args.immr c.args.imms)) in
    rw (c.field_of.ensures, c.field_to.ensures, c.width_bits.ensures)
    (placed (width_bits c.args.width) c.args.immr c.args.imms (field_of c.args.n c.args.immr c.args.imms) c.requires.immr c.requires.imms (width_bits_le c.args.width) below).0
