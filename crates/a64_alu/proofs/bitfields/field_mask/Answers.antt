use Rattle.std.proofs.Common.{◌≡◌, ℕ, ◌*◌, ◌-◌, ◌%◌, ◌^◌, ◌<◌, arith}
use Rattle.std.proofs.lemmas.Nat.{pow_pos}
use Rattle.a64_model.specs.Operands.{width_bits}
use Rattle.a64_model.specs.Bitfields.{field_length, field_to, field_mask}
use Rattle.a64_model.specs.declared.operands.Width.{Width}
use Rattle.a64_alu.proofs.Widths.{width_bits_le, modulus_is}
use Rattle.a64_alu.proofs.Fields.{placed}
use Rattle.a64_alu.proofs.bitfields.field_mask.Goals as goal

mask : (w : Width) (immr imms : ℕ) → immr < width_bits w → imms < width_bits w →
    ((2 ^ field_length immr imms - 1) * 2 ^ field_to (width_bits w) immr imms % 2 ^ 64 ≡ field_mask w immr imms)
    × (field_mask w immr imms < 2 ^ width_bits w)
mask w immr imms r s =
    let below : 2 ^ field_length immr imms - 1 < 2 ^ field_length immr imms = omega (arith, pow_pos (field_length immr imms)) in
    placed (width_bits w) immr imms (2 ^ field_length immr imms - 1) r s (width_bits_le w) below

pub returns-clause-value : goal.returns-clause-value
returns-clause-value c =
    rw (c.ones.ensures.value, c.field_to.ensures, c.field_length.ensures, c.width_bits.ensures) (mask c.args.width c.args.immr c.args.imms c.requires.immr c.requires.imms).0

pub returns-clause-fits : goal.returns-clause-fits
returns-clause-fits c =
    let m = mask c.args.width c.args.immr c.args.imms c.requires.immr c.requires.imms in
    rw (c.ones.ensures.value, c.field_to.ensures, c.field_length.ensures, c.width_bits.ensures)
    (omega (arith, m.0, m.1, modulus_is c.args.width))
