-- An immediate of 16 bits at its place.
use Rattle.std.proofs.Common.{◌≡◌, ℕ, ◌<◌, ◌≤◌, ◌+◌, ◌*◌, ◌%◌, ◌^◌, arith}
use Rattle.std.proofs.lemmas.Nat.{shl_whole, shl_below}
use Rattle.std.proofs.Math.Pow.{pow_mono}
use Rattle.a64_model.specs.Operands.{width_bits}
use Rattle.a64_model.specs.Arithmetic.{modulus}
use Rattle.a64_model.specs.ExecImmediates.{placed_16}
use Rattle.a64_model.specs.declared.operands.Width.{Width}
use Rattle.a64_model.specs.declared.operands.Width.TheVariants.{W, X}

-- places are multiples of 16, so the whole immediate fits
place_fits : (w : Width) (hw : ℕ) → hw * 16 < width_bits w → 16 + hw * 16 ≤ width_bits w
place_fits W hw h = omega arith
place_fits X hw h = omega arith

pub placed_16_whole : (w : Width) (hw imm : ℕ) → imm < 2 ^ 16 → hw * 16 < width_bits w → imm * 2 ^ (hw * 16) % 2 ^ 64 ≡ placed_16 hw imm
placed_16_whole W hw imm g h = shl_whole imm 16 (hw * 16) 64 g (omega arith)
placed_16_whole X hw imm g h = shl_whole imm 16 (hw * 16) 64 g (omega arith)

pub placed_16_below : (w : Width) (hw imm : ℕ) → imm < 2 ^ 16 → hw * 16 < width_bits w → placed_16 hw imm < modulus w
placed_16_below W hw imm g h =
    let most : 2 ^ (16 + hw * 16) ≤ 2 ^ 32 = pow_mono (place_fits W hw h) in
    omega (arith, shl_below imm 16 (hw * 16) g, most)
placed_16_below X hw imm g h =
    let most : 2 ^ (16 + hw * 16) ≤ 2 ^ 64 = pow_mono (place_fits X hw h) in
    omega (arith, shl_below imm 16 (hw * 16) g, most)
