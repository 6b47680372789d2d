use Rattle.std.proofs.Common.{◌≡◌, ℕ, ◌+◌, ◌-◌, ◌*◌, ◌%◌, ◌^◌, ◌<◌, ◌≤◌, arith}
use Rattle.std.proofs.lemmas.Nat.{one_shl, shl_whole, and_mask, mod_below, pow_pos}
use Rattle.std.proofs.Math.Pow.{pow_mono}
use Rattle.a64_alu.proofs.patterns.pattern.Goals as goal

pub nonzero_div-result : goal.nonzero_div-result
nonzero_div-result c =
    let two : 2 ^ 1 ≤ 2 ^ c.args.size = pow_mono {i = 1} (omega arith) in
    let whole : 1 * 2 ^ c.args.size % 2 ^ 128 ≡ 2 ^ c.args.size = one_shl c.args.size 128 (omega arith) in
    omega (arith, whole, two)

pub returns : goal.returns
returns c =
    let size : ℕ = c.args.size in
    let count : ℕ = c.args.imms % size + 1 in
    let within : c.args.imms % size < size = mod_below c.args.imms size (omega arith) in
    let mask : 1 * 2 ^ size % 2 ^ 128 ≡ 2 ^ size = one_shl size 128 (omega arith) in
    let ones : 1 * 2 ^ count % 2 ^ 128 ≡ 2 ^ count = one_shl count 128 (omega arith) in
    let below : 2 ^ count - 1 < 2 ^ count = omega (arith, pow_pos count) in
    let moved : (2 ^ count - 1) * 2 ^ size % 2 ^ 128 ≡ (2 ^ count - 1) * 2 ^ size = shl_whole (2 ^ count - 1) count size 128 below (omega arith) in
    rw (mask, ones, moved, and_mask)
