-- A field that is moved to its place loses nothing.
use Rattle.std.proofs.Common.{ℕ, ◌≡◌, ◌<◌, ◌≤◌, ◌+◌, ◌*◌, ◌%◌, ◌^◌, arith}
use Rattle.std.proofs.lemmas.Bool.Decides.{nat_tests}
use Rattle.std.proofs.lemmas.Nat.{shl_whole, shl_below}
use Rattle.std.proofs.Math.Pow.{pow_mono}
use Rattle.a64_model.specs.Bitfields.{field_length, field_to}

-- the field and its place fit the width
field_fits : (bits immr imms : ℕ) → immr < bits → imms < bits → field_length immr imms + field_to bits immr imms ≤ bits
field_fits bits immr imms r s = grind (arith, nat_tests)

pub placed : (bits immr imms f : ℕ) → immr < bits → imms < bits → bits ≤ 64 → f < 2 ^ field_length immr imms →
    (f * 2 ^ field_to bits immr imms % 2 ^ 64 ≡ f * 2 ^ field_to bits immr imms) × (f * 2 ^ field_to bits immr imms < 2 ^ bits)
placed bits immr imms f r s width below =
    let fits : field_length immr imms + field_to bits immr imms ≤ bits = field_fits bits immr imms r s in
    let whole : field_length immr imms + field_to bits immr imms ≤ 64 = omega arith in (
      shl_whole f (field_length immr imms) (field_to bits immr imms) 64 below whole,
      omega (arith, shl_below f (field_length immr imms) (field_to bits immr imms) below, pow_mono fits),
    )
