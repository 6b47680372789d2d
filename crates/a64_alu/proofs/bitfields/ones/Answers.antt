use Rattle.std.proofs.Common.{◌≡◌, ℕ, ◌-◌, ◌/◌, ◌^◌, ◌≤◌, ap, ◌∙◌, arith}
use Rattle.std.proofs.lemmas.Nat.{pow_pos}
use Rattle.std.proofs.lemmas.Nat.Bits.{ones_shr}
use Rattle.a64_alu.proofs.bitfields.ones.Goals as goal

moved : (count : ℕ) → count ≤ 64 → (2 ^ 64 - 1) / 2 ^ (64 - count) ≡ 2 ^ count - 1
moved count h =
    let within : 64 - count ≤ 64 = omega arith in
    let same : 64 - (64 - count) ≡ count = omega arith in
    ones_shr 64 (64 - count) within ∙ ap (λ k. 2 ^ k - 1) same

pub returns-clause-value : goal.returns-clause-value
returns-clause-value c = moved c.args.count c.requires.in_word

pub returns-clause-fits : goal.returns-clause-fits
returns-clause-fits c = omega (arith, moved c.args.count c.requires.in_word, pow_pos c.args.count)
