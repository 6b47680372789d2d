use Rattle.std.proofs.Common.{◌≡◌, ◌*◌, ◌%◌, ◌^◌, ◌≤◌, arith}
use Rattle.std.proofs.lemmas.Nat.{one_shl}
use Rattle.std.proofs.Math.Pow.{pow_mono}
use Rattle.a64_alu.proofs.patterns.element_size.Goals as goal

pub returns-clause-in_word : goal.returns-clause-in_word
returns-clause-in_word c =
    let whole : 1 * 2 ^ c.element_log.result % 2 ^ 32 ≡ 2 ^ c.element_log.result = one_shl c.element_log.result 32 (omega arith) in
    let low : 2 ^ c.element_log.result ≤ 2 ^ 6 = pow_mono {j = 6} (omega arith) in
    omega (arith, whole, low)

pub returns-clause-some : goal.returns-clause-some
returns-clause-some c = λ some.
    let whole : 1 * 2 ^ c.element_log.result % 2 ^ 32 ≡ 2 ^ c.element_log.result = one_shl c.element_log.result 32 (omega arith) in
    let high : 2 ^ 1 ≤ 2 ^ c.element_log.result = pow_mono {i = 1} (omega arith) in
    omega (arith, whole, high)
