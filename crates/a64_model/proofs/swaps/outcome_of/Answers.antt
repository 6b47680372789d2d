use Rattle.std.proofs.Common.{◌<◌, ◌^◌, sym, arith, bit_and, bit_xor}
use Rattle.std.proofs.Math.Nat.{mod-eq_of_lt}
use Rattle.std.proofs.lemmas.Nat.{xor_lt, or_lt, and_le_l}
use Rattle.a64_model.proofs.swaps.outcome_of.Goals as goal

pub returns-in-Clear : goal.returns-in-Clear
returns-in-Clear c =
    let old : c.args.old < 2 ^ 64 = omega arith in
    let fits : bit_xor c.args.old (bit_and c.args.old c.args.value) < 2 ^ 64 = xor_lt 64 _ _ old (omega (arith, and_le_l c.args.old c.args.value)) in
    rw c.in-Clear.is (sym (mod-eq_of_lt fits))

pub returns-in-Xor : goal.returns-in-Xor
returns-in-Xor c =
    let old : c.args.old < 2 ^ 64 = omega arith in
    let value : c.args.value < 2 ^ 64 = omega arith in
    rw c.in-Xor.is (sym (mod-eq_of_lt (xor_lt 64 _ _ old value)))

pub returns-in-Set : goal.returns-in-Set
returns-in-Set c =
    let old : c.args.old < 2 ^ 64 = omega arith in
    let value : c.args.value < 2 ^ 64 = omega arith in
    rw c.in-Set.is (sym (mod-eq_of_lt (or_lt 64 _ _ old value)))
