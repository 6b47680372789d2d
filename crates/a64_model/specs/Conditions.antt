-- ConditionHolds of the Arm manual (DDI 0487, C1.2.4 and shared pseudocode).
use Rattle.std.specs.Prelude.{ℕ, Bool, true, false, ◌&&◌}
use Rattle.std.proofs.Math.Bool.{not}
use Rattle.a64_model.specs.Bits.{bit}
use Rattle.a64_model.specs.declared.operands.Condition.{Condition}
use Rattle.a64_model.specs.declared.operands.Condition.TheVariants as condition

-- the flags N, Z, C and V of a number of four bits
abbrev pub flag_n : ℕ → Bool
flag_n nzcv = bit nzcv 3

abbrev pub flag_z : ℕ → Bool
flag_z nzcv = bit nzcv 2

abbrev pub flag_c : ℕ → Bool
flag_c nzcv = bit nzcv 1

abbrev pub flag_v : ℕ → Bool
flag_v nzcv = bit nzcv 0

-- two tests come out alike
abbrev pub is_alike : Bool → Bool → Bool
is_alike true b = b
is_alike false b = not b

abbrev pub condition_holds : Condition → ℕ → Bool
condition_holds condition.Equal nzcv = flag_z nzcv
condition_holds condition.NotEqual nzcv = not (flag_z nzcv)
condition_holds condition.CarrySet nzcv = flag_c nzcv
condition_holds condition.CarryClear nzcv = not (flag_c nzcv)
condition_holds condition.Minus nzcv = flag_n nzcv
condition_holds condition.Plus nzcv = not (flag_n nzcv)
condition_holds condition.OverflowSet nzcv = flag_v nzcv
condition_holds condition.OverflowClear nzcv = not (flag_v nzcv)
condition_holds condition.Higher nzcv = flag_c nzcv && not (flag_z nzcv)
condition_holds condition.LowerOrSame nzcv = not (flag_c nzcv && not (flag_z nzcv))
condition_holds condition.GreaterOrEqual nzcv = is_alike (flag_n nzcv) (flag_v nzcv)
condition_holds condition.Less nzcv = not (is_alike (flag_n nzcv) (flag_v nzcv))
condition_holds condition.Greater nzcv = not (flag_z nzcv) && is_alike (flag_n nzcv) (flag_v nzcv)
condition_holds condition.LessOrEqual nzcv = not (not (flag_z nzcv) && is_alike (flag_n nzcv) (flag_v nzcv))
condition_holds condition.Always nzcv = true
condition_holds condition.AlwaysToo nzcv = true
