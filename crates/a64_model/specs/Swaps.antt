-- What an atomic access leaves in memory.
-- Source: Arm ARM (DDI 0487), C6.2: LDADD, LDCLR, LDEOR, LDSET, SWP, CAS.
use Rattle.std.specs.Prelude.{ℕ, ◌+◌, ◌==◌, Bool, true, bit_and, bit_or, bit_xor}
use Rattle.a64_model.specs.declared.access.SwapOp.{SwapOp}
use Rattle.a64_model.specs.declared.access.SwapOp.TheVariants.{Add, Clear, Xor, Set, Swap, CompareSwap}

-- the number whose low bytes are written, where they are written. So a sum is taken modulo 2 ^ (8 * len)
abbrev pub outcome : SwapOp → ℕ → ℕ → ℕ
outcome Add old value = old + value
outcome Clear old value = bit_xor old (bit_and old value)
outcome Xor old value = bit_xor old value
outcome Set old value = bit_or old value
outcome Swap old value = value
outcome CompareSwap old value = value

-- whether the access writes: a compare-and-swap does where the old value is the expected one
abbrev pub has_outcome : SwapOp → ℕ → ℕ → Bool
has_outcome Add old expected = true
has_outcome Clear old expected = true
has_outcome Xor old expected = true
has_outcome Set old expected = true
has_outcome Swap old expected = true
has_outcome CompareSwap old expected = old == expected
