-- The immediates of logical operations, and which of them are patterns: DecodeBitMasks of the Arm manual (DDI 0487,
-- shared pseudocode).
use Rattle.std.specs.Prelude.{ℕ, ◌+◌, ◌-◌, ◌*◌, ◌/◌, ◌%◌, ◌^◌, Bool, true, ◌&&◌, ◌==◌, nat_le}
use Rattle.std.proofs.Math.Bool.{not}
use Rattle.std.specs.Int.{leading_zeros, w32}
use Rattle.a64_model.specs.declared.operands.Width.{Width}
use Rattle.a64_model.specs.declared.operands.Width.TheVariants.{W, X}

-- HighestSetBit: the place of the highest bit that is set, and 0 where none is (the manual has -1 there, which is
-- refused as 0 is)
abbrev pub highest_set_bit : ℕ → ℕ
highest_set_bit n = 31 - leading_zeros w32 n

-- len: the binary logarithm of the element's size, from N and then the complement of imms
abbrev pub element_log : ℕ → ℕ → ℕ
element_log n imms = highest_set_bit (n * 64 + (63 - imms))

-- esize: the number of bits of the element
abbrev pub element_size : ℕ → ℕ → ℕ
element_size n imms = 2 ^ element_log n imms

-- only 64-bit operations have N
abbrev pub may_have : Width → ℕ → Bool
may_have W n = n == 0
may_have X n = true

-- the element has at least two bits, and not all of them are ones
abbrev pub is_pattern : Width → ℕ → ℕ → Bool
is_pattern w n imms =
    let levels = element_size n imms - 1 in
    may_have w n && nat_le 1 (element_log n imms) && not (imms % element_size n imms == levels)

-- ROR of an element of `size` bits
abbrev pub rotated : ℕ → ℕ → ℕ → ℕ
rotated size n by = (n * 2 ^ size + n) / 2 ^ by % 2 ^ size

-- Replicate of an element of `size` bits over 64 bits
abbrev pub replicated : ℕ → ℕ → ℕ
replicated size n = n * ((2 ^ 64 - 1) / (2 ^ size - 1))

-- wmask: S + 1 ones, rotated right by R, and replicated; S and R are what imms and immr have in an element
abbrev pub pattern : ℕ → ℕ → ℕ → ℕ
pattern size immr imms = replicated size (rotated size (2 ^ (imms % size + 1) - 1) (immr % size))

-- the immediate of 64 bits
abbrev pub decode_bit_masks : ℕ → ℕ → ℕ → ℕ
decode_bit_masks n immr imms = pattern (element_size n imms) immr imms
