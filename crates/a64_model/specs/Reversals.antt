-- Reversals and counts (DDI 0487, C6.2: RBIT, REV16, REV32, REV, CLZ, CLS).
use Rattle.std.specs.Prelude.{ℕ, ◌+◌, ◌-◌, ◌*◌, ◌/◌, ◌%◌, ◌^◌, [], ◌∷◌, if◌then◌else◌}
use Rattle.std.specs.Int.{w32, w64, byte_at, from_le_bytes, swap_bytes, reverse_bits, leading_zeros}
use Rattle.std.specs.Int as int
use Rattle.a64_model.specs.Arithmetic.{is_negative, complement}
use Rattle.a64_model.specs.declared.operands.Width.{Width}
use Rattle.a64_model.specs.declared.operands.Width.TheVariants.{W, X}
use Rattle.a64_model.specs.declared.operands.OneSourceOp.{OneSourceOp}
use Rattle.a64_model.specs.declared.operands.OneSourceOp.TheVariants.{ReverseBits, ReverseBytesOfHalves, ReverseBytesOfWords, CountLeadingZeros, CountLeadingSigns}

-- the width as std's integers have it
abbrev pub int_width : Width → int.Width
int_width W = w32
int_width X = w64

-- REV16: the two bytes of each half word change places
abbrev pub reverse_halves : Width → ℕ → ℕ
reverse_halves W n = from_le_bytes w32 (byte_at 1 n ∷ byte_at 0 n ∷ byte_at 3 n ∷ byte_at 2 n ∷ [])
reverse_halves X n =
    from_le_bytes w64 (byte_at 1 n ∷ byte_at 0 n ∷ byte_at 3 n ∷ byte_at 2 n ∷ byte_at 5 n ∷ byte_at 4 n ∷ byte_at 7 n ∷ byte_at 6 n ∷ [])

-- REV32, and REV of 32 bits: the bytes of each word stand in the other order
abbrev pub reverse_words : Width → ℕ → ℕ
reverse_words W n = swap_bytes w32 n
reverse_words X n = swap_bytes w32 (n / 2 ^ 32) * 2 ^ 32 + swap_bytes w32 (n % 2 ^ 32)

-- CountLeadingSignBits: how many bits below the highest one equal it, from above
abbrev pub leading_signs : Width → ℕ → ℕ
leading_signs w n = leading_zeros (int_width w) (if is_negative w n then complement w n else n) - 1

abbrev pub reversed : Width → OneSourceOp → ℕ → ℕ
reversed w ReverseBits n = reverse_bits (int_width w) n
reversed w ReverseBytesOfHalves n = reverse_halves w n
reversed w ReverseBytesOfWords n = reverse_words w n
reversed w CountLeadingZeros n = leading_zeros (int_width w) n
reversed w CountLeadingSigns n = leading_signs w n
