-- Shifts, rotations and extensions: LSL, LSR, ASR, ROR, SignExtend, ShiftReg and ExtendReg of the Arm manual (DDI 0487,
-- shared pseudocode).
use Rattle.std.specs.Prelude.{ℕ, ◌+◌, ◌-◌, ◌*◌, ◌/◌, ◌%◌, ◌^◌, nat_lt, if◌then◌else◌}
use Rattle.a64_model.specs.Arithmetic.{modulus, low, is_negative}
use Rattle.a64_model.specs.declared.operands.Width.{Width}
use Rattle.a64_model.specs.declared.operands.Width.TheVariants.{W, X}
use Rattle.a64_model.specs.declared.operands.ShiftKind.{ShiftKind}
use Rattle.a64_model.specs.declared.operands.ShiftKind.TheVariants as shift
use Rattle.a64_model.specs.declared.operands.Extend.{Extend}
use Rattle.a64_model.specs.declared.operands.Extend.TheVariants as extends

-- SignExtend of the low `bits` bits to 64 bits
abbrev pub sign_extended : ℕ → ℕ → ℕ
sign_extended bits n = if nat_lt (n % 2 ^ bits) (2 ^ bits / 2) then n % 2 ^ bits else n % 2 ^ bits + (2 ^ 64 - 2 ^ bits)

-- ones above the width, as many as it has bits
abbrev pub ones_above : Width → ℕ
ones_above W = 2 ^ 64 - 2 ^ 32
ones_above X = 2 ^ 128 - 2 ^ 64

-- SignExtend of a number of the width to twice as many bits
abbrev pub widened : Width → ℕ → ℕ
widened w n = if is_negative w n then n + ones_above w else n

-- LSL: zeros come in from below
abbrev pub shift_left : Width → ℕ → ℕ → ℕ
shift_left w n by = low w (n * 2 ^ by)

-- LSR: zeros come in from above
abbrev pub shift_right : ℕ → ℕ → ℕ
shift_right n by = n / 2 ^ by

-- ASR: copies of the highest bit come in from above
abbrev pub shift_right_signed : Width → ℕ → ℕ → ℕ
shift_right_signed w n by = low w (widened w n / 2 ^ by)

-- `high` followed by `n`, moved right: the low bits of `high` come in from above. ROR has one number as both, EXTR two
abbrev pub extracted : Width → ℕ → ℕ → ℕ → ℕ
extracted w high n by = low w ((high * modulus w + n) / 2 ^ by)

-- ROR
abbrev pub rotate_right : Width → ℕ → ℕ → ℕ
rotate_right w n by = extracted w n n by

-- ShiftReg, of what the register reads
abbrev pub shift_reg : Width → ShiftKind → ℕ → ℕ → ℕ
shift_reg w shift.Left n by = shift_left w n by
shift_reg w shift.LogicalRight n by = shift_right n by
shift_reg w shift.ArithmeticRight n by = shift_right_signed w n by
shift_reg w shift.RotateRight n by = rotate_right w n by

-- Extend, of what the register reads, to 64 bits
abbrev pub extended : Extend → ℕ → ℕ
extended extends.UnsignedByte n = n % 2 ^ 8
extended extends.UnsignedHalf n = n % 2 ^ 16
extended extends.UnsignedWord n = n % 2 ^ 32
extended extends.UnsignedDouble n = n
extended extends.SignedByte n = sign_extended 8 n
extended extends.SignedHalf n = sign_extended 16 n
extended extends.SignedWord n = sign_extended 32 n
extended extends.SignedDouble n = n

-- ExtendReg, of what the register reads: extended, then moved left
abbrev pub extend_reg : Width → Extend → ℕ → ℕ → ℕ
extend_reg w kind n by = low w (extended kind n * 2 ^ by)
