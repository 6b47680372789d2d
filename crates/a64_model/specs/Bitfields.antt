-- Bitfields that are moved: SBFM, BFM, UBFM (DDI 0487, C6.2). Where immr is at most imms, the field is the bits imms down
-- to immr, and goes to bit 0 upwards; else it is the bits imms down to 0, and goes to bit (width - immr) upwards.
use Rattle.std.specs.Prelude.{ℕ, ◌+◌, ◌-◌, ◌*◌, ◌/◌, ◌%◌, ◌^◌, nat_le, bit_and, bit_or, if◌then◌else◌}
use Rattle.a64_model.specs.Operands.{width_bits}
use Rattle.a64_model.specs.Arithmetic.{low, complement}
use Rattle.a64_model.specs.Shifts.{sign_extended}
use Rattle.a64_model.specs.declared.operands.Width.{Width}
use Rattle.a64_model.specs.declared.operands.BitfieldOp.{BitfieldOp}
use Rattle.a64_model.specs.declared.operands.BitfieldOp.TheVariants as bitfield

-- the number of bits of the field
abbrev pub field_length : ℕ → ℕ → ℕ
field_length immr imms = if nat_le immr imms then imms + 1 - immr else imms + 1

-- its lowest bit where it is taken
abbrev pub field_from : ℕ → ℕ → ℕ
field_from immr imms = if nat_le immr imms then immr else 0

-- its lowest bit where it is put, in a number of so many bits
abbrev pub field_to : ℕ → ℕ → ℕ → ℕ
field_to bits immr imms = if nat_le immr imms then 0 else bits - immr

-- the field
abbrev pub field_of : ℕ → ℕ → ℕ → ℕ
field_of n immr imms = n / 2 ^ field_from immr imms % 2 ^ field_length immr imms

-- UBFM: the field at its place, among zeros
abbrev pub unsigned_field : Width → ℕ → ℕ → ℕ → ℕ
unsigned_field w n immr imms = field_of n immr imms * 2 ^ field_to (width_bits w) immr imms

-- SBFM: the field at its place, zeros below, and copies of its highest bit above
abbrev pub signed_field : Width → ℕ → ℕ → ℕ → ℕ
signed_field w n immr imms =
    low w (sign_extended (field_length immr imms) (field_of n immr imms) * 2 ^ field_to (width_bits w) immr imms)

-- ones where the field is put
abbrev pub field_mask : Width → ℕ → ℕ → ℕ
field_mask w immr imms = (2 ^ field_length immr imms - 1) * 2 ^ field_to (width_bits w) immr imms

-- BFM: the field at its place, among the bits of d
abbrev pub kept_field : Width → ℕ → ℕ → ℕ → ℕ → ℕ
kept_field w d n immr imms = bit_or (bit_and d (complement w (field_mask w immr imms))) (unsigned_field w n immr imms)

-- the field of n moved, into d
abbrev pub moved_field : Width → BitfieldOp → ℕ → ℕ → ℕ → ℕ → ℕ
moved_field w bitfield.Signed d n immr imms = signed_field w n immr imms
moved_field w bitfield.Kept d n immr imms = kept_field w d n immr imms
moved_field w bitfield.Unsigned d n immr imms = unsigned_field w n immr imms
