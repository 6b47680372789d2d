-- Data Processing -- Immediate (DDI 0487, C4.1): the fields of each row, or none where its condition fails.
use Rattle.std.specs.Prelude.{ℕ, ◌+◌, ◌*◌, Bool, ◌&&◌, ◌==◌, nat_lt, Option, Some, None, if◌then◌else◌}
use Rattle.std.specs.Option.{option_map}
use Rattle.a64_model.specs.Bits.{bit, bits}
use Rattle.a64_model.specs.Operands.{reg, width, width_bits, add_op, logical_op}
use Rattle.a64_model.specs.BitMasks.{is_pattern}
use Rattle.a64_model.specs.declared.instr.Instr.{Instr}
use Rattle.a64_model.specs.declared.instr.Instr.TheVariants as instr
use Rattle.a64_model.specs.declared.instr.TheConstants.{WORD_ALIGNED}
use Rattle.a64_model.specs.declared.operands.MoveWideOp.{MoveWideOp}
use Rattle.a64_model.specs.declared.operands.MoveWideOp.TheVariants as moves
use Rattle.a64_model.specs.declared.operands.BitfieldOp.{BitfieldOp}
use Rattle.a64_model.specs.declared.operands.BitfieldOp.TheVariants as bitfields

-- PC-rel. addressing: ADR, ADRP. imm is bits 23 to 5 and then 30 to 29
abbrev pub pc_relative : Bool → ℕ → Option Instr
pc_relative page word =
    Some (instr.PcRelative (record {
      imm21 = bits word 23 5 * 4 + bits word 30 29;
      page = page;
      rd = reg word 0;
    }))

-- Add/subtract (immediate): 30 subtracts, 29 sets the flags, 22 shifts by 12, imm12 is bits 21 to 10
abbrev pub add_immediate : ℕ → Option Instr
add_immediate word =
    Some (instr.AddImmediate (record {
      aligned = WORD_ALIGNED;
      width = width word;
      op = add_op word;
      set_flags = bit word 29;
      shifted = bit word 22;
      imm12 = bits word 21 10;
      rn = reg word 5;
      rd = reg word 0;
    }))

-- Logical (immediate): opc 30 to 29, N 22, immr 21 to 16, imms 15 to 10, which have to be those of a pattern
abbrev pub logical_immediate : ℕ → Option Instr
logical_immediate word =
    let n = bits word 22 22 in
    let imms = bits word 15 10 in
    if is_pattern (width word) n imms
    then Some (instr.LogicalImmediate (record {
      aligned = WORD_ALIGNED;
      width = width word;
      op = logical_op (bits word 30 29);
      n = n;
      immr = bits word 21 16;
      imms = imms;
      rn = reg word 5;
      rd = reg word 0;
    }))
    else None

-- opc of the wide moves: 1 has no row
abbrev pub move_wide_op : ℕ → Option MoveWideOp
move_wide_op opc =
    if opc == 0 then Some moves.Not else (
    if opc == 2 then Some moves.Zero else (
    if opc == 3 then Some moves.Keep else None))

-- Move wide (immediate): opc 30 to 29, hw 22 to 21, which has to be below 2 in 32 bits, imm16 20 to 5
abbrev pub move_wide : ℕ → Option Instr
move_wide word =
    let hw = bits word 22 21 in
    if nat_lt (hw * 16) (width_bits (width word))
    then option_map (λ op. instr.MoveWide (record {
      aligned = WORD_ALIGNED;
      width = width word;
      op = op;
      imm16 = bits word 20 5;
      hw = hw;
      rd = reg word 0;
    })) (move_wide_op (bits word 30 29))
    else None

-- opc of the bitfield moves: 3 has no row
abbrev pub bitfield_op : ℕ → Option BitfieldOp
bitfield_op opc =
    if opc == 0 then Some bitfields.Signed else (
    if opc == 1 then Some bitfields.Kept else (
    if opc == 2 then Some bitfields.Unsigned else None))

-- Bitfield: opc 30 to 29; N 22 has to be sf, and immr 21 to 16 and imms 15 to 10 below the width
abbrev pub bitfield : ℕ → Option Instr
bitfield word =
    let count = width_bits (width word) in
    let immr = bits word 21 16 in
    let imms = bits word 15 10 in
    if (bits word 22 22 == bits word 31 31) && nat_lt immr count && nat_lt imms count
    then option_map (λ op. instr.Bitfield (record {
      aligned = WORD_ALIGNED;
      width = width word;
      op = op;
      immr = immr;
      imms = imms;
      rn = reg word 5;
      rd = reg word 0;
    })) (bitfield_op (bits word 30 29))
    else None

-- Extract: N 22 has to be sf, and imms 15 to 10 below the width
abbrev pub extract : ℕ → Option Instr
extract word =
    let imms = bits word 15 10 in
    if (bits word 22 22 == bits word 31 31) && nat_lt imms (width_bits (width word))
    then Some (instr.Extract (record {
      aligned = WORD_ALIGNED;
      width = width word;
      imms = imms;
      rm = reg word 16;
      rn = reg word 5;
      rd = reg word 0;
    }))
    else None
