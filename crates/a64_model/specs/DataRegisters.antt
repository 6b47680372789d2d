-- Data Processing -- Register (DDI 0487, C4.1): the fields of each row, or none where its condition fails.
use Rattle.std.specs.Prelude.{ℕ, Bool, ◌&&◌, ◌==◌, nat_lt, nat_le, Option, Some, None, if◌then◌else◌}
use Rattle.std.proofs.Math.Bool.{not}
use Rattle.a64_model.specs.Bits.{bit, bits}
use Rattle.a64_model.specs.Operands.{reg, width, width_bits, add_op, logical_op, shift, extend, condition}
use Rattle.a64_model.specs.declared.instr.Instr.{Instr}
use Rattle.a64_model.specs.declared.instr.Instr.TheVariants as instr
use Rattle.a64_model.specs.declared.instr.TheConstants.{WORD_ALIGNED}
use Rattle.a64_model.specs.declared.operands.AddOp.{AddOp}
use Rattle.a64_model.specs.declared.operands.Comparand.{Comparand}
use Rattle.a64_model.specs.declared.operands.Comparand.TheVariants as comparand
use Rattle.a64_model.specs.declared.operands.SelectOp.{SelectOp}
use Rattle.a64_model.specs.declared.operands.SelectOp.TheVariants as select
use Rattle.a64_model.specs.declared.operands.OneSourceOp.{OneSourceOp}
use Rattle.a64_model.specs.declared.operands.TwoSourceOp.{TwoSourceOp}

-- Logical (shifted register): opc 30 to 29, shift 23 to 22, 21 inverts; imm6 15 to 10 has to be below the width
abbrev pub logical_shifted : ℕ → Option Instr
logical_shifted word =
    if nat_lt (bits word 15 10) (width_bits (width word))
    then Some (instr.LogicalShifted (record {
      aligned = WORD_ALIGNED;
      width = width word;
      op = logical_op (bits word 30 29);
      invert = bit word 21;
      shift = shift (bits word 23 22);
      amount = bits word 15 10;
      rm = reg word 16;
      rn = reg word 5;
      rd = reg word 0;
    }))
    else None

-- Add/subtract (shifted register): 30 subtracts, 29 sets the flags; shift 23 to 22 is not 3, a rotation, and
-- imm6 15 to 10 is below the width
abbrev pub add_shifted : ℕ → Option Instr
add_shifted word =
    if not (bits word 23 22 == 3) && nat_lt (bits word 15 10) (width_bits (width word))
    then Some (instr.AddShifted (record {
      aligned = WORD_ALIGNED;
      width = width word;
      op = add_op word;
      set_flags = bit word 29;
      shift = shift (bits word 23 22);
      amount = bits word 15 10;
      rm = reg word 16;
      rn = reg word 5;
      rd = reg word 0;
    }))
    else None

-- Add/subtract (extended register): 30 subtracts, 29 sets the flags, option 15 to 13; imm3 12 to 10 is at most 4
abbrev pub add_extended : ℕ → Option Instr
add_extended word =
    if nat_le (bits word 12 10) 4
    then Some (instr.AddExtended (record {
      aligned = WORD_ALIGNED;
      width = width word;
      op = add_op word;
      set_flags = bit word 29;
      extend = extend (bits word 15 13);
      amount = bits word 12 10;
      rm = reg word 16;
      rn = reg word 5;
      rd = reg word 0;
    }))
    else None

-- Add/subtract (with carry): 30 subtracts, 29 sets the flags
abbrev pub add_carry : ℕ → Option Instr
add_carry word =
    Some (instr.AddCarry (record {
      aligned = WORD_ALIGNED;
      width = width word;
      op = add_op word;
      set_flags = bit word 29;
      rm = reg word 16;
      rn = reg word 5;
      rd = reg word 0;
    }))

-- a comparison under a condition with either operand: 30 is CCMP, cond 15 to 12, nzcv 3 to 0
abbrev pub conditional_compare : Comparand → ℕ → Option Instr
conditional_compare operand word =
    Some (instr.ConditionalCompare (record {
      aligned = WORD_ALIGNED;
      width = width word;
      op = add_op word;
      comparand = operand;
      condition = condition (bits word 15 12);
      nzcv = bits word 3 0;
      rn = reg word 5;
    }))

-- Conditional compare (register): CCMN, CCMP
abbrev pub conditional_compare_register : ℕ → Option Instr
conditional_compare_register word = conditional_compare (comparand.Register (reg word 16)) word

-- Conditional compare (immediate): CCMN, CCMP. imm5 20 to 16
abbrev pub conditional_compare_immediate : ℕ → Option Instr
conditional_compare_immediate word = conditional_compare (comparand.Immediate (bits word 20 16)) word

-- 30 and 10: CSEL, CSINC, CSINV, CSNEG
abbrev pub select_op : Bool → Bool → SelectOp
select_op invert increment =
    if invert
    then (if increment then select.Negate else select.Invert)
    else (if increment then select.Increment else select.Plain)

-- Conditional select: cond 15 to 12
abbrev pub conditional_select : ℕ → Option Instr
conditional_select word =
    Some (instr.ConditionalSelect (record {
      aligned = WORD_ALIGNED;
      width = width word;
      op = select_op (bit word 30) (bit word 10);
      condition = condition (bits word 15 12);
      rm = reg word 16;
      rn = reg word 5;
      rd = reg word 0;
    }))

-- Data-processing (1 source): RBIT, REV16, REV32, CLZ, CLS
abbrev pub one_source : OneSourceOp → ℕ → Option Instr
one_source op word =
    Some (instr.OneSource (record {
      aligned = WORD_ALIGNED;
      width = width word;
      op = op;
      rn = reg word 5;
      rd = reg word 0;
    }))

-- Data-processing (1 source): REV of 64 bits
abbrev pub reverse_bytes : ℕ → Option Instr
reverse_bytes word = Some (instr.ReverseBytes (record { aligned = WORD_ALIGNED; rn = reg word 5; rd = reg word 0 }))

-- Data-processing (2 source): UDIV, SDIV, LSLV, LSRV, ASRV, RORV
abbrev pub two_source : TwoSourceOp → ℕ → Option Instr
two_source op word =
    Some (instr.TwoSource (record {
      aligned = WORD_ALIGNED;
      width = width word;
      op = op;
      rm = reg word 16;
      rn = reg word 5;
      rd = reg word 0;
    }))

-- Data-processing (3 source): MADD, MSUB
abbrev pub multiply_add : AddOp → ℕ → Option Instr
multiply_add op word =
    Some (instr.MultiplyAdd (record {
      aligned = WORD_ALIGNED;
      width = width word;
      op = op;
      rm = reg word 16;
      ra = reg word 10;
      rn = reg word 5;
      rd = reg word 0;
    }))

-- Data-processing (3 source): SMADDL, SMSUBL, UMADDL, UMSUBL
abbrev pub multiply_long : Bool → AddOp → ℕ → Option Instr
multiply_long signed op word =
    Some (instr.MultiplyLong (record {
      aligned = WORD_ALIGNED;
      signed = signed;
      op = op;
      rm = reg word 16;
      ra = reg word 10;
      rn = reg word 5;
      rd = reg word 0;
    }))

-- Data-processing (3 source): SMULH, UMULH
abbrev pub multiply_high : Bool → ℕ → Option Instr
multiply_high signed word =
    Some (instr.MultiplyHigh (record {
      aligned = WORD_ALIGNED;
      signed = signed;
      rm = reg word 16;
      rn = reg word 5;
      rd = reg word 0;
    }))
