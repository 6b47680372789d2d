-- What Data Processing -- Register does to the registers (DDI 0487, C6.2).
use Rattle.std.specs.Prelude.{ℕ, ◌+◌, ◌%◌, if◌then◌else◌}
use Rattle.std.specs.Int.{swap_bytes, w64, from_bool}
use Rattle.a64_model.specs.Operands.{width_bits}
use Rattle.a64_model.specs.Registers.{x_zr, with_x_zr, with_flags, advanced}
use Rattle.a64_model.specs.Arithmetic.{low, complement, add_with_carry, add_with_carry_flags, addend, carry_in, logical, sets_flags, logical_flags}
use Rattle.a64_model.specs.Shifts.{shift_reg, shift_left, shift_right, shift_right_signed, rotate_right, extend_reg}
use Rattle.a64_model.specs.Conditions.{flag_c, condition_holds}
use Rattle.a64_model.specs.Products.{multiplied, low_half, high_product, unsigned_quotient, signed_quotient}
use Rattle.a64_model.specs.Reversals.{reversed}
use Rattle.a64_model.specs.ExecImmediates.{with_added}
use Rattle.a64_model.specs.declared.regs.Regs.{Regs}
use Rattle.a64_model.specs.declared.operands.Reg.{Reg}
use Rattle.a64_model.specs.declared.operands.Width.{Width}
use Rattle.a64_model.specs.declared.operands.Width.TheVariants.{X}
use Rattle.a64_model.specs.declared.operands.Comparand.{Comparand}
use Rattle.a64_model.specs.declared.operands.Comparand.TheVariants as comparand
use Rattle.a64_model.specs.declared.operands.SelectOp.{SelectOp}
use Rattle.a64_model.specs.declared.operands.SelectOp.TheVariants as select
use Rattle.a64_model.specs.declared.operands.TwoSourceOp.{TwoSourceOp}
use Rattle.a64_model.specs.declared.operands.TwoSourceOp.TheVariants as two
use Rattle.a64_model.specs.declared.instr.LogicalShifted.{LogicalShifted}
use Rattle.a64_model.specs.declared.instr.AddShifted.{AddShifted}
use Rattle.a64_model.specs.declared.instr.AddExtended.{AddExtended}
use Rattle.a64_model.specs.declared.instr.AddCarry.{AddCarry}
use Rattle.a64_model.specs.declared.instr.ConditionalCompare.{ConditionalCompare}
use Rattle.a64_model.specs.declared.instr.ConditionalSelect.{ConditionalSelect}
use Rattle.a64_model.specs.declared.instr.OneSource.{OneSource}
use Rattle.a64_model.specs.declared.instr.ReverseBytes.{ReverseBytes}
use Rattle.a64_model.specs.declared.instr.TwoSource.{TwoSource}
use Rattle.a64_model.specs.declared.instr.MultiplyAdd.{MultiplyAdd}
use Rattle.a64_model.specs.declared.instr.MultiplyLong.{MultiplyLong}
use Rattle.a64_model.specs.declared.instr.MultiplyHigh.{MultiplyHigh}

-- a register's low bits, as many as the width has; 31 is the zero register
abbrev pub operand : Regs → Width → Reg → ℕ
operand regs w r = low w (x_zr regs r)

-- ---- additions and logical operations

-- AND, BIC, ORR, ORN, EOR, EON, ANDS, BICS (shifted register)
abbrev pub logical_shifted : Regs → LogicalShifted → Regs
logical_shifted regs i =
    let shifted = shift_reg i.width i.shift (operand regs i.width i.rm) i.amount in
    let result = logical i.op (operand regs i.width i.rn) (if i.invert then complement i.width shifted else shifted) in
    let written = with_x_zr regs i.rd result in
    advanced (if sets_flags i.op then with_flags written (logical_flags i.width result) else written)

-- ADD, ADDS, SUB, SUBS (shifted register): 31 is the zero register
abbrev pub add_shifted : Regs → AddShifted → Regs
add_shifted regs i =
    let a = operand regs i.width i.rn in
    let b = addend i.width i.op (shift_reg i.width i.shift (operand regs i.width i.rm) i.amount) in
    let written = with_x_zr regs i.rd (add_with_carry i.width a b (carry_in i.op)) in
    advanced (if i.set_flags then with_flags written (add_with_carry_flags i.width a b (carry_in i.op)) else written)

-- ADD, ADDS, SUB, SUBS (extended register): 31 as Rn is the stack pointer, and as Rd too where no flags are set
abbrev pub add_extended : Regs → AddExtended → Regs
add_extended regs i =
    advanced (with_added regs i.width i.op i.set_flags i.rd i.rn (extend_reg i.width i.extend (x_zr regs i.rm) i.amount))

-- the C flag as a carry in
abbrev pub carry_flag : Regs → ℕ
carry_flag regs = from_bool (flag_c regs.nzcv)

-- ADC, ADCS, SBC, SBCS
abbrev pub add_carry : Regs → AddCarry → Regs
add_carry regs i =
    let a = operand regs i.width i.rn in
    let b = addend i.width i.op (operand regs i.width i.rm) in
    let written = with_x_zr regs i.rd (add_with_carry i.width a b (carry_flag regs)) in
    advanced (if i.set_flags then with_flags written (add_with_carry_flags i.width a b (carry_flag regs)) else written)

-- ---- conditions

abbrev pub compared_with : Regs → Width → Comparand → ℕ
compared_with regs w (comparand.Register r) = operand regs w r
compared_with regs w (comparand.Immediate n) = n

-- CCMN, CCMP: the flags of the comparison where the condition holds, and else those of the instruction
abbrev pub conditional_compare : Regs → ConditionalCompare → Regs
conditional_compare regs i =
    let b = addend i.width i.op (compared_with regs i.width i.comparand) in
    advanced (with_flags regs (
    if condition_holds i.condition regs.nzcv then add_with_carry_flags i.width (operand regs i.width i.rn) b (carry_in i.op) else i.nzcv
    ))

-- what is selected where the condition fails: Rm, Rm plus 1, NOT of Rm, or the negative of Rm
abbrev pub selected : Width → SelectOp → ℕ → ℕ
selected w select.Plain n = n
selected w select.Increment n = low w (n + 1)
selected w select.Invert n = complement w n
selected w select.Negate n = low w (complement w n + 1)

-- CSEL, CSINC, CSINV, CSNEG
abbrev pub conditional_select : Regs → ConditionalSelect → Regs
conditional_select regs i =
    advanced (with_x_zr regs i.rd (
    if condition_holds i.condition regs.nzcv then operand regs i.width i.rn else selected i.width i.op (operand regs i.width i.rm)
    ))

-- ---- one source, two sources, three sources

-- RBIT, REV16, REV32 (REV of 32 bits), CLZ, CLS
abbrev pub one_source : Regs → OneSource → Regs
one_source regs i = advanced (with_x_zr regs i.rd (reversed i.width i.op (operand regs i.width i.rn)))

-- REV of 64 bits
abbrev pub reverse_bytes : Regs → ReverseBytes → Regs
reverse_bytes regs i = advanced (with_x_zr regs i.rd (swap_bytes w64 (x_zr regs i.rn)))

-- UDIV, SDIV, and LSLV, LSRV, ASRV, RORV by a count modulo the number of bits
abbrev pub two_source_result : Width → TwoSourceOp → ℕ → ℕ → ℕ
two_source_result w two.UnsignedDivide a b = unsigned_quotient a b
two_source_result w two.SignedDivide a b = signed_quotient w a b
two_source_result w two.ShiftLeft a b = shift_left w a (b % width_bits w)
two_source_result w two.ShiftRight a b = shift_right a (b % width_bits w)
two_source_result w two.ShiftRightSigned a b = shift_right_signed w a (b % width_bits w)
two_source_result w two.RotateRight a b = rotate_right w a (b % width_bits w)

abbrev pub two_source : Regs → TwoSource → Regs
two_source regs i =
    advanced (with_x_zr regs i.rd (two_source_result i.width i.op (operand regs i.width i.rn) (operand regs i.width i.rm)))

-- MADD, MSUB
abbrev pub multiply_add : Regs → MultiplyAdd → Regs
multiply_add regs i =
    advanced (with_x_zr regs i.rd (multiplied i.width i.op (operand regs i.width i.ra) (operand regs i.width i.rn) (operand regs i.width i.rm)))

-- SMADDL, SMSUBL, UMADDL, UMSUBL
abbrev pub multiply_long : Regs → MultiplyLong → Regs
multiply_long regs i =
    advanced (with_x_zr regs i.rd (
    multiplied X i.op (x_zr regs i.ra) (low_half i.signed (x_zr regs i.rn)) (low_half i.signed (x_zr regs i.rm))
    ))

-- SMULH, UMULH
abbrev pub multiply_high : Regs → MultiplyHigh → Regs
multiply_high regs i = advanced (with_x_zr regs i.rd (high_product i.signed (x_zr regs i.rn) (x_zr regs i.rm)))
