-- What Data Processing -- Immediate does to the registers (DDI 0487, C6.2).
use Rattle.std.specs.Prelude.{ℕ, ◌+◌, ◌-◌, ◌*◌, ◌%◌, ◌^◌, Bool, true, false, bit_and, bit_or, if◌then◌else◌}
use Rattle.a64_model.specs.Registers.{x_zr, x_sp, with_x_zr, with_x_sp, with_flags, advanced}
use Rattle.a64_model.specs.Arithmetic.{low, complement, add_with_carry, add_with_carry_flags, addend, carry_in, logical, sets_flags, logical_flags}
use Rattle.a64_model.specs.Shifts.{sign_extended, extracted}
use Rattle.a64_model.specs.BitMasks.{decode_bit_masks}
use Rattle.a64_model.specs.Bitfields.{moved_field}
use Rattle.a64_model.specs.declared.regs.Regs.{Regs}
use Rattle.a64_model.specs.declared.operands.Reg.{Reg}
use Rattle.a64_model.specs.declared.operands.Width.{Width}
use Rattle.a64_model.specs.declared.operands.AddOp.{AddOp}
use Rattle.a64_model.specs.declared.operands.MoveWideOp.{MoveWideOp}
use Rattle.a64_model.specs.declared.operands.MoveWideOp.TheVariants as moves
use Rattle.a64_model.specs.declared.instr.PcRelative.{PcRelative}
use Rattle.a64_model.specs.declared.instr.AddImmediate.{AddImmediate}
use Rattle.a64_model.specs.declared.instr.LogicalImmediate.{LogicalImmediate}
use Rattle.a64_model.specs.declared.instr.MoveWide.{MoveWide}
use Rattle.a64_model.specs.declared.instr.Bitfield.{Bitfield}
use Rattle.a64_model.specs.declared.instr.Extract.{Extract}

-- ADR adds the immediate to pc. ADRP adds it times 4096 to pc with its low 12 bits clear
abbrev pub relative_address : ℕ → Bool → ℕ → ℕ
relative_address pc true imm21 = (pc - pc % 2 ^ 12 + sign_extended 33 (imm21 * 2 ^ 12)) % 2 ^ 64
relative_address pc false imm21 = (pc + sign_extended 21 imm21) % 2 ^ 64

-- ADR, ADRP
abbrev pub pc_relative : Regs → PcRelative → Regs
pc_relative regs i = advanced (with_x_zr regs i.rd (relative_address regs.pc i.page i.imm21))

-- the sum in a register. Where the flags are set 31 is the zero register, and else the stack pointer
abbrev pub with_sum : Regs → Width → Bool → Reg → ℕ → ℕ → ℕ → Regs
with_sum regs w true rd a b carry = with_flags (with_x_zr regs rd (add_with_carry w a b carry)) (add_with_carry_flags w a b carry)
with_sum regs w false rd a b carry = with_x_sp regs rd (add_with_carry w a b carry)

-- ADD, ADDS, SUB, SUBS with an operand: Rn is a register or the stack pointer
abbrev pub with_added : Regs → Width → AddOp → Bool → Reg → Reg → ℕ → Regs
with_added regs w op set_flags rd rn operand =
    with_sum regs w set_flags rd (low w (x_sp regs rn)) (addend w op operand) (carry_in op)

-- ADD, ADDS, SUB, SUBS (immediate)
abbrev pub add_immediate : Regs → AddImmediate → Regs
add_immediate regs i = advanced (with_added regs i.width i.op i.set_flags i.rd i.rn (if i.shifted then i.imm12 * 2 ^ 12 else i.imm12))

-- AND, ORR, EOR, ANDS (immediate): 31 as Rd is the stack pointer, but for ANDS
abbrev pub logical_immediate : Regs → LogicalImmediate → Regs
logical_immediate regs i =
    let result = logical i.op (low i.width (x_zr regs i.rn)) (low i.width (decode_bit_masks i.n i.immr i.imms)) in
    advanced (if sets_flags i.op then with_flags (with_x_zr regs i.rd result) (logical_flags i.width result) else with_x_sp regs i.rd result)

-- 16 bits at bit 16 times hw
abbrev pub placed_16 : ℕ → ℕ → ℕ
placed_16 hw imm16 = imm16 * 2 ^ (hw * 16)

-- MOVN has NOT of the placed immediate, MOVZ the placed immediate, and MOVK puts it among the bits of d
abbrev pub moved_wide : Width → MoveWideOp → ℕ → ℕ → ℕ → ℕ
moved_wide w moves.Not d hw imm16 = complement w (placed_16 hw imm16)
moved_wide w moves.Zero d hw imm16 = placed_16 hw imm16
moved_wide w moves.Keep d hw imm16 = bit_or (bit_and d (complement w (placed_16 hw 65535))) (placed_16 hw imm16)

-- MOVN, MOVZ, MOVK
abbrev pub move_wide : Regs → MoveWide → Regs
move_wide regs i = advanced (with_x_zr regs i.rd (moved_wide i.width i.op (low i.width (x_zr regs i.rd)) i.hw i.imm16))

-- SBFM, BFM, UBFM
abbrev pub bitfield : Regs → Bitfield → Regs
bitfield regs i =
    advanced (with_x_zr regs i.rd (moved_field i.width i.op (low i.width (x_zr regs i.rd)) (low i.width (x_zr regs i.rn)) i.immr i.imms))

-- EXTR
abbrev pub extract : Regs → Extract → Regs
extract regs i = advanced (with_x_zr regs i.rd (extracted i.width (low i.width (x_zr regs i.rn)) (low i.width (x_zr regs i.rm)) i.imms))
