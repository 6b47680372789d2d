-- What Branches and System register moves do to the registers (DDI 0487, C6.2).
use Rattle.std.specs.Prelude.{ℕ, ◌+◌, ◌*◌, ◌%◌, ◌^◌, Bool, true, false, ◌==◌, slice_set, if◌then◌else◌}
use Rattle.std.proofs.Math.Bool.{not}
use Rattle.a64_model.specs.Bits.{bit}
use Rattle.a64_model.specs.Registers.{x_zr, with_x_zr, at_pc, next_pc, advanced}
use Rattle.a64_model.specs.Arithmetic.{low}
use Rattle.a64_model.specs.Shifts.{sign_extended}
use Rattle.a64_model.specs.Conditions.{condition_holds, is_alike}
use Rattle.a64_model.specs.declared.regs.Regs.{Regs}
use Rattle.a64_model.specs.declared.operands.BranchKind.{BranchKind}
use Rattle.a64_model.specs.declared.operands.BranchKind.TheVariants as kind
use Rattle.a64_model.specs.declared.instr.Branch.{Branch}
use Rattle.a64_model.specs.declared.instr.BranchConditional.{BranchConditional}
use Rattle.a64_model.specs.declared.instr.CompareBranch.{CompareBranch}
use Rattle.a64_model.specs.declared.instr.TestBranch.{TestBranch}
use Rattle.a64_model.specs.declared.instr.BranchRegister.{BranchRegister}
use Rattle.a64_model.specs.declared.instr.ReadThreadPointer.{ReadThreadPointer}
use Rattle.a64_model.specs.declared.instr.WriteThreadPointer.{WriteThreadPointer}

-- where a branch goes by an immediate of so many bits, which is signed and counts instructions of 4 bytes
abbrev pub target : Regs → ℕ → ℕ → ℕ
target regs bits imm = (regs.pc + sign_extended (bits + 2) (imm * 4)) % 2 ^ 64

-- BranchTo the target where the test holds, and else the next instruction
abbrev pub branch_where : Bool → Regs → ℕ → ℕ → Regs
branch_where true regs bits imm = at_pc regs (target regs bits imm)
branch_where false regs bits imm = advanced regs

-- X[30] has the address of the next instruction
abbrev pub linked : Regs → Regs
linked regs = record regs { x = slice_set regs.x 30 (next_pc regs) }

-- B, BL
abbrev pub branch : Regs → Branch → Regs
branch regs i = at_pc (if i.link then linked regs else regs) (target regs 26 i.imm26)

-- B.cond
abbrev pub branch_conditional : Regs → BranchConditional → Regs
branch_conditional regs i = branch_where (condition_holds i.condition regs.nzcv) regs 19 i.imm19

-- CBZ, CBNZ
abbrev pub compare_branch : Regs → CompareBranch → Regs
compare_branch regs i = branch_where (is_alike (not (low i.width (x_zr regs i.rt) == 0)) i.nonzero) regs 19 i.imm19

-- TBZ, TBNZ
abbrev pub test_branch : Regs → TestBranch → Regs
test_branch regs i = branch_where (is_alike (bit (x_zr regs i.rt) i.bit_number) i.set) regs 14 i.imm14

-- BLR links
abbrev pub linked_by : BranchKind → Regs → Regs
linked_by kind.Call regs = linked regs
linked_by _ regs = regs

-- BR, BLR, RET: the target is read before X[30] is written
abbrev pub branch_register : Regs → BranchRegister → Regs
branch_register regs i = at_pc (linked_by i.kind regs) (x_zr regs i.rn)

-- MRS of TPIDR_EL0
abbrev pub read_thread_pointer : Regs → ReadThreadPointer → Regs
read_thread_pointer regs i = advanced (with_x_zr regs i.rt regs.tpidr)

-- MSR of TPIDR_EL0
abbrev pub write_thread_pointer : Regs → WriteThreadPointer → Regs
write_thread_pointer regs i = advanced (record regs { tpidr = x_zr regs i.rt })
