-- Branches, Exception Generating and System instructions (DDI 0487, C4.1): the fields of each row.
use Rattle.std.specs.Prelude.{ℕ, ◌+◌, ◌*◌, Bool, Option, Some}
use Rattle.a64_model.specs.Bits.{bits}
use Rattle.a64_model.specs.Operands.{reg, width, condition}
use Rattle.a64_model.specs.declared.instr.Instr.{Instr}
use Rattle.a64_model.specs.declared.instr.Instr.TheVariants as instr
use Rattle.a64_model.specs.declared.instr.TheConstants.{WORD_ALIGNED}
use Rattle.a64_model.specs.declared.operands.BranchKind.{BranchKind}

-- Unconditional branch (immediate): B, BL. imm26 25 to 0
abbrev pub branch : Bool → ℕ → Option Instr
branch link word =
    Some (instr.Branch (record {
      imm26 = bits word 25 0;
      link = link;
    }))

-- Conditional branch (immediate): B.cond. imm19 23 to 5, cond 3 to 0
abbrev pub branch_conditional : ℕ → Option Instr
branch_conditional word =
    Some (instr.BranchConditional (record {
      imm19 = bits word 23 5;
      condition = condition (bits word 3 0);
    }))

-- Compare and branch (immediate): CBZ, CBNZ. imm19 23 to 5
abbrev pub compare_branch : Bool → ℕ → Option Instr
compare_branch nonzero word =
    Some (instr.CompareBranch (record {
      imm19 = bits word 23 5;
      width = width word;
      nonzero = nonzero;
      rt = reg word 0;
    }))

-- Test and branch (immediate): TBZ, TBNZ. The bit number is bit 31 and then 23 to 19; imm14 18 to 5
abbrev pub test_branch : Bool → ℕ → Option Instr
test_branch set word =
    Some (instr.TestBranch (record {
      aligned = WORD_ALIGNED;
      set = set;
      bit_number = bits word 31 31 * 32 + bits word 23 19;
      imm14 = bits word 18 5;
      rt = reg word 0;
    }))

-- Unconditional branch (register): BR, BLR, RET
abbrev pub branch_register : BranchKind → ℕ → Option Instr
branch_register kind word = Some (instr.BranchRegister (record { aligned = WORD_ALIGNED; kind = kind; rn = reg word 5 }))

-- System register move: MRS of TPIDR_EL0
abbrev pub read_thread_pointer : ℕ → Option Instr
read_thread_pointer word = Some (instr.ReadThreadPointer (record { aligned = WORD_ALIGNED; rt = reg word 0 }))

-- System register move: MSR of TPIDR_EL0
abbrev pub write_thread_pointer : ℕ → Option Instr
write_thread_pointer word = Some (instr.WriteThreadPointer (record { aligned = WORD_ALIGNED; rt = reg word 0 }))
