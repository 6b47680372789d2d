-- Exec(registers, instruction, answer): the access that an instruction makes, and then the next registers, or the trap.
-- Memory answers the access in one step. An access that alignment refuses, and one that faults, changes nothing. What the rows
-- that move vector registers do is VectorMoves.
-- Source: DDI 0487, C6.2, at each instruction. The signals of traps are those of Linux for arm64 (signal(7)).
use Rattle.std.specs.Prelude.{true, false, Result, Ok, pos}
use Rattle.a64_model.specs.Registers.{advanced}
use Rattle.a64_model.specs.ExecImmediates as immediates
use Rattle.a64_model.specs.ExecBranches as branches
use Rattle.a64_model.specs.ExecRegisters as registers
use Rattle.a64_model.specs.ExecLoadsStores.{need_unsigned, need_indexed, need_register, need_literal, need_pair, need_load, need_store, need_compare_swap, need_atomic, with_number}
use Rattle.a64_model.specs.ExecLoadsStores as memory
use Rattle.a64_model.specs.VectorMoves.{need_vector_access, need_vector_pair}
use Rattle.a64_model.specs.VectorMoves as vectors
use Rattle.a64_model.specs.declared.regs.Regs.{Regs}
use Rattle.a64_model.specs.declared.instr.Instr.{Instr}
use Rattle.a64_model.specs.declared.instr.Instr.TheVariants as instr
use Rattle.a64_model.specs.declared.access.Access.{Access}
use Rattle.a64_model.specs.declared.access.Access.TheVariants as access
use Rattle.a64_model.specs.declared.access.Answer.{Answer}
use Rattle.a64_model.specs.declared.access.Answer.TheVariants as answer
use Rattle.a64_model.specs.declared.access.Fault.{Fault}
use Rattle.a64_model.specs.declared.access.Next.{Next}
use Rattle.a64_model.specs.declared.access.Next.TheVariants.{Go, Call, Trap}

-- the access, or the trap where alignment refuses it
abbrev pub needed : Regs → Instr → Result Access Next
needed regs (instr.LoadStoreUnsigned i) = need_unsigned regs i
needed regs (instr.LoadStoreIndexed i) = need_indexed regs i
needed regs (instr.LoadStoreRegister i) = need_register regs i
needed regs (instr.LoadLiteral i) = need_literal regs i
needed regs (instr.LoadStorePair i) = need_pair regs i
needed regs (instr.StoreExclusive i) = need_store regs i.size i.rn i.rt true
needed regs (instr.LoadExclusive i) = need_load regs i.size i.rn true
needed regs (instr.StoreOrdered i) = need_store regs i.size i.rn i.rt false
needed regs (instr.LoadOrdered i) = need_load regs i.size i.rn false
needed regs (instr.CompareSwap i) = need_compare_swap regs i
needed regs (instr.Atomic i) = need_atomic regs i
needed regs (instr.LoadStoreVector i) = need_vector_access regs i
needed regs (instr.LoadStoreVectorPair i) = need_vector_pair regs i
needed regs instr.ClearExclusive = Ok access.ClearMark
needed regs _ = Ok access.None

-- memory may answer the access so
abbrev pub IsAnswer : Result Access Next → Answer → Type 0
IsAnswer (Ok access.None) answer.Done = Unit {0}
IsAnswer (Ok access.ClearMark) answer.Done = Unit {0}
IsAnswer (Ok (access.Store _ _ _ _)) answer.Done = Unit {0}
IsAnswer (Ok (access.Store _ _ _ true)) answer.NoMark = Unit {0}
IsAnswer (Ok (access.Store _ _ _ _)) (answer.Fault _) = Unit {0}
IsAnswer (Ok (access.Load _ _ _)) (answer.Bytes _) = Unit {0}
IsAnswer (Ok (access.Load _ _ _)) (answer.Fault _) = Unit {0}
IsAnswer (Ok (access.Swap _ _ _ _ _)) (answer.Bytes _) = Unit {0}
IsAnswer (Ok (access.Swap _ _ _ _ _)) (answer.Fault _) = Unit {0}
IsAnswer _ _ = ⊥

-- the registers after the instruction, whose access had this answer and no fault
abbrev pub done : Regs → Instr → Answer → Regs
done regs (instr.PcRelative i) a = immediates.pc_relative regs i
done regs (instr.AddImmediate i) a = immediates.add_immediate regs i
done regs (instr.LogicalImmediate i) a = immediates.logical_immediate regs i
done regs (instr.MoveWide i) a = immediates.move_wide regs i
done regs (instr.Bitfield i) a = immediates.bitfield regs i
done regs (instr.Extract i) a = immediates.extract regs i
done regs (instr.Branch i) a = branches.branch regs i
done regs (instr.BranchConditional i) a = branches.branch_conditional regs i
done regs (instr.CompareBranch i) a = branches.compare_branch regs i
done regs (instr.TestBranch i) a = branches.test_branch regs i
done regs (instr.BranchRegister i) a = branches.branch_register regs i
done regs instr.SupervisorCall a = advanced regs
done regs instr.Breakpoint a = regs
done regs instr.Hint a = advanced regs
done regs instr.ClearExclusive a = advanced regs
done regs instr.Barrier a = advanced regs
done regs (instr.ReadThreadPointer i) a = branches.read_thread_pointer regs i
done regs (instr.WriteThreadPointer i) a = branches.write_thread_pointer regs i
done regs (instr.LogicalShifted i) a = registers.logical_shifted regs i
done regs (instr.AddShifted i) a = registers.add_shifted regs i
done regs (instr.AddExtended i) a = registers.add_extended regs i
done regs (instr.AddCarry i) a = registers.add_carry regs i
done regs (instr.ConditionalCompare i) a = registers.conditional_compare regs i
done regs (instr.ConditionalSelect i) a = registers.conditional_select regs i
done regs (instr.OneSource i) a = registers.one_source regs i
done regs (instr.ReverseBytes i) a = registers.reverse_bytes regs i
done regs (instr.TwoSource i) a = registers.two_source regs i
done regs (instr.MultiplyAdd i) a = registers.multiply_add regs i
done regs (instr.MultiplyLong i) a = registers.multiply_long regs i
done regs (instr.MultiplyHigh i) a = registers.multiply_high regs i
done regs (instr.LoadStoreUnsigned i) a = memory.load_store_unsigned regs i a
done regs (instr.LoadStoreIndexed i) a = memory.load_store_indexed regs i a
done regs (instr.LoadStoreRegister i) a = memory.load_store_register regs i a
done regs (instr.LoadLiteral i) a = memory.load_literal regs i a
done regs (instr.LoadStorePair i) a = memory.load_store_pair regs i a
done regs (instr.StoreExclusive i) a = memory.store_exclusive regs i a
done regs (instr.LoadExclusive i) a = advanced (with_number regs i.size i.rt a)
done regs (instr.StoreOrdered i) a = advanced regs
done regs (instr.LoadOrdered i) a = advanced (with_number regs i.size i.rt a)
done regs (instr.CompareSwap i) a = advanced (with_number regs i.size i.rs a)
done regs (instr.Atomic i) a = advanced (with_number regs i.size i.rt a)
done regs (instr.LoadStoreVector i) a = vectors.load_store_vector regs i a
done regs (instr.LoadStoreVectorPair i) a = vectors.load_store_vector_pair regs i a
done regs (instr.Duplicate i) a = vectors.duplicate regs i

-- the registers after the instruction: a fault changes nothing
abbrev pub after : Regs → Instr → Answer → Regs
after regs i (answer.Fault f) = regs
after regs i a = done regs i a

-- what comes after the instruction, where its access had no fault: SVC calls, and BRK is SIGTRAP, 5, with code 1
abbrev pub followed_by : Regs → Instr → Next
followed_by regs instr.SupervisorCall = Call
followed_by regs instr.Breakpoint = Trap 5 (pos 1) regs.pc
followed_by regs _ = Go

-- a fault is SIGSEGV, 11, whose code 0 is judged when the signal is taken
abbrev pub faulted : Fault → Next
faulted f = Trap 11 (pos 0) f.address

-- what comes after the instruction
abbrev pub next : Regs → Instr → Answer → Next
next regs i (answer.Fault f) = faulted f
next regs i a = followed_by regs i
