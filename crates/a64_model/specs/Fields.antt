-- The fields of a word of each form, or none where the form's condition fails, in the order of the table.
use Rattle.std.specs.Prelude.{ℕ, Option, Some}
use Rattle.a64_model.specs.Immediates as immediates
use Rattle.a64_model.specs.Branches as branches
use Rattle.a64_model.specs.DataRegisters as registers
use Rattle.a64_model.specs.LoadsStores as memory
use Rattle.a64_model.specs.VectorRows as vectors
use Rattle.a64_model.specs.declared.rows.Form.{Form}
use Rattle.a64_model.specs.declared.rows.Form.TheVariants as form
use Rattle.a64_model.specs.declared.instr.Instr.{Instr}
use Rattle.a64_model.specs.declared.instr.Instr.TheVariants as instr

abbrev pub fields : Form → ℕ → Option Instr
fields (form.PcRelative page) word = immediates.pc_relative page word
fields form.AddImmediate word = immediates.add_immediate word
fields form.LogicalImmediate word = immediates.logical_immediate word
fields form.MoveWide word = immediates.move_wide word
fields form.Bitfield word = immediates.bitfield word
fields form.Extract word = immediates.extract word
fields (form.Branch link) word = branches.branch link word
fields form.BranchConditional word = branches.branch_conditional word
fields (form.CompareBranch nonzero) word = branches.compare_branch nonzero word
fields (form.TestBranch set) word = branches.test_branch set word
fields (form.BranchRegister kind) word = branches.branch_register kind word
fields form.SupervisorCall word = Some instr.SupervisorCall
fields form.Breakpoint word = Some instr.Breakpoint
fields form.Hint word = Some instr.Hint
fields form.ClearExclusive word = Some instr.ClearExclusive
fields form.Barrier word = Some instr.Barrier
fields form.ReadThreadPointer word = branches.read_thread_pointer word
fields form.WriteThreadPointer word = branches.write_thread_pointer word
fields form.LogicalShifted word = registers.logical_shifted word
fields form.AddShifted word = registers.add_shifted word
fields form.AddExtended word = registers.add_extended word
fields form.AddCarry word = registers.add_carry word
fields form.ConditionalCompareRegister word = registers.conditional_compare_register word
fields form.ConditionalCompareImmediate word = registers.conditional_compare_immediate word
fields form.ConditionalSelect word = registers.conditional_select word
fields (form.OneSource op) word = registers.one_source op word
fields form.ReverseBytes word = registers.reverse_bytes word
fields (form.TwoSource op) word = registers.two_source op word
fields (form.MultiplyAdd op) word = registers.multiply_add op word
fields (form.MultiplyLong signed op) word = registers.multiply_long signed op word
fields (form.MultiplyHigh signed) word = registers.multiply_high signed word
fields form.LoadStoreUnsigned word = memory.load_store_unsigned word
fields (form.LoadStoreIndexed indexing) word = memory.load_store_indexed indexing word
fields form.LoadStoreRegister word = memory.load_store_register word
fields form.LoadLiteral word = memory.load_literal word
fields (form.LoadStorePair indexing) word = memory.load_store_pair indexing word
fields form.StoreExclusive word = memory.store_exclusive word
fields form.LoadExclusive word = memory.load_exclusive word
fields form.StoreOrdered word = memory.store_ordered word
fields form.LoadOrdered word = memory.load_ordered word
fields form.CompareSwap word = memory.compare_swap word
fields (form.Atomic op) word = memory.atomic op word
fields (form.LoadStoreVector load) word = vectors.load_store_vector load word
fields (form.LoadStoreVectorPair load) word = vectors.load_store_vector_pair load word
fields form.Duplicate word = vectors.duplicate word
