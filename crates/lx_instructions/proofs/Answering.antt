-- What comes after an instruction other than SVC is no call, and memory answers each access as it may.
use Rattle.std.proofs.Common.{◌≡◌, ℕ, List, Option, Some, None, Bool, true, false}
use Rattle.std.specs.Prelude.{if◌then◌else◌, Ok}
use Rattle.page_store.specs.Pages.{Pages}
use Rattle.a64_model.specs.Exec.{next, followed_by, IsAnswer}
use Rattle.a64_model.specs.declared.regs.Regs.{Regs}
use Rattle.a64_model.specs.declared.instr.Instr.{Instr}
use Rattle.a64_model.specs.declared.instr.Instr.TheVariants as instr
use Rattle.a64_model.specs.declared.access.Access.{Access}
use Rattle.a64_model.specs.declared.access.Access.TheVariants as access
use Rattle.a64_model.specs.declared.access.Answer.{Answer}
use Rattle.a64_model.specs.declared.access.Answer.TheVariants as answer
use Rattle.a64_model.specs.declared.access.SwapOp.{SwapOp}
use Rattle.a64_model.specs.Swaps.{has_outcome}
use Rattle.places.specs.Places.{number_of}
use Rattle.lx_memory.specs.Bytes.{bytes_at}
use Rattle.lx_memory.specs.declared.right.Right.TheVariants.{Read, Write}
use Rattle.lx_memory.specs.Queries.{first_lacking}
use Rattle.lx_machine.specs.Instruction.{Answered, accessed, answers_access, has_mark, loaded, store_exclusive, stored_at, swapped, writes}
use Rattle.lx_instructions.specs.Accesses.{IsNoCall, is_supervisor_call}

goes_on : (regs : Regs) (i : Instr) → is_supervisor_call i ≡ false → IsNoCall (followed_by regs i)
goes_on regs (instr.LoadStoreUnsigned i) is = tt
goes_on regs (instr.LoadStoreIndexed i) is = tt
goes_on regs (instr.LoadStoreRegister i) is = tt
goes_on regs (instr.LoadLiteral i) is = tt
goes_on regs (instr.LoadStorePair i) is = tt
goes_on regs (instr.StoreExclusive i) is = tt
goes_on regs (instr.LoadExclusive i) is = tt
goes_on regs (instr.StoreOrdered i) is = tt
goes_on regs (instr.LoadOrdered i) is = tt
goes_on regs (instr.CompareSwap i) is = tt
goes_on regs (instr.Atomic i) is = tt
goes_on regs (instr.LoadStoreVector i) is = tt
goes_on regs (instr.LoadStoreVectorPair i) is = tt
goes_on regs (instr.Duplicate i) is = tt
goes_on regs instr.ClearExclusive is = tt
goes_on regs (instr.PcRelative i) is = tt
goes_on regs (instr.AddImmediate i) is = tt
goes_on regs (instr.LogicalImmediate i) is = tt
goes_on regs (instr.MoveWide i) is = tt
goes_on regs (instr.Bitfield i) is = tt
goes_on regs (instr.Extract i) is = tt
goes_on regs (instr.Branch i) is = tt
goes_on regs (instr.BranchConditional i) is = tt
goes_on regs (instr.CompareBranch i) is = tt
goes_on regs (instr.TestBranch i) is = tt
goes_on regs (instr.BranchRegister i) is = tt
goes_on regs instr.SupervisorCall is = absurd cc
goes_on regs instr.Breakpoint is = tt
goes_on regs instr.Hint is = tt
goes_on regs instr.Barrier is = tt
goes_on regs (instr.ReadThreadPointer i) is = tt
goes_on regs (instr.WriteThreadPointer i) is = tt
goes_on regs (instr.LogicalShifted i) is = tt
goes_on regs (instr.AddShifted i) is = tt
goes_on regs (instr.AddExtended i) is = tt
goes_on regs (instr.AddCarry i) is = tt
goes_on regs (instr.ConditionalCompare i) is = tt
goes_on regs (instr.ConditionalSelect i) is = tt
goes_on regs (instr.OneSource i) is = tt
goes_on regs (instr.ReverseBytes i) is = tt
goes_on regs (instr.TwoSource i) is = tt
goes_on regs (instr.MultiplyAdd i) is = tt
goes_on regs (instr.MultiplyLong i) is = tt
goes_on regs (instr.MultiplyHigh i) is = tt

pub no_call : (regs : Regs) (i : Instr) (a : Answer) → is_supervisor_call i ≡ false → IsNoCall (next regs i a)
no_call regs i (answer.Fault f) is = tt
no_call regs i answer.Done is = goes_on regs i is
no_call regs i (answer.Bytes bytes) is = goes_on regs i is
no_call regs i answer.NoMark is = goes_on regs i is

loads : (pages : Pages) (mark : Option ℕ) (at len : ℕ) (marks : Bool) (o : Option ℕ) → IsAnswer (Ok (access.Load at len marks)) (loaded pages mark at len marks o).answer
loads pages mark at len marks (Some lacking) = tt
loads pages mark at len marks None = tt

stores : (pages : Pages) (mark : Option ℕ) (at len : ℕ) (bytes stored : List ℕ) (o : Option ℕ) → IsAnswer (Ok (access.Store at len bytes false)) (stored_at pages mark at stored o).answer
stores pages mark at len bytes stored (Some lacking) = tt
stores pages mark at len bytes stored None = tt

either : (at len : ℕ) (bytes : List ℕ) (b : Bool) (x y : Answered) → IsAnswer (Ok (access.Store at len bytes true)) x.answer → IsAnswer (Ok (access.Store at len bytes true)) y.answer → IsAnswer (Ok (access.Store at len bytes true)) (if b then x else y).answer
either at len bytes true x y g h = g
either at len bytes false x y g h = h

stores_exclusive : (pages : Pages) (mark : Option ℕ) (at len : ℕ) (bytes stored : List ℕ) (o : Option ℕ) → IsAnswer (Ok (access.Store at len bytes true)) (store_exclusive pages mark at stored o).answer
stores_exclusive pages mark at len bytes stored (Some lacking) = tt
stores_exclusive pages mark at len bytes stored None =
    either at len bytes (has_mark mark at) (writes pages None at stored answer.Done) (answers_access pages None answer.NoMark) tt tt

whichever : (at len : ℕ) (op : SwapOp) (value expected : ℕ) (b : Bool) (x y : Answered) → IsAnswer (Ok (access.Swap at len op value expected)) x.answer → IsAnswer (Ok (access.Swap at len op value expected)) y.answer → IsAnswer (Ok (access.Swap at len op value expected)) (if b then x else y).answer
whichever at len op value expected true x y g h = g
whichever at len op value expected false x y g h = h

swaps : (pages : Pages) (mark : Option ℕ) (at len : ℕ) (op : SwapOp) (value expected : ℕ) (o : Option ℕ) → IsAnswer (Ok (access.Swap at len op value expected)) (swapped pages mark at len op value expected o).answer
swaps pages mark at len op value expected (Some lacking) = tt
swaps pages mark at len op value expected None =
    whichever at len op value expected (has_outcome op (number_of (bytes_at pages at len)) expected) _ _ tt tt

pub is_answer : (pages : Pages) (mark : Option ℕ) (a : Access) → IsAnswer (Ok a) (accessed pages mark a).answer
is_answer pages mark access.None = tt
is_answer pages mark (access.Load at len marks) = loads pages mark at len marks (first_lacking Read pages at len)
is_answer pages mark (access.Store at len bytes false) = stores pages mark at len bytes _ (first_lacking Write pages at len)
is_answer pages mark (access.Store at len bytes true) = stores_exclusive pages mark at len bytes _ (first_lacking Write pages at len)
is_answer pages mark (access.Swap at len op value expected) = swaps pages mark at len op value expected (first_lacking Write pages at len)
is_answer pages mark access.ClearMark = tt
