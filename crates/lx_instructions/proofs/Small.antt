-- The accesses of instructions are small.
use Rattle.std.proofs.Common.{ℕ, ◌*◌, ◌≤◌, Bool, true, false, Result, arith}
use Rattle.std.specs.Prelude.{if◌then◌else◌, Ok, Err, ◌&&◌, ◌==◌, ◌%◌}
use Rattle.std.proofs.Math.Bool.{not}
use Rattle.a64_model.specs.Exec.{needed}
use Rattle.a64_model.specs.Memory.{size_bytes, pair_size}
use Rattle.a64_model.specs.Registers.{x_sp}
use Rattle.a64_model.specs.ExecLoadsStores.{with_base, with_aligned_base, transferred, misaligned, literal_address, literal_access, pair_access}
use Rattle.a64_model.specs.declared.regs.Regs.{Regs}
use Rattle.a64_model.specs.declared.instr.Instr.{Instr}
use Rattle.a64_model.specs.declared.instr.Instr.TheVariants as instr
use Rattle.a64_model.specs.declared.instr.LoadStorePair.{LoadStorePair}
use Rattle.a64_model.specs.declared.operands.Reg.{Reg}
use Rattle.a64_model.specs.declared.operands.Size.{Size}
use Rattle.a64_model.specs.declared.operands.Size.TheVariants.{Byte, Half, Word, Double}
use Rattle.a64_model.specs.declared.operands.Transfer.{Transfer}
use Rattle.a64_model.specs.declared.operands.Transfer.TheVariants as transfers
use Rattle.a64_model.specs.declared.operands.LiteralKind.{LiteralKind}
use Rattle.a64_model.specs.declared.operands.LiteralKind.TheVariants as literal
use Rattle.a64_model.specs.declared.operands.PairKind.{PairKind}
use Rattle.a64_model.specs.declared.operands.PairKind.TheVariants as pair
use Rattle.a64_model.specs.declared.access.Access.{Access}
use Rattle.a64_model.specs.declared.access.Next.{Next}
use Rattle.lx_instructions.specs.Accesses.{IsSmall, AsksLittle}

size_small : (s : Size) → size_bytes s ≤ 8
size_small Byte = omega arith
size_small Half = omega arith
size_small Word = omega arith
size_small Double = omega arith

size_some : (s : Size) → 1 ≤ size_bytes s
size_some Byte = omega arith
size_some Half = omega arith
size_some Word = omega arith
size_some Double = omega arith

size_32 : (s : Size) → size_bytes s ≤ 32
size_32 s = omega (arith, size_small s)

pair_small : (k : PairKind) → 2 * pair_size k ≤ 32
pair_small pair.Double = omega arith
pair_small pair.Word = omega arith
pair_small pair.SignedWord = omega arith

either : (b : Bool) (x y : Result Access Next) → AsksLittle x → AsksLittle y → AsksLittle (if b then x else y)
either true x y g h = g
either false x y g h = h

based : (regs : Regs) (rn : Reg) (a : Access) → IsSmall a → AsksLittle (with_base regs rn a)
based regs rn a small = either _ (Err (misaligned regs.sp)) (Ok a) tt small

aligned : (regs : Regs) (rn : Reg) (s : Size) (a : Access) → IsSmall a → AsksLittle (with_aligned_base regs rn s a)
aligned regs rn s a small =
    either ((rn.number == 31) && not (regs.sp % 16 == 0)) (Err (misaligned regs.sp)) (if x_sp regs rn % size_bytes s == 0 then Ok a else Err (misaligned (x_sp regs rn))) tt (
    either (x_sp regs rn % size_bytes s == 0) (Ok a) (Err (misaligned (x_sp regs rn))) small tt
    )

moved : (regs : Regs) (s : Size) (t : Transfer) (rn rt : Reg) (at : ℕ) → AsksLittle (transferred regs s t rn rt at)
moved regs s transfers.Store rn rt at = based regs rn _ (size_32 s)
moved regs s transfers.Prefetch rn rt at = tt
moved regs s transfers.Load rn rt at = based regs rn _ (size_32 s)
moved regs s transfers.LoadSigned64 rn rt at = based regs rn _ (size_32 s)
moved regs s transfers.LoadSigned32 rn rt at = based regs rn _ (size_32 s)

literal_small : (k : LiteralKind) (at : ℕ) → IsSmall (literal_access k at)
literal_small literal.Prefetch at = tt
literal_small literal.Word at = omega arith
literal_small literal.Double at = omega arith
literal_small literal.SignedWord at = omega arith

one_of : (b : Bool) (x y : Access) → IsSmall x → IsSmall y → IsSmall (if b then x else y)
one_of true x y g h = g
one_of false x y g h = h

pair_access_small : (regs : Regs) (i : LoadStorePair) (at : ℕ) → IsSmall (pair_access regs i at)
pair_access_small regs i at = one_of i.load _ _ (pair_small i.kind) (pair_small i.kind)

pub asks_little : (regs : Regs) (i : Instr) → AsksLittle (needed regs i)
asks_little regs (instr.LoadStoreUnsigned i) = moved regs i.size i.transfer i.rn i.rt _
asks_little regs (instr.LoadStoreIndexed i) = moved regs i.size i.transfer i.rn i.rt _
asks_little regs (instr.LoadStoreRegister i) = moved regs i.size i.transfer i.rn i.rt _
asks_little regs (instr.LoadLiteral i) = literal_small i.kind (literal_address regs i)
asks_little regs (instr.LoadStorePair i) = based regs i.rn _ (pair_access_small regs i _)
asks_little regs (instr.StoreExclusive i) = aligned regs i.rn i.size _ (size_32 i.size)
asks_little regs (instr.LoadExclusive i) = aligned regs i.rn i.size _ (size_32 i.size)
asks_little regs (instr.StoreOrdered i) = aligned regs i.rn i.size _ (size_32 i.size)
asks_little regs (instr.LoadOrdered i) = aligned regs i.rn i.size _ (size_32 i.size)
asks_little regs (instr.CompareSwap i) = aligned regs i.rn i.size _ (size_some i.size, size_small i.size)
asks_little regs (instr.Atomic i) = aligned regs i.rn i.size _ (size_some i.size, size_small i.size)
asks_little regs (instr.LoadStoreVector i) = based regs i.rn _ (one_of i.load _ _ (omega arith) (omega arith))
asks_little regs (instr.LoadStoreVectorPair i) = based regs i.rn _ (one_of i.load _ _ (omega arith) (omega arith))
asks_little regs (instr.Duplicate i) = tt
asks_little regs instr.ClearExclusive = tt
asks_little regs (instr.PcRelative i) = tt
asks_little regs (instr.AddImmediate i) = tt
asks_little regs (instr.LogicalImmediate i) = tt
asks_little regs (instr.MoveWide i) = tt
asks_little regs (instr.Bitfield i) = tt
asks_little regs (instr.Extract i) = tt
asks_little regs (instr.Branch i) = tt
asks_little regs (instr.BranchConditional i) = tt
asks_little regs (instr.CompareBranch i) = tt
asks_little regs (instr.TestBranch i) = tt
asks_little regs (instr.BranchRegister i) = tt
asks_little regs instr.SupervisorCall = tt
asks_little regs instr.Breakpoint = tt
asks_little regs instr.Hint = tt
asks_little regs instr.Barrier = tt
asks_little regs (instr.ReadThreadPointer i) = tt
asks_little regs (instr.WriteThreadPointer i) = tt
asks_little regs (instr.LogicalShifted i) = tt
asks_little regs (instr.AddShifted i) = tt
asks_little regs (instr.AddExtended i) = tt
asks_little regs (instr.AddCarry i) = tt
asks_little regs (instr.ConditionalCompare i) = tt
asks_little regs (instr.ConditionalSelect i) = tt
asks_little regs (instr.OneSource i) = tt
asks_little regs (instr.ReverseBytes i) = tt
asks_little regs (instr.TwoSource i) = tt
asks_little regs (instr.MultiplyAdd i) = tt
asks_little regs (instr.MultiplyLong i) = tt
asks_little regs (instr.MultiplyHigh i) = tt
