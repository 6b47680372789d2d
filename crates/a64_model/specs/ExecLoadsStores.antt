-- What Loads and Stores ask of memory, and what they do to the registers once it has answered (DDI 0487, C6.2).
use Rattle.std.specs.Prelude.{ℕ, ◌+◌, ◌*◌, ◌%◌, ◌^◌, Bool, true, false, ◌&&◌, ◌==◌, if◌then◌else◌, drop, Result, Ok, Err, pos}
use Rattle.std.proofs.Math.Bool.{not}
use Rattle.a64_model.specs.Registers.{x_zr, x_sp, with_x_zr, with_x_sp, advanced}
use Rattle.a64_model.specs.Shifts.{sign_extended, extend_reg}
use Rattle.a64_model.specs.Memory.{size_bytes, number_of, low_part, bytes_of, loaded, literal_size, literal_loaded, pair_size, pair_bytes, pair_loaded}
use Rattle.a64_model.specs.declared.regs.Regs.{Regs}
use Rattle.a64_model.specs.declared.operands.Reg.{Reg}
use Rattle.a64_model.specs.declared.operands.Width.TheVariants.{X}
use Rattle.a64_model.specs.declared.operands.Size.{Size}
use Rattle.a64_model.specs.declared.operands.Size.TheVariants.{Byte, Half, Word, Double}
use Rattle.a64_model.specs.declared.operands.Transfer.{Transfer}
use Rattle.a64_model.specs.declared.operands.Transfer.TheVariants as transfers
use Rattle.a64_model.specs.declared.operands.Indexing.{Indexing}
use Rattle.a64_model.specs.declared.operands.Indexing.TheVariants.{Offset, PostIndex}
use Rattle.a64_model.specs.declared.operands.LiteralKind.{LiteralKind}
use Rattle.a64_model.specs.declared.operands.LiteralKind.TheVariants as literal
use Rattle.a64_model.specs.declared.operands.PairKind.{PairKind}
use Rattle.a64_model.specs.declared.operands.PairKind.TheVariants as pair
use Rattle.a64_model.specs.declared.operands.AtomicOp.{AtomicOp}
use Rattle.a64_model.specs.declared.operands.AtomicOp.TheVariants as atomics
use Rattle.a64_model.specs.declared.instr.LoadStoreUnsigned.{LoadStoreUnsigned}
use Rattle.a64_model.specs.declared.instr.LoadStoreIndexed.{LoadStoreIndexed}
use Rattle.a64_model.specs.declared.instr.LoadStoreRegister.{LoadStoreRegister}
use Rattle.a64_model.specs.declared.instr.LoadLiteral.{LoadLiteral}
use Rattle.a64_model.specs.declared.instr.LoadStorePair.{LoadStorePair}
use Rattle.a64_model.specs.declared.instr.StoreExclusive.{StoreExclusive}
use Rattle.a64_model.specs.declared.instr.CompareSwap.{CompareSwap}
use Rattle.a64_model.specs.declared.instr.Atomic.{Atomic}
use Rattle.a64_model.specs.declared.access.SwapOp.{SwapOp}
use Rattle.a64_model.specs.declared.access.SwapOp.TheVariants as swap
use Rattle.a64_model.specs.declared.access.Access.{Access}
use Rattle.a64_model.specs.declared.access.Access.TheVariants as access
use Rattle.a64_model.specs.declared.access.Answer.{Answer}
use Rattle.a64_model.specs.declared.access.Answer.TheVariants as answer
use Rattle.a64_model.specs.declared.access.Next.{Next}
use Rattle.a64_model.specs.declared.access.Next.TheVariants.{Trap}

-- ---- alignment (DDI 0487, Alignment support and SP alignment checking): the trap is SIGBUS, 7, with code 1

abbrev pub misaligned : ℕ → Next
misaligned address = Trap 7 (pos 1) address

-- CheckSPAlignment: as a base the stack pointer has to be a multiple of 16
abbrev pub with_base : Regs → Reg → Access → Result Access Next
with_base regs rn a = if (rn.number == 31) && not (regs.sp % 16 == 0) then Err (misaligned regs.sp) else Ok a

-- an exclusive, ordered or atomic access has to be at a multiple of its size
abbrev pub with_aligned_base : Regs → Reg → Size → Access → Result Access Next
with_aligned_base regs rn s a =
    if (rn.number == 31) && not (regs.sp % 16 == 0) then Err (misaligned regs.sp) else (
    if x_sp regs rn % size_bytes s == 0 then Ok a else Err (misaligned (x_sp regs rn)))

-- ---- accesses of one register

-- what a transfer of this register asks at an address, by this base. A prefetch asks nothing, and never traps
abbrev pub transferred : Regs → Size → Transfer → Reg → Reg → ℕ → Result Access Next
transferred regs s transfers.Store rn rt at = with_base regs rn (access.Store at (size_bytes s) (bytes_of (low_part s (x_zr regs rt))) false)
transferred regs s transfers.Prefetch rn rt at = Ok access.None
transferred regs s _ rn rt at = with_base regs rn (access.Load at (size_bytes s) false)

-- the register after a load, whose bytes are the answer
abbrev pub with_loaded : Regs → Size → Transfer → Reg → Answer → Regs
with_loaded regs s t rt (answer.Bytes bytes) = with_x_zr regs rt (loaded s t bytes)
with_loaded regs s t rt _ = regs

-- (unsigned offset): the base plus so many accesses
abbrev pub unsigned_address : Regs → LoadStoreUnsigned → ℕ
unsigned_address regs i = (x_sp regs i.rn + i.imm12 * size_bytes i.size) % 2 ^ 64

abbrev pub need_unsigned : Regs → LoadStoreUnsigned → Result Access Next
need_unsigned regs i = transferred regs i.size i.transfer i.rn i.rt (unsigned_address regs i)

abbrev pub load_store_unsigned : Regs → LoadStoreUnsigned → Answer → Regs
load_store_unsigned regs i a = advanced (with_loaded regs i.size i.transfer i.rt a)

-- the address of an access, from the base and the base plus the offset
abbrev pub indexed_address : Indexing → ℕ → ℕ → ℕ
indexed_address PostIndex base moved = base
indexed_address _ base moved = moved

-- the base register after an access, from the base plus the offset
abbrev pub written_back : Regs → Indexing → Reg → ℕ → Regs
written_back regs Offset rn moved = regs
written_back regs _ rn moved = with_x_sp regs rn moved

-- (unscaled), (post-index), (pre-index): the base plus a signed number of bytes
abbrev pub moved_base : Regs → LoadStoreIndexed → ℕ
moved_base regs i = (x_sp regs i.rn + sign_extended 9 i.imm9) % 2 ^ 64

abbrev pub need_indexed : Regs → LoadStoreIndexed → Result Access Next
need_indexed regs i =
    transferred regs i.size i.transfer i.rn i.rt (indexed_address i.indexing (x_sp regs i.rn) (moved_base regs i))

abbrev pub load_store_indexed : Regs → LoadStoreIndexed → Answer → Regs
load_store_indexed regs i a =
    advanced (written_back (with_loaded regs i.size i.transfer i.rt a) i.indexing i.rn (moved_base regs i))

-- how far an offset register is moved left, where it counts accesses
abbrev pub scale : Size → Bool → ℕ
scale s false = 0
scale Byte true = 0
scale Half true = 1
scale Word true = 2
scale Double true = 3

-- (register): the base plus the extended register
abbrev pub register_address : Regs → LoadStoreRegister → ℕ
register_address regs i = (x_sp regs i.rn + extend_reg X i.extend (x_zr regs i.rm) (scale i.size i.scaled)) % 2 ^ 64

abbrev pub need_register : Regs → LoadStoreRegister → Result Access Next
need_register regs i = transferred regs i.size i.transfer i.rn i.rt (register_address regs i)

abbrev pub load_store_register : Regs → LoadStoreRegister → Answer → Regs
load_store_register regs i a = advanced (with_loaded regs i.size i.transfer i.rt a)

-- (literal): pc plus a signed number of instructions
abbrev pub literal_address : Regs → LoadLiteral → ℕ
literal_address regs i = (regs.pc + sign_extended 21 (i.imm19 * 4)) % 2 ^ 64

abbrev pub literal_access : LiteralKind → ℕ → Access
literal_access literal.Prefetch at = access.None
literal_access k at = access.Load at (size_bytes (literal_size k)) false

abbrev pub need_literal : Regs → LoadLiteral → Result Access Next
need_literal regs i = Ok (literal_access i.kind (literal_address regs i))

abbrev pub load_literal : Regs → LoadLiteral → Answer → Regs
load_literal regs i (answer.Bytes bytes) = advanced (with_x_zr regs i.rt (literal_loaded i.kind bytes))
load_literal regs i _ = advanced regs

-- ---- pairs: one access of twice the size

-- a signed number of registers
abbrev pub pair_offset : PairKind → ℕ → ℕ
pair_offset pair.Double imm7 = sign_extended 10 (imm7 * 8)
pair_offset _ imm7 = sign_extended 9 (imm7 * 4)

abbrev pub moved_pair_base : Regs → LoadStorePair → ℕ
moved_pair_base regs i = (x_sp regs i.rn + pair_offset i.kind i.imm7) % 2 ^ 64

abbrev pub pair_access : Regs → LoadStorePair → ℕ → Access
pair_access regs i at =
    if i.load then access.Load at (2 * pair_size i.kind) false
    else access.Store at (2 * pair_size i.kind) (pair_bytes i.kind (x_zr regs i.rt) (x_zr regs i.rt2)) false

abbrev pub need_pair : Regs → LoadStorePair → Result Access Next
need_pair regs i = with_base regs i.rn (pair_access regs i (indexed_address i.indexing (x_sp regs i.rn) (moved_pair_base regs i)))

-- the two registers after a load, whose bytes are the answer
abbrev pub with_pair : Regs → LoadStorePair → Answer → Regs
with_pair regs i (answer.Bytes bytes) =
    with_x_zr (with_x_zr regs i.rt (pair_loaded i.kind bytes)) i.rt2 (pair_loaded i.kind (drop (pair_size i.kind) bytes))
with_pair regs i _ = regs

abbrev pub load_store_pair : Regs → LoadStorePair → Answer → Regs
load_store_pair regs i a = advanced (written_back (with_pair regs i a) i.indexing i.rn (moved_pair_base regs i))

-- ---- exclusive and ordered accesses

-- LDXR and its kin (with a mark), LDAR and its kin
abbrev pub need_load : Regs → Size → Reg → Bool → Result Access Next
need_load regs s rn mark = with_aligned_base regs rn s (access.Load (x_sp regs rn) (size_bytes s) mark)

-- STXR and its kin (exclusive), STLR and its kin
abbrev pub need_store : Regs → Size → Reg → Reg → Bool → Result Access Next
need_store regs s rn rt exclusive =
    with_aligned_base regs rn s (access.Store (x_sp regs rn) (size_bytes s) (bytes_of (low_part s (x_zr regs rt))) exclusive)

-- the register after an access that answers a number: what LDXR, LDAR, CAS and the atomic operations leave
abbrev pub with_number : Regs → Size → Reg → Answer → Regs
with_number regs s r (answer.Bytes bytes) = with_x_zr regs r (number_of s bytes)
with_number regs s r _ = regs

-- STXR's status: 1 where the mark didn't stand, and else 0
abbrev pub status : Answer → ℕ
status answer.NoMark = 1
status _ = 0

abbrev pub store_exclusive : Regs → StoreExclusive → Answer → Regs
store_exclusive regs i a = advanced (with_x_zr regs i.rs (status a))

-- ---- atomic accesses

-- CAS compares Rs with memory, and stores Rt where they are equal
abbrev pub need_compare_swap : Regs → CompareSwap → Result Access Next
need_compare_swap regs i =
    with_aligned_base regs i.rn i.size (
    access.Swap (x_sp regs i.rn) (size_bytes i.size) swap.CompareSwap (low_part i.size (x_zr regs i.rt)) (low_part i.size (x_zr regs i.rs))
    )

-- LDADD, LDCLR, LDEOR, LDSET, SWP
abbrev pub swap_op : AtomicOp → SwapOp
swap_op atomics.Add = swap.Add
swap_op atomics.Clear = swap.Clear
swap_op atomics.ExclusiveOr = swap.Xor
swap_op atomics.Set = swap.Set
swap_op atomics.Swap = swap.Swap

abbrev pub need_atomic : Regs → Atomic → Result Access Next
need_atomic regs i =
    with_aligned_base regs i.rn i.size (access.Swap (x_sp regs i.rn) (size_bytes i.size) (swap_op i.op) (low_part i.size (x_zr regs i.rs)) 0)
