-- What an instruction asks of memory is fit for the shards: where an access marks or exchanges, alignment keeps it in a page.
use Rattle.std.proofs.Common.{◌≡◌, ℕ, ◌+◌, ◌*◌, ◌%◌, ◌^◌, ◌<◌, ◌≤◌, Bool, true, false, Result, length, replicate, ◌++◌, refl, arith}
use Rattle.std.specs.Prelude.{if◌then◌else◌, Ok, Err, ◌&&◌, ◌==◌}
use Rattle.std.specs.Int.{to_le_bytes, w32, w64, w128}
use Rattle.std.proofs.Math.Bool.{not}
use Rattle.std.proofs.lemmas.Bool.Decides.{nat_tests}
use Rattle.std.proofs.lemmas.List.{length-append, length-replicate}
use Rattle.a64_model.specs.Exec.{needed}
use Rattle.a64_model.specs.Memory.{size_bytes, pair_size, pair_bytes, low_part, bytes_of}
use Rattle.a64_model.specs.Registers.{x_sp, x_zr}
use Rattle.a64_model.specs.ExecLoadsStores.{with_base, with_aligned_base, transferred, misaligned, literal_address, literal_access, pair_access, indexed_address, moved_base, moved_pair_base}
use Rattle.a64_model.specs.VectorMoves.{vector, vector_bytes, vector_pair_bytes, vector_access, vector_pair_access}
use Rattle.a64_model.specs.declared.regs.Regs.{Regs}
use Rattle.a64_model.specs.declared.instr.Instr.{Instr}
use Rattle.a64_model.specs.declared.instr.Instr.TheVariants as instr
use Rattle.a64_model.specs.declared.instr.LoadStorePair.{LoadStorePair}
use Rattle.a64_model.specs.declared.instr.LoadStoreVector.{LoadStoreVector}
use Rattle.a64_model.specs.declared.instr.LoadStoreVectorPair.{LoadStoreVectorPair}
use Rattle.a64_model.specs.declared.operands.Reg.{Reg}
use Rattle.a64_model.specs.declared.operands.Size.{Size}
use Rattle.a64_model.specs.declared.operands.Size.TheVariants.{Byte, Half, Word, Double}
use Rattle.a64_model.specs.declared.operands.Transfer.{Transfer}
use Rattle.a64_model.specs.declared.operands.Transfer.TheVariants as transfers
use Rattle.a64_model.specs.declared.operands.Indexing.{Indexing}
use Rattle.a64_model.specs.declared.operands.Indexing.TheVariants.{Offset, PostIndex, PreIndex}
use Rattle.a64_model.specs.declared.operands.LiteralKind.{LiteralKind}
use Rattle.a64_model.specs.declared.operands.LiteralKind.TheVariants as literal
use Rattle.a64_model.specs.declared.operands.PairKind.{PairKind}
use Rattle.a64_model.specs.declared.operands.PairKind.TheVariants as pair
use Rattle.a64_model.specs.declared.access.Access.{Access}
use Rattle.a64_model.specs.declared.access.Access.TheVariants as access
use Rattle.a64_model.specs.declared.access.Next.{Next}
use Rattle.shards_stand.specs.Accesses.{IsFit, IsWide, AsksFit}

size_some : (s : Size) → 0 < size_bytes s
size_some Byte = omega arith
size_some Half = omega arith
size_some Word = omega arith
size_some Double = omega arith

size_most : (s : Size) → size_bytes s ≤ 32
size_most Byte = omega arith
size_most Half = omega arith
size_most Word = omega arith
size_most Double = omega arith

size_in_page : (s : Size) (at : ℕ) → at % size_bytes s ≡ 0 → at % 4096 + size_bytes s ≤ 4096
size_in_page Byte at is = omega arith
size_in_page Half at is = omega arith
size_in_page Word at is = omega arith
size_in_page Double at is = omega arith

le-long : (n : ℕ) → length (to_le_bytes w64 n) ≡ 8
le-long n = refl

le-half : (n : ℕ) → length (to_le_bytes w32 n) ≡ 4
le-half n = refl

bytes-long : (n : ℕ) → length (bytes_of n) ≡ 32
bytes-long n = omega (arith, length-append (to_le_bytes w64 n) (replicate {A = ℕ} 24 0), length-replicate {A = ℕ} 24 0, le-long n)

either : (b : Bool) (x y : Result Access Next) → AsksFit x → AsksFit y → AsksFit (if b then x else y)
either true x y g h = g
either false x y g h = h

based : (regs : Regs) (rn : Reg) (a : Access) → IsFit a → AsksFit (with_base regs rn a)
based regs rn a fit = either ((rn.number == 31) && not (regs.sp % 16 == 0)) (Err (misaligned regs.sp)) (Ok a) tt fit

aligned : (regs : Regs) (rn : Reg) (s : Size) (a : Access) → (x_sp regs rn % size_bytes s ≡ 0 → IsFit a) → AsksFit (with_aligned_base regs rn s a)
aligned regs rn s a fit =
    either ((rn.number == 31) && not (regs.sp % 16 == 0)) (Err (misaligned regs.sp)) (if x_sp regs rn % size_bytes s == 0 then Ok a else Err (misaligned (x_sp regs rn))) tt (by (x_sp regs rn % size_bytes s == 0) refl)
  where
    by : (b : Bool) → (x_sp regs rn % size_bytes s == 0) ≡ b → AsksFit (if b then Ok a else Err (misaligned (x_sp regs rn)))
    by true is = fit (grind (arith, nat_tests, is))
    by false is = tt

stored : (s : Size) (at n : ℕ) (b : Bool) → at < 2 ^ 64 → IsFit (access.Store at (size_bytes s) (bytes_of n) b)
stored s at n b small = (size_some s, omega (arith, size_most s, bytes-long n), small)

moved : (regs : Regs) (s : Size) (t : Transfer) (rn rt : Reg) (at : ℕ) → at < 2 ^ 64 → AsksFit (transferred regs s t rn rt at)
moved regs s transfers.Store rn rt at small = based regs rn _ (stored s at (low_part s (x_zr regs rt)) false small)
moved regs s transfers.Prefetch rn rt at small = tt
moved regs s transfers.Load rn rt at small = based regs rn _ (size_some s, small, λ is. absurd (cc))
moved regs s transfers.LoadSigned64 rn rt at small = based regs rn _ (size_some s, small, λ is. absurd (cc))
moved regs s transfers.LoadSigned32 rn rt at small = based regs rn _ (size_some s, small, λ is. absurd (cc))

indexed : (x : Indexing) (base there : ℕ) → base < 2 ^ 64 → there < 2 ^ 64 → indexed_address x base there < 2 ^ 64
indexed PostIndex base there a b = a
indexed Offset base there a b = b
indexed PreIndex base there a b = b

literal_fit : (k : LiteralKind) (at : ℕ) → at < 2 ^ 64 → IsFit (literal_access k at)
literal_fit literal.Prefetch at small = tt
literal_fit literal.Word at small = (omega arith, small, λ is. absurd (cc))
literal_fit literal.Double at small = (omega arith, small, λ is. absurd (cc))
literal_fit literal.SignedWord at small = (omega arith, small, λ is. absurd (cc))

pair_long : (k : PairKind) (a b : ℕ) → length (pair_bytes k a b) ≡ 32
pair_long pair.Double a b = omega (arith, length-append (to_le_bytes w64 a ++ to_le_bytes w64 b) (replicate {A = ℕ} 16 0), length-append (to_le_bytes w64 a) (to_le_bytes w64 b), length-replicate {A = ℕ} 16 0, le-long a, le-long b)
pair_long pair.Word a b = omega (arith, length-append (to_le_bytes w32 (a % 2 ^ 32) ++ to_le_bytes w32 (b % 2 ^ 32)) (replicate {A = ℕ} 24 0), length-append (to_le_bytes w32 (a % 2 ^ 32)) (to_le_bytes w32 (b % 2 ^ 32)), length-replicate {A = ℕ} 24 0, le-half (a % 2 ^ 32), le-half (b % 2 ^ 32))
pair_long pair.SignedWord a b = omega (arith, length-append (to_le_bytes w32 (a % 2 ^ 32) ++ to_le_bytes w32 (b % 2 ^ 32)) (replicate {A = ℕ} 24 0), length-append (to_le_bytes w32 (a % 2 ^ 32)) (to_le_bytes w32 (b % 2 ^ 32)), length-replicate {A = ℕ} 24 0, le-half (a % 2 ^ 32), le-half (b % 2 ^ 32))

pair_few : (k : PairKind) → (0 < 2 * pair_size k) × (2 * pair_size k ≤ 32)
pair_few pair.Double = (omega arith, omega arith)
pair_few pair.Word = (omega arith, omega arith)
pair_few pair.SignedWord = (omega arith, omega arith)

one_of : (b : Bool) (x y : Access) → IsFit x → IsFit y → IsFit (if b then x else y)
one_of true x y g h = g
one_of false x y g h = h

pair_fit : (regs : Regs) (i : LoadStorePair) (at : ℕ) → at < 2 ^ 64 → IsFit (pair_access regs i at)
pair_fit regs i at small = one_of i.load _ _ ((pair_few i.kind).0, small, λ is. absurd (cc)) ((pair_few i.kind).0, omega (arith, (pair_few i.kind).1, pair_long i.kind (x_zr regs i.rt) (x_zr regs i.rt2)), small)

-- ---- vector registers: 16 bytes, and 32 for a pair

le-vector : (n : ℕ) → length (to_le_bytes w128 n) ≡ 16
le-vector n = refl

vector_long : (n : ℕ) → length (vector_bytes n) ≡ 32
vector_long n = omega (arith, length-append (to_le_bytes w128 n) (replicate {A = ℕ} 16 0), length-replicate {A = ℕ} 16 0, le-vector n)

vector_pair_long : (a b : ℕ) → length (vector_pair_bytes a b) ≡ 32
vector_pair_long a b = omega (arith, length-append (to_le_bytes w128 a) (to_le_bytes w128 b), le-vector a, le-vector b)

vector_fit : (regs : Regs) (i : LoadStoreVector) (at : ℕ) → at < 2 ^ 64 → IsFit (vector_access regs i at)
vector_fit regs i at small = one_of i.load _ _ (omega arith, small, λ is. absurd (cc)) (omega arith, omega (arith, vector_long (vector regs i.rt)), small)

vector_pair_fit : (regs : Regs) (i : LoadStoreVectorPair) (at : ℕ) → at < 2 ^ 64 → IsFit (vector_pair_access regs i at)
vector_pair_fit regs i at small = one_of i.load _ _ (omega arith, small, λ is. absurd (cc)) (omega arith, omega (arith, vector_pair_long (vector regs i.rt) (vector regs i.rt2)), small)

-- ---- each row

pub asks_fit : (regs : Regs) (i : Instr) → IsWide regs → AsksFit (needed regs i)
asks_fit regs (instr.LoadStoreUnsigned i) wide = moved regs i.size i.transfer i.rn i.rt _ (omega arith)
asks_fit regs (instr.LoadStoreIndexed i) wide = moved regs i.size i.transfer i.rn i.rt _ (indexed i.indexing (x_sp regs i.rn) (moved_base regs i) (wide i.rn) (omega arith))
asks_fit regs (instr.LoadStoreRegister i) wide = moved regs i.size i.transfer i.rn i.rt _ (omega arith)
asks_fit regs (instr.LoadLiteral i) wide = literal_fit i.kind (literal_address regs i) (omega arith)
asks_fit regs (instr.LoadStorePair i) wide = based regs i.rn _ (pair_fit regs i _ (indexed i.indexing (x_sp regs i.rn) (moved_pair_base regs i) (wide i.rn) (omega arith)))
asks_fit regs (instr.StoreExclusive i) wide = aligned regs i.rn i.size _ (λ is. stored i.size (x_sp regs i.rn) (low_part i.size (x_zr regs i.rt)) true (wide i.rn))
asks_fit regs (instr.LoadExclusive i) wide = aligned regs i.rn i.size _ (λ is. (size_some i.size, wide i.rn, λ m. size_in_page i.size (x_sp regs i.rn) is))
asks_fit regs (instr.StoreOrdered i) wide = aligned regs i.rn i.size _ (λ is. stored i.size (x_sp regs i.rn) (low_part i.size (x_zr regs i.rt)) false (wide i.rn))
asks_fit regs (instr.LoadOrdered i) wide = aligned regs i.rn i.size _ (λ is. (size_some i.size, wide i.rn, λ m. size_in_page i.size (x_sp regs i.rn) is))
asks_fit regs (instr.CompareSwap i) wide = aligned regs i.rn i.size _ (λ is. (size_some i.size, wide i.rn, size_in_page i.size (x_sp regs i.rn) is))
asks_fit regs (instr.Atomic i) wide = aligned regs i.rn i.size _ (λ is. (size_some i.size, wide i.rn, size_in_page i.size (x_sp regs i.rn) is))
asks_fit regs (instr.LoadStoreVector i) wide = based regs i.rn _ (vector_fit regs i _ (omega arith))
asks_fit regs (instr.LoadStoreVectorPair i) wide = based regs i.rn _ (vector_pair_fit regs i _ (omega arith))
asks_fit regs (instr.Duplicate i) wide = tt
asks_fit regs instr.ClearExclusive wide = tt
asks_fit regs (instr.PcRelative i) wide = tt
asks_fit regs (instr.AddImmediate i) wide = tt
asks_fit regs (instr.LogicalImmediate i) wide = tt
asks_fit regs (instr.MoveWide i) wide = tt
asks_fit regs (instr.Bitfield i) wide = tt
asks_fit regs (instr.Extract i) wide = tt
asks_fit regs (instr.Branch i) wide = tt
asks_fit regs (instr.BranchConditional i) wide = tt
asks_fit regs (instr.CompareBranch i) wide = tt
asks_fit regs (instr.TestBranch i) wide = tt
asks_fit regs (instr.BranchRegister i) wide = tt
asks_fit regs instr.SupervisorCall wide = tt
asks_fit regs instr.Breakpoint wide = tt
asks_fit regs instr.Hint wide = tt
asks_fit regs instr.Barrier wide = tt
asks_fit regs (instr.ReadThreadPointer i) wide = tt
asks_fit regs (instr.WriteThreadPointer i) wide = tt
asks_fit regs (instr.LogicalShifted i) wide = tt
asks_fit regs (instr.AddShifted i) wide = tt
asks_fit regs (instr.AddExtended i) wide = tt
asks_fit regs (instr.AddCarry i) wide = tt
asks_fit regs (instr.ConditionalCompare i) wide = tt
asks_fit regs (instr.ConditionalSelect i) wide = tt
asks_fit regs (instr.OneSource i) wide = tt
asks_fit regs (instr.ReverseBytes i) wide = tt
asks_fit regs (instr.TwoSource i) wide = tt
asks_fit regs (instr.MultiplyAdd i) wide = tt
asks_fit regs (instr.MultiplyLong i) wide = tt
asks_fit regs (instr.MultiplyHigh i) wide = tt
