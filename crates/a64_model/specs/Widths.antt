-- The widths of the fields of an instruction, and the conditions of its row.
use Rattle.std.specs.Prelude.{◌*◌, ◌^◌, ◌<◌, ◌≤◌, Bool, true, false, IsTrue}
use Rattle.a64_model.specs.BitMasks.{is_pattern}
use Rattle.a64_model.specs.Operands.{width_bits}
use Rattle.a64_model.specs.LoadsStores.{is_offset, may_write_back, may_pair, may_take_status}
use Rattle.a64_model.specs.VectorRows.{may_duplicate}
use Rattle.a64_model.specs.declared.instr.Instr.{Instr}
use Rattle.a64_model.specs.declared.instr.Instr.TheVariants as instr
use Rattle.a64_model.specs.declared.operands.Comparand.{Comparand}
use Rattle.a64_model.specs.declared.operands.Comparand.TheVariants as comparand
use Rattle.a64_model.specs.declared.operands.Extend.{Extend}
use Rattle.a64_model.specs.declared.operands.Extend.TheVariants as extends
use Rattle.a64_model.specs.declared.operands.ShiftKind.{ShiftKind}
use Rattle.a64_model.specs.declared.operands.ShiftKind.TheVariants as shifts
use Rattle.a64_model.specs.declared.operands.Size.{Size}
use Rattle.a64_model.specs.declared.operands.Size.TheVariants.{Word, Double}
use Rattle.a64_model.specs.declared.operands.Transfer.{Transfer}
use Rattle.a64_model.specs.declared.operands.Transfer.TheVariants as transfers
use Rattle.a64_model.specs.declared.operands.PairKind.{PairKind}
use Rattle.a64_model.specs.declared.operands.PairKind.TheVariants as pairs

-- a shift that is no rotation
abbrev pub is_plain_shift : ShiftKind → Bool
is_plain_shift shifts.RotateRight = false
is_plain_shift _ = true

-- an extension of 32 or 64 bits
abbrev pub is_wide_extend : Extend → Bool
is_wide_extend extends.UnsignedWord = true
is_wide_extend extends.UnsignedDouble = true
is_wide_extend extends.SignedWord = true
is_wide_extend extends.SignedDouble = true
is_wide_extend _ = false

-- an immediate comparand has five bits
abbrev pub HasComparandWidth : Comparand → Type 0
HasComparandWidth (comparand.Register r) = Unit {0}
HasComparandWidth (comparand.Immediate n) = n < 2 ^ 5

-- an access of this size can be done so, in a form that has prefetches or has not
abbrev pub may_transfer : Size → Transfer → Bool → Bool
may_transfer Double transfers.LoadSigned64 prefetches = false
may_transfer Double transfers.LoadSigned32 prefetches = false
may_transfer Double transfers.Prefetch prefetches = prefetches
may_transfer Word transfers.LoadSigned32 prefetches = false
may_transfer _ transfers.Prefetch prefetches = false
may_transfer _ _ prefetches = true

-- only a load has a sign
abbrev pub is_pair_kind : PairKind → Bool → Bool
is_pair_kind pairs.SignedWord load = load
is_pair_kind _ load = true

-- the fields have the widths of their row and meet its condition
abbrev pub HasWidths : Instr → Type 0
HasWidths (instr.PcRelative i) = i.imm21 < 2 ^ 21
HasWidths (instr.AddImmediate i) = i.imm12 < 2 ^ 12
HasWidths (instr.LogicalImmediate i) = (i.n < 2) × (i.immr < 2 ^ 6) × (i.imms < 2 ^ 6) × IsTrue (is_pattern i.width i.n i.imms)
HasWidths (instr.MoveWide i) = (i.imm16 < 2 ^ 16) × (i.hw * 16 < width_bits i.width)
HasWidths (instr.Bitfield i) = (i.immr < width_bits i.width) × (i.imms < width_bits i.width)
HasWidths (instr.Extract i) = i.imms < width_bits i.width
HasWidths (instr.Branch i) = i.imm26 < 2 ^ 26
HasWidths (instr.BranchConditional i) = i.imm19 < 2 ^ 19
HasWidths (instr.CompareBranch i) = i.imm19 < 2 ^ 19
HasWidths (instr.TestBranch i) = (i.bit_number < 64) × (i.imm14 < 2 ^ 14)
HasWidths (instr.LogicalShifted i) = i.amount < width_bits i.width
HasWidths (instr.AddShifted i) = IsTrue (is_plain_shift i.shift) × (i.amount < width_bits i.width)
HasWidths (instr.AddExtended i) = i.amount ≤ 4
HasWidths (instr.ConditionalCompare i) = HasComparandWidth i.comparand × (i.nzcv < 2 ^ 4)
HasWidths (instr.LoadStoreUnsigned i) = (i.imm12 < 2 ^ 12) × IsTrue (may_transfer i.size i.transfer true)
HasWidths (instr.LoadStoreIndexed i) =
    (i.imm9 < 2 ^ 9) × IsTrue (may_transfer i.size i.transfer (is_offset i.indexing)) × IsTrue (may_write_back i.indexing i.rn i.rt)
HasWidths (instr.LoadStoreRegister i) = IsTrue (may_transfer i.size i.transfer true) × IsTrue (is_wide_extend i.extend)
HasWidths (instr.LoadLiteral i) = i.imm19 < 2 ^ 19
HasWidths (instr.LoadStorePair i) =
    (i.imm7 < 2 ^ 7) × IsTrue (is_pair_kind i.kind i.load) × IsTrue (may_write_back i.indexing i.rn i.rt)
    × IsTrue (may_write_back i.indexing i.rn i.rt2) × IsTrue (may_pair i.load i.rt i.rt2)
HasWidths (instr.StoreExclusive i) = IsTrue (may_take_status i.rs i.rt i.rn)
HasWidths (instr.LoadStoreVector i) = i.imm12 < 2 ^ 12
HasWidths (instr.LoadStoreVectorPair i) = (i.imm7 < 2 ^ 7) × IsTrue (may_pair i.load i.rt i.rt2)
HasWidths (instr.Duplicate i) = IsTrue (may_duplicate i.size i.whole)
HasWidths _ = Unit {0}
