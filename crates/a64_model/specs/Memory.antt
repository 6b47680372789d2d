-- Numbers in memory: the lowest byte stands first (DDI 0487, B2.6.2, little-endian). An access has 32 bytes, of which the
-- first ones count.
use Rattle.std.specs.Prelude.{ℕ, ◌%◌, ◌^◌, List, ◌++◌, slice_index, replicate}
use Rattle.std.specs.Int.{from_le_bytes, to_le_bytes, w16, w32, w64}
use Rattle.a64_model.specs.Arithmetic.{low}
use Rattle.a64_model.specs.Shifts.{sign_extended}
use Rattle.a64_model.specs.declared.operands.Size.{Size}
use Rattle.a64_model.specs.declared.operands.Size.TheVariants.{Byte, Half, Word, Double}
use Rattle.a64_model.specs.declared.operands.Width.TheVariants.{W}
use Rattle.a64_model.specs.declared.operands.Transfer.{Transfer}
use Rattle.a64_model.specs.declared.operands.Transfer.TheVariants as transfers
use Rattle.a64_model.specs.declared.operands.PairKind.{PairKind}
use Rattle.a64_model.specs.declared.operands.PairKind.TheVariants as pair
use Rattle.a64_model.specs.declared.operands.LiteralKind.{LiteralKind}
use Rattle.a64_model.specs.declared.operands.LiteralKind.TheVariants as literal

-- the number of bytes of an access of one register
abbrev pub size_bytes : Size → ℕ
size_bytes Byte = 1
size_bytes Half = 2
size_bytes Word = 4
size_bytes Double = 8

-- the number that the first bytes are
abbrev pub number_of : Size → List ℕ → ℕ
number_of Byte bytes = slice_index bytes 0
number_of Half bytes = from_le_bytes w16 bytes
number_of Word bytes = from_le_bytes w32 bytes
number_of Double bytes = from_le_bytes w64 bytes

-- SignExtend of a number of this size to 64 bits
abbrev pub signed_number : Size → ℕ → ℕ
signed_number Byte n = sign_extended 8 n
signed_number Half n = sign_extended 16 n
signed_number Word n = sign_extended 32 n
signed_number Double n = n

-- the part of a register that an access of this size moves
abbrev pub low_part : Size → ℕ → ℕ
low_part Byte n = n % 2 ^ 8
low_part Half n = n % 2 ^ 16
low_part Word n = n % 2 ^ 32
low_part Double n = n

-- the 8 bytes of a number, and zeros
abbrev pub bytes_of : ℕ → List ℕ
bytes_of n = to_le_bytes w64 n ++ replicate 24 0

-- what a load of one register leaves in it
abbrev pub loaded : Size → Transfer → List ℕ → ℕ
loaded s transfers.LoadSigned64 bytes = signed_number s (number_of s bytes)
loaded s transfers.LoadSigned32 bytes = low W (signed_number s (number_of s bytes))
loaded s _ bytes = number_of s bytes

-- the size of a literal
abbrev pub literal_size : LiteralKind → Size
literal_size literal.Double = Double
literal_size _ = Word

-- what a load of a literal leaves in a register
abbrev pub literal_loaded : LiteralKind → List ℕ → ℕ
literal_loaded literal.Double bytes = number_of Double bytes
literal_loaded literal.SignedWord bytes = signed_number Word (number_of Word bytes)
literal_loaded _ bytes = number_of Word bytes

-- the number of bytes of each register of a pair
abbrev pub pair_size : PairKind → ℕ
pair_size pair.Double = 8
pair_size _ = 4

-- the bytes of a pair of registers, the first one first
abbrev pub pair_bytes : PairKind → ℕ → ℕ → List ℕ
pair_bytes pair.Double a b = to_le_bytes w64 a ++ to_le_bytes w64 b ++ replicate 16 0
pair_bytes _ a b = to_le_bytes w32 (a % 2 ^ 32) ++ to_le_bytes w32 (b % 2 ^ 32) ++ replicate 24 0

-- what a load of a pair leaves in one of its registers, whose bytes stand first
abbrev pub pair_loaded : PairKind → List ℕ → ℕ
pair_loaded pair.Word bytes = from_le_bytes w32 bytes
pair_loaded pair.SignedWord bytes = sign_extended 32 (from_le_bytes w32 bytes)
pair_loaded pair.Double bytes = from_le_bytes w64 bytes
