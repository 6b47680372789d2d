-- Vectors. Source: readv(2): struct iovec.
use Rattle.lx_machine.specs.Transfers.{fetch_first}
use Rattle.lx_machine.specs.declared.calls.Stage.{Stage}
use Rattle.std.specs.List.{list_any}
use Rattle.std.specs.Prelude.{Bool, List, None, Option, Some, [], drop, if◌then◌else◌, length, nat_le, nat_lt, suc, zero, ℕ, ◌*◌, ◌==◌, ◌^◌, ◌∷◌}
use Rattle.linux_abi.specs.declared.errno.LinuxErrno.{LinuxErrno}
use Rattle.lx_machine.specs.Calls.{argument, low_argument, refused}
use Rattle.lx_machine.specs.Pieces.{clipped, piece}
use Rattle.lx_machine.specs.declared.calls.LxCall.{LxCall}
use Rattle.lx_machine.specs.declared.calls.Piece.{Piece}
use Rattle.places.specs.Places.{number_at}
use Rattle.linux_abi.specs.declared.errno.LinuxErrno.TheVariants as errno
use Rattle.lx_machine.specs.declared.calls.Stage.TheVariants as stage

-- the most vectors (IOV_MAX)
abbrev pub most_vectors : ℕ
most_vectors = 1024

-- readv(2), writev(2)
abbrev pub vector_refusals : LxCall → List (Bool × LinuxErrno)
vector_refusals c = (nat_lt most_vectors (low_argument c 2), errno.EINVAL) ∷ []

-- so many vectors, one after the other, as far as the bytes reach
abbrev pub vectors : ℕ → List ℕ → List Piece
vectors zero bytes = []
vectors (suc n) bytes =
    if nat_lt (length bytes) 16 then [] else (piece (number_at bytes 0 8) (number_at bytes 8 8) ∷ vectors n (drop 16 bytes))

-- some length is negative as a signed number
abbrev pub has_negative : List Piece → Bool
has_negative pieces = list_any (λ p. nat_le (2 ^ 63) p.len) pieces

-- ---- shape

-- the open file of a readv is held, its vectors are copied in, and then its bytes move
abbrev pub readv_stage : LxCall → Option ℕ → Stage
readv_stage c None = stage.Hold
readv_stage c (Some file) = if c.fetched == 0 then fetch_first c.pieces else stage.Move

-- the vectors are read: one with a negative length refuses the call, and else the first 65,536 bytes are copied
abbrev pub with_vectors : LxCall → List Piece → LxCall
with_vectors c pieces = if has_negative pieces then refused c errno.EINVAL else record c { pieces = clipped 65536 pieces; bytes = [] }

-- the first piece that a readv or a writev fetches are its vectors
abbrev pub vectors_fetched : LxCall → LxCall
vectors_fetched c = if c.fetched == 1 then with_vectors c (vectors (low_argument c 2) c.bytes) else c

-- the piece with the vectors, of 16 bytes each
abbrev pub vector_pieces : LxCall → List Piece
vector_pieces c = clipped 65536 (piece (argument c 1) (low_argument c 2 * 16) ∷ [])
