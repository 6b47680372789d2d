-- Calls that have been entered: how they stand, and what follows of a result. Source: syscall(2), intro(2), errno(3).
use Rattle.std.proofs.Math.Bool.{not}
use Rattle.std.specs.Prelude.{Bool, List, None, Option, Some, [], bit_and, false, if◌then◌else◌, length, min, slice_index, ℕ, ◌%◌, ◌==◌, ◌^◌, ◌∷◌}
use Rattle.linux_abi.specs.LinuxErrno.{answer_of}
use Rattle.linux_abi.specs.declared.errno.LinuxErrno.{LinuxErrno}
use Rattle.lx_machine.specs.Pieces.{piece}
use Rattle.lx_machine.specs.declared.calls.LxCall.{LxCall}
use Rattle.lx_machine.specs.declared.calls.Piece.{Piece}
use Rattle.lx_machine.specs.declared.calls.Stage.{Stage}
use Rattle.lx_machine.specs.declared.calls.Stage.TheVariants as stage

-- an argument whole, a0 to a5
abbrev pub argument : LxCall → ℕ → ℕ
argument c i = slice_index c.arguments i

-- the low 32 bits of an argument, unsigned
abbrev pub low_argument : LxCall → ℕ → ℕ
low_argument c i = argument c i % 2 ^ 32

-- a call as SVC finds it: the number of x8 and these arguments
abbrev pub new_call : ℕ → List ℕ → LxCall
new_call number arguments = record {
  number = number;
  arguments = arguments;
  fetched = 0;
  pieces = [];
  bytes = [];
  moved = 0;
  held = None;
  deadline = None;
  waits = false;
  queued = 0;
  refusal = None;
  child = None;
  death = None;
  result = None;
  kept = None;
}

-- the call has this result, and nothing to store
abbrev pub answered : LxCall → ℕ → LxCall
answered c n = record c { result = Some n; pieces = []; bytes = [] }

-- the call has this result, and these bytes to store
abbrev pub answered_with : LxCall → ℕ → List Piece → List ℕ → LxCall
answered_with c n pieces bytes = record c { result = Some n; pieces = pieces; bytes = bytes }

-- the call waits at no futex any more
abbrev pub waits_no_more : LxCall → LxCall
waits_no_more c = record c { waits = false; queued = 0; refusal = None }

-- the call is refused
abbrev pub refused : LxCall → LinuxErrno → LxCall
refused c e = answered c (answer_of e)

-- the first test that holds refuses the call
abbrev pub first_refusal : List (Bool × LinuxErrno) → Option LinuxErrno
first_refusal [] = None
first_refusal (test ∷ tests) = if test.0 then Some test.1 else first_refusal tests

-- the flags have a bit that is not allowed
abbrev pub has_other : ℕ → ℕ → Bool
has_other allowed flags = not (bit_and flags allowed == flags)

-- what a call with a result does next: it gives its hold back, stores its bytes piece by piece, and returns
abbrev pub storing : List Piece → List ℕ → Stage
storing [] bytes = stage.Return
storing (p ∷ ps) [] = stage.Return
storing (p ∷ ps) (b ∷ bs) = stage.Store (piece p.at (min p.len (length (b ∷ bs))))

abbrev pub answered_stage : LxCall → Option ℕ → Stage
answered_stage c (Some file) = stage.Drop
answered_stage c None = storing c.pieces c.bytes
