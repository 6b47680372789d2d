-- A call, and what is done to it. Source: syscall(2), intro(2), errno(2), readv(2).
use Rattle.std.specs.Prelude.{ℕ, ◌+◌, ◌%◌, ◌^◌, List, [], ◌++◌, drop, replicate, slice_index, Option, Some, None}
use Rattle.bsd_abi.specs.declared.errno.BsdErrno.{BsdErrno}
use Rattle.lx_machine.specs.Pieces.{behind_first}
use Rattle.lx_machine.specs.declared.calls.Piece.{Piece}
use Rattle.bsd_thread.specs.declared.call.Answer.{Answer}
use Rattle.bsd_thread.specs.declared.call.Answer.TheVariants.{Error}
use Rattle.bsd_thread.specs.declared.call.Call.{Call}

-- a call of which nothing has been done
abbrev pub fresh : ℕ → List ℕ → Call
fresh number arguments = record {
  number = number;
  arguments = arguments;
  fetched = 0;
  pieces = [];
  bytes = [];
  moved = 0;
  held = None;
  deadline = None;
  child = None;
  death = None;
  answer = None;
  kept = None;
  counted = 0;
  key = 0;
  to = 0;
  there = 0;
  carry = [];
  places = [];
  queued = 0;
  refusal = None;
  pi_first = None;
}

-- what stands in a thread that was in no call yet
abbrev pub no_call : Call
no_call = fresh 0 (replicate 6 0)

-- an argument whole, and its low 32 bits, unsigned
abbrev pub argument : Call → ℕ → ℕ
argument c i = slice_index c.arguments i

abbrev pub low_argument : Call → ℕ → ℕ
low_argument c i = argument c i % 2 ^ 32

-- it has these pieces to copy
abbrev pub copies : Call → List Piece → Call
copies c pieces = record c { pieces = pieces }

-- it has this answer, and nothing to store
abbrev pub answers : Call → Answer → Call
answers c a = record c { answer = Some a; pieces = []; bytes = [] }

-- it has this answer, and these bytes to store
abbrev pub answers_with : Call → Answer → List Piece → List ℕ → Call
answers_with c a pieces bytes = record c { answer = Some a; pieces = pieces; bytes = bytes }

-- it is refused
abbrev pub refuses : Call → BsdErrno → Call
refuses c e = answers c (Error e)

-- it is refused at its entry, or fetches its pieces
abbrev pub refuses_or_copies : Call → Option BsdErrno → List Piece → Call
refuses_or_copies c (Some e) pieces = refuses c e
refuses_or_copies c None pieces = copies c pieces

-- one piece more has been fetched, with its bytes where they belong
abbrev pub passes_fetched : Call → Call
passes_fetched c = record c { fetched = c.fetched + 1; pieces = behind_first c.pieces }

-- its bytes came behind those that were there
abbrev pub has_fetched : Call → List ℕ → Call
has_fetched c bytes = record c { fetched = c.fetched + 1; pieces = behind_first c.pieces; bytes = c.bytes ++ bytes }

-- a piece has been stored, to which the first bytes went
abbrev pub has_stored : Call → ℕ → Call
has_stored c len = record c { pieces = behind_first c.pieces; bytes = drop len c.bytes }
