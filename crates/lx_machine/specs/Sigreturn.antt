-- rt_sigreturn. Source: sigreturn(2); the form of ucontext is that of Linux for arm64.
use Rattle.std.specs.Option.{unwrap_or}
use Rattle.std.specs.Prelude.{List, None, Option, [], drop, if◌then◌else◌, length, nat_lt, suc, take, zero, ℕ, ◌%◌, ◌&&◌, ◌+◌, ◌/◌, ◌==◌, ◌^◌, ◌∷◌}
use Rattle.a64_model.specs.VectorRecord.{recorded_vectors}
use Rattle.a64_model.specs.declared.regs.Regs.{Regs}
use Rattle.lx_machine.specs.Calls.{answered}
use Rattle.lx_machine.specs.Pieces.{piece}
use Rattle.lx_machine.specs.SignalCalls.{blockable}
use Rattle.lx_machine.specs.declared.calls.LxCall.{LxCall}
use Rattle.lx_machine.specs.declared.calls.Piece.{Piece}
use Rattle.lx_machine.specs.declared.calls.Stage.{Stage}
use Rattle.places.specs.Places.{number_at}
use Rattle.lx_machine.specs.declared.calls.Stage.TheVariants as stage

-- ---- rt_sigreturn

-- a thread with this sp fetches the first 992 bytes of ucontext, unless sp is not aligned or they begin outside the address space
abbrev pub sigreturn_pieces : ℕ → List Piece
sigreturn_pieces sp = if sp % 16 == 0 && nat_lt (sp + 128) (2 ^ 64) then (piece (sp + 128) 992 ∷ []) else []

-- they are fetched, and then the call has its effect; where nothing could be fetched, the guest is killed
abbrev pub sigreturn_after : ℕ → Stage
sigreturn_after fetched = if fetched == 0 then stage.Kill else stage.Effect

abbrev pub sigreturn_of : ℕ → List Piece → Stage
sigreturn_of fetched [] = sigreturn_after fetched
sigreturn_of fetched (p ∷ ps) = stage.Fetch p

abbrev pub sigreturn_stage : LxCall → Stage
sigreturn_stage c = sigreturn_of c.fetched c.pieces

-- so many numbers of 8 bytes, from a place on
unfoldable pub numbers : List ℕ → ℕ → ℕ → List ℕ
numbers bytes at zero = []
numbers bytes at (suc n) = number_at bytes at 8 ∷ numbers bytes (at + 8) n

-- the vector registers of the record at 464, if one stands there
abbrev pub record_in : List ℕ → Option (List ℕ)
record_in bytes = if nat_lt (length (drop 464 bytes)) 528 then None else recorded_vectors (take 528 (drop 464 bytes))

-- the registers that ucontext has; without a record the vector registers stay
abbrev pub restored : Regs → List ℕ → Regs
restored regs bytes = record regs {
  x = numbers bytes 184 31;
  sp = number_at bytes 432 8;
  pc = number_at bytes 440 8;
  nzcv = number_at bytes 448 8 / 2 ^ 28 % 16;
  v = unwrap_or (record_in bytes) regs.v;
}

-- the registers, the mask and the call after it: the result is the x0 of the frame
abbrev pub sigreturn_regs : Regs → LxCall → Regs
sigreturn_regs regs c = restored regs c.bytes

abbrev pub sigreturn_mask : LxCall → ℕ
sigreturn_mask c = blockable (number_at c.bytes 40 8)

abbrev pub sigreturn_call : LxCall → LxCall
sigreturn_call c = answered c (number_at c.bytes 184 8)
