-- Words on what the calls on signals fetch and store. Source: signal(7), sigprocmask(2).
use Rattle.std.proofs.Math.Bool.{not}
use Rattle.std.specs.Prelude.{Bool, List, [], bit_and, if◌then◌else◌, length, ℕ, ◌-◌, ◌==◌, ◌^◌, ◌∷◌}
use Rattle.linux_abi.specs.declared.signals.TheConstants.{SIGSET_SIZE, UNBLOCKABLE}
use Rattle.lx_machine.specs.Calls.{answered, answered_with}
use Rattle.lx_machine.specs.Pieces.{piece}
use Rattle.lx_machine.specs.declared.calls.LxCall.{LxCall}
use Rattle.lx_machine.specs.declared.calls.Piece.{Piece}
use Rattle.lx_machine.specs.declared.calls.Stage.{Stage}
use Rattle.places.specs.Places.{number_at}
use Rattle.lx_machine.specs.declared.calls.Stage.TheVariants as stage

-- ---- what the signal calls fetch and store

-- a piece at an address that is optional: 0 means none
abbrev pub optional_piece : ℕ → ℕ → List Piece
optional_piece at len = if at == 0 then [] else (piece at len ∷ [])

-- the next piece is fetched, and then the call has its effect
abbrev pub fetch_then : Stage → List Piece → Stage
fetch_then next [] = next
fetch_then next (p ∷ ps) = stage.Fetch p

-- the call answers 0 and stores these bytes at an address that is optional
abbrev pub answered_storing : LxCall → ℕ → List ℕ → LxCall
answered_storing c at bytes = if at == 0 then answered c 0 else answered_with c 0 (piece at (length bytes) ∷ []) bytes

-- the size of a set of signals is another than 8 bytes
abbrev pub is_no_set_size : ℕ → Bool
is_no_set_size size = not (size == SIGSET_SIZE)

-- ---- masks

-- SIGKILL and SIGSTOP are never blocked
abbrev pub blockable : ℕ → ℕ
blockable mask = bit_and mask (2 ^ 64 - 1 - UNBLOCKABLE)

-- ---- rt_sigsuspend(set, size)

-- the mask that a call has fetched
abbrev pub fetched_mask : LxCall → ℕ
fetched_mask c = number_at c.bytes 0 8
