-- A look at an open file that is no queue, and the move of the Linux machine that goes with its answer. This project's own.
use Rattle.std.specs.Prelude.{◌≡◌, ◌⊎◌, ℕ, List, [], Option, Some, None}
use Rattle.abi_map.specs.Errors.{errno_out_of}
use Rattle.lx_machine.specs.Calls.{answered, answered_with}
use Rattle.lx_machine.specs.Transfers.{TransferOutcome, ends_refused, ends_with, gives_back}
use Rattle.lx_machine.specs.Write.{breaks, write_waits, wrote}
use Rattle.lx_machine.specs.declared.calls.LxCall.{LxCall}
use Rattle.lx_machine.specs.declared.files.Files.{Files}
use Rattle.lx_machine.specs.declared.files.NumberedFile.{NumberedFile}
use Rattle.open_files.specs.declared.kinds.FileLook.{FileLook}
use Rattle.open_files.specs.declared.kinds.FileLook.TheVariants.{Moved, Wait, Refused, Broken}
use Rattle.bsd_files.specs.Look.{Look}
use Rattle.bsd_files.specs.Ops.{each_queue}
use Rattle.bsd_files.specs.State.{FilesState}
use Rattle.files_stand.specs.FilesStand.{FilesStand}

-- a read, where L are the Linux machine's files once the bytes have moved: it ends with as many bytes, it has no step where the look
-- waits, and it is refused with the same error
abbrev pub ReadMoves : Files → LxCall → ℕ → List ℕ → FileLook → Option TransferOutcome → Type 0
ReadMoves L c file bytes (Moved n) step =
    (step ≡ Some (gives_back L (answered_with c n c.pieces bytes) file)) ⊎ ((bytes ≡ []) × (step ≡ Some (gives_back L (answered c n) file)))
ReadMoves L c file bytes Wait step = step ≡ None
ReadMoves L c file bytes (Refused e) step = step ≡ ends_refused L c file (errno_out_of e)
ReadMoves L c file bytes Broken step = ⊥

-- a write: it goes on or ends behind as many bytes; one that would wait and is nonblocking answers what it has moved before, and else
-- the error; and one without a reader breaks
abbrev pub WriteMoves : Files → LxCall → NumberedFile → FileLook → Option TransferOutcome → Type 0
WriteMoves L c f (Moved n) step = (step ≡ wrote L c f n) ⊎ (step ≡ ends_with L c f.number n)
WriteMoves L c f Wait step = step ≡ None
WriteMoves L c f (Refused e) step = (step ≡ write_waits L c f) ⊎ (step ≡ ends_refused L c f.number (errno_out_of e))
WriteMoves L c f Broken step = step ≡ breaks L c f.number

-- the files after a look
abbrev pub files_after : FilesState → Look → FilesState
files_after M l = record { plain = l.plain; queues = each_queue l.ops M.queues }

-- the files after a look stand for some of the Linux machine, from which the call goes on as the look says
pub record LookStands (calls : ℕ → Option LxCall) (M : FilesState) (l : Look) (Moves : Files → FileLook → Type 0) : Type 0 where
  pub after : Files
  pub stands : FilesStand calls (files_after M l) after
  pub moves : Moves after l.answer
