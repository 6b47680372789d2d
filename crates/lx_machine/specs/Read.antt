-- Move of read and readv. Source: read(2), readv(2), pipe(7), eventfd(2).
use Rattle.lx_machine.specs.declared.calls.Stage.{Stage}
use Rattle.std.specs.Prelude.{List, None, Option, Some, [], drop, if◌then◌else◌, length, nat_lt, take, ℕ, ◌-◌, ◌==◌, ◌∷◌}
use Rattle.lx_machine.specs.Calls.{answered_with}
use Rattle.lx_machine.specs.Files.{has_writer}
use Rattle.lx_machine.specs.Interests.{armed_on}
use Rattle.lx_machine.specs.Lists.{at_place, bind, with_place}
use Rattle.lx_machine.specs.Pieces.{total}
use Rattle.lx_machine.specs.Transfers.{TransferOutcome, ends_refused, ends_with, gives_back, waits}
use Rattle.lx_machine.specs.declared.calls.LxCall.{LxCall}
use Rattle.lx_machine.specs.declared.files.Counter.{Counter}
use Rattle.lx_machine.specs.declared.files.FileKind.{FileKind}
use Rattle.lx_machine.specs.declared.files.Files.{Files}
use Rattle.lx_machine.specs.declared.files.NumberedFile.{NumberedFile}
use Rattle.places.specs.Places.{bytes_of}
use Rattle.linux_abi.specs.declared.errno.LinuxErrno.TheVariants as errno
use Rattle.lx_machine.specs.declared.files.FileKind.TheVariants as kind
use Rattle.lx_machine.specs.declared.calls.Stage.TheVariants as stage

-- ---- reads

-- a pipe with these bytes
abbrev pub with_pipe : Files → ℕ → List ℕ → Files
with_pipe F p bytes = record F { pipes = with_place F.pipes p bytes }

-- a read that ends with these bytes, which are then stored
abbrev pub reads_bytes : Files → LxCall → ℕ → List ℕ → Option TransferOutcome
reads_bytes F c file bytes = Some (gives_back F (answered_with c (length bytes) c.pieces bytes) file)

-- a read from a pipe that holds these bytes, which arms the interests in its write end: none held is the end where no
-- writer is left
abbrev pub read_pipe : Files → LxCall → NumberedFile → ℕ → List ℕ → Option TransferOutcome
read_pipe F c f p [] = if has_writer F p then waits F c f else ends_with F c f.number 0
read_pipe F c f p (b ∷ bs) =
    let most = total c.pieces in
    reads_bytes (armed_on (kind.PipeWrite p) (with_pipe F p (drop most (b ∷ bs)))) c f.number (take most (b ∷ bs))

-- a read from the input
abbrev pub read_input : Files → LxCall → ℕ → Option TransferOutcome
read_input F c file =
    let most = total c.pieces in
    reads_bytes (record F { input = drop most F.input }) c file (take most F.input)

-- a read from a counter: its value, or 1 of it, in 8 bytes
abbrev pub counted : Counter → ℕ
counted n = if n.semaphore then 1 else n.value

abbrev pub counted_down : Counter → Counter
counted_down n = record n { value = n.value - counted n }

-- a counter after a read or a write, which arms the interests in it
abbrev pub with_counter : Files → ℕ → Counter → Files
with_counter F number n = armed_on (kind.Counter number) (record F { counters = with_place F.counters number n })

abbrev pub read_counter : Files → LxCall → NumberedFile → ℕ → Counter → Option TransferOutcome
read_counter F c f number n =
    if nat_lt (total c.pieces) 8 then ends_refused F c f.number errno.EINVAL else (
    if n.value == 0 then waits F c f else reads_bytes (with_counter F number (counted_down n)) c f.number (bytes_of (counted n) 8))

-- a read of no bytes answers 0, except on a counter
abbrev pub unless_empty : ℕ → Files → LxCall → ℕ → Option TransferOutcome → Option TransferOutcome
unless_empty count F c file next = if count == 0 then ends_with F c file 0 else next

abbrev pub read_move : Files → LxCall → NumberedFile → FileKind → Option TransferOutcome
read_move F c f (kind.Counter n) = bind (at_place F.counters n) (read_counter F c f n)
read_move F c f kind.Input = unless_empty (total c.pieces) F c f.number (read_input F c f.number)
read_move F c f (kind.PipeRead p) = unless_empty (total c.pieces) F c f.number (bind (at_place F.pipes p) (read_pipe F c f p))
read_move F c f _ = None

-- ---- shape

-- the open file is held, and then the bytes move
abbrev pub read_stage : LxCall → Option ℕ → Stage
read_stage c None = stage.Hold
read_stage c (Some file) = stage.Move
