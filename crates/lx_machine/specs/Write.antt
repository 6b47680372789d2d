-- Move of write and writev. Source: write(2), writev(2), pipe(7), eventfd(2).
use Rattle.lx_machine.specs.declared.calls.Stage.{Stage}
use Rattle.std.proofs.Math.Bool.{not}
use Rattle.std.specs.Prelude.{List, None, Option, Some, drop, if◌then◌else◌, length, min, nat_le, nat_lt, take, true, ℕ, ◌&&◌, ◌++◌, ◌+◌, ◌-◌, ◌==◌, ◌^◌, ◌||◌}
use Rattle.linux_abi.specs.LinuxErrno.{answer_of}
use Rattle.lx_machine.specs.Calls.{answered}
use Rattle.lx_machine.specs.Files.{has_reader}
use Rattle.lx_machine.specs.Interests.{armed_on, side_holds}
use Rattle.lx_machine.specs.Lists.{at_place, bind}
use Rattle.lx_machine.specs.Read.{unless_empty, with_counter, with_pipe}
use Rattle.lx_machine.specs.Transfers.{TransferOutcome, ends_refused, ends_with, fetch_first, gives_back, transfer_outcome, waits}
use Rattle.lx_machine.specs.declared.calls.LxCall.{LxCall}
use Rattle.lx_machine.specs.declared.files.Counter.{Counter}
use Rattle.lx_machine.specs.declared.files.FileKind.{FileKind}
use Rattle.lx_machine.specs.declared.files.Files.{Files}
use Rattle.lx_machine.specs.declared.files.NumberedFile.{NumberedFile}
use Rattle.lx_machine.specs.declared.label.LxSide.{LxSide}
use Rattle.places.specs.Places.{number_at}
use Rattle.linux_abi.specs.declared.errno.LinuxErrno.TheVariants as errno
use Rattle.lx_machine.specs.declared.files.FileKind.TheVariants as kind
use Rattle.lx_machine.specs.declared.label.LxSide.TheVariants as side
use Rattle.lx_machine.specs.declared.calls.Stage.TheVariants as stage

-- ---- writes

-- the bytes of a write in all
abbrev pub count : LxCall → ℕ
count c = c.moved + length c.bytes

-- how many bytes now go into a room that holds so many: all or none of at most 4096 (PIPE_BUF), else what fits
abbrev pub goes_in : LxCall → ℕ → ℕ
goes_in c holds =
    let free = 65536 - holds in
    if nat_le (count c) 4096 then (if nat_le (length c.bytes) free then length c.bytes else 0) else min free (length c.bytes)

-- a write whose first n bytes have gone in: it ends where all have, or where it doesn't block, and else goes on
abbrev pub wrote : Files → LxCall → NumberedFile → ℕ → Option TransferOutcome
wrote F c f n =
    if f.file.nonblocking || nat_le (length c.bytes) n then ends_with F c f.number (c.moved + n)
    else Some (transfer_outcome F (record c { moved = c.moved + n; bytes = drop n c.bytes }))

-- a write that can move nothing waits, unless it is nonblocking: then it answers what it has moved before
abbrev pub write_waits : Files → LxCall → NumberedFile → Option TransferOutcome
write_waits F c f = if f.file.nonblocking && nat_lt 0 c.moved then ends_with F c f.number c.moved else waits F c f

-- a write to a pipe without a reader: its thread gets SIGPIPE
abbrev pub breaks : Files → LxCall → ℕ → Option TransferOutcome
breaks F c file = Some (record (gives_back F (answered c (if nat_lt 0 c.moved then c.moved else answer_of errno.EPIPE)) file) { is_broken = true })

-- a write to a pipe arms the interests in its read end
abbrev pub write_pipe : Files → LxCall → NumberedFile → ℕ → List ℕ → Option TransferOutcome
write_pipe F c f p holds =
    let n = goes_in c (length holds) in
    if not (has_reader F p) then breaks F c f.number else (
    if n == 0 then write_waits F c f else wrote (armed_on (kind.PipeRead p) (with_pipe F p (holds ++ take n c.bytes))) c f n)

-- a console room is a pipe whose reader stays; what has ever been put into it is kept too
abbrev pub into_console : Files → LxSide → List ℕ → Files
into_console F side.Out bytes = record F { out = F.out ++ bytes; put_out = F.put_out ++ bytes }
into_console F side.Err bytes = record F { err = F.err ++ bytes; put_err = F.put_err ++ bytes }

abbrev pub write_console : Files → LxCall → NumberedFile → LxSide → Option TransferOutcome
write_console F c f which =
    let n = goes_in c (length (side_holds F which)) in
    if n == 0 then write_waits F c f else wrote (into_console F which (take n c.bytes)) c f n

-- a write to a counter adds the number in its first 8 bytes: 2^64 - 1 is no number to add, and the sum stays below it
abbrev pub write_counter : Files → LxCall → NumberedFile → ℕ → Counter → Option TransferOutcome
write_counter F c f number n =
    let added = number_at c.bytes 0 8 in
    if nat_lt (length c.bytes) 8 || (added == 2 ^ 64 - 1) then ends_refused F c f.number errno.EINVAL else (
    if nat_lt (2 ^ 64 - 2) (n.value + added) then waits F c f
    else ends_with (with_counter F number (record n { value = n.value + added })) c f.number 8)

-- a write of no bytes answers 0, except on a counter
abbrev pub write_move : Files → LxCall → NumberedFile → FileKind → Option TransferOutcome
write_move F c f (kind.Counter n) = bind (at_place F.counters n) (write_counter F c f n)
write_move F c f (kind.Console which) = unless_empty (count c) F c f.number (write_console F c f which)
write_move F c f (kind.PipeWrite p) = unless_empty (count c) F c f.number (bind (at_place F.pipes p) (write_pipe F c f p))
write_move F c f _ = None

-- ---- shape

-- the open file is held, the pieces are copied in, and then the bytes move
abbrev pub write_stage : LxCall → Option ℕ → Stage
write_stage c None = stage.Hold
write_stage c (Some file) = fetch_first c.pieces
