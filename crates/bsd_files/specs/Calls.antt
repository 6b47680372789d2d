-- What the calls on descriptors and open files leave. A new open file, pipe, counter or queue has the least number that no living
-- one of its kind has. Source: open(2), dup(2), fcntl(2), pipe(2), eventfd(2), kqueue(2), close(2).
use Rattle.std.specs.Prelude.{ℕ, Bool, false, ◌&&◌, nat_le, nat_lt, [], length, Option, Some, None, Ok, Err, Result, if◌then◌else◌}
use Rattle.kqueue_core.specs.Queues.{Queue}
use Rattle.kqueue_core.specs.Reports.{pick_of}
use Rattle.kqueue_core.specs.declared.knotes.Ident.{Ident}
use Rattle.lx_machine.specs.Files.{closed as closed_files, descriptor, given_back, numbered, with_descriptor, with_file, with_hold}
use Rattle.lx_machine.specs.Interests.{drained_side, side_holds}
use Rattle.lx_machine.specs.Lists.{at_place, with_place}
use Rattle.lx_machine.specs.declared.files.Descriptor.{Descriptor}
use Rattle.lx_machine.specs.declared.files.Files.{Files}
use Rattle.lx_machine.specs.declared.files.OpenFile.{OpenFile}
use Rattle.lx_machine.specs.declared.label.LxSide.{LxSide}
use Rattle.lx_machine.specs.declared.files.FileKind.TheVariants as kind
use Rattle.bsd_files.specs.Ops.{close_ops, drain_ops, each_queue, give_ops}
use Rattle.open_files.specs.Plain.{readiness}
use Rattle.bsd_files.specs.State.{FilesState, is_awaited, queue_at}
use Rattle.bsd_files.specs.declared.closed.Closed.{Closed}
use Rattle.bsd_files.specs.declared.closed.Closed.TheVariants as closed
use Rattle.bsd_abi.specs.declared.errno.BsdErrno.{BsdErrno}
use Rattle.bsd_abi.specs.declared.errno.BsdErrno.TheVariants as errno
use Rattle.open_files.specs.declared.making.FileNumbers.{FileNumbers}

-- another plain part
abbrev pub with_plain : FilesState → Files → FilesState
with_plain S F = record S { plain = F }

-- a new queue
abbrev pub with_queue_at : FilesState → FileNumbers → FilesState
with_queue_at S at = record {
  plain = with_file S.plain at.file (kind.Epoll at.number) false;
  queues = with_place S.queues at.number (record { watches = []; flux = None });
}

-- ---- open files

-- one more hold of an open file
abbrev pub held_as : Files → ℕ → Option OpenFile → Files
held_as F file None = F
held_as F file (Some f) = with_hold F (numbered file f)

abbrev pub held : Files → ℕ → Files
held F file = held_as F file (at_place F.files file)

-- an open file, nonblocking or not
abbrev pub set_blocking_as : Files → ℕ → Bool → Option OpenFile → Files
set_blocking_as F file on None = F
set_blocking_as F file on (Some f) = record F { files = with_place F.files file (record f { nonblocking = on }) }

abbrev pub set_blocking : Files → ℕ → Bool → Files
set_blocking F file on = set_blocking_as F file on (at_place F.files file)

-- a descriptor, its close flag set or not
abbrev pub set_flag_as : Files → ℕ → Bool → Option Descriptor → Files
set_flag_as F fd on None = F
set_flag_as F fd on (Some d) = with_descriptor F fd (descriptor d.file on)

abbrev pub set_flag : Files → ℕ → Bool → Files
set_flag F fd on = set_flag_as F fd on (at_place F.descriptors fd)

-- a hold is given back, a descriptor is closed
abbrev pub dropped : FilesState → ℕ → FilesState
dropped S file = record { plain = given_back S.plain file; queues = each_queue (give_ops S.plain file) S.queues }

abbrev pub shut : FilesState → ℕ → FilesState
shut S fd = record { plain = closed_files S.plain fd; queues = each_queue (close_ops S.plain fd) S.queues }

-- what `close` answers, and what it leaves: nothing changes where the descriptor isn't open or a flux names it
abbrev pub close_answer_as : FilesState → ℕ → Option Descriptor → Result Closed BsdErrno
close_answer_as S fd None = Err errno.EBADF
close_answer_as S fd (Some d) = Ok (if is_awaited S fd then closed.Wait else closed.Done)

abbrev pub close_answer : FilesState → ℕ → Result Closed BsdErrno
close_answer S fd = close_answer_as S fd (at_place S.plain.descriptors fd)

abbrev pub after_close_as : FilesState → ℕ → Option Descriptor → FilesState
after_close_as S fd None = S
after_close_as S fd (Some d) = if is_awaited S fd then S else shut S fd

abbrev pub after_close : FilesState → ℕ → FilesState
after_close S fd = after_close_as S fd (at_place S.plain.descriptors fd)

-- so many bytes of a console room are drained
abbrev pub drained : FilesState → LxSide → ℕ → FilesState
drained S which n = record { plain = drained_side S.plain which n; queues = each_queue (drain_ops S.plain which) S.queues }

-- a console room can be drained of so many bytes
abbrev pub can_drain : Files → LxSide → ℕ → Bool
can_drain F which n = nat_lt 0 n && nat_le n (length (side_holds F which))

-- ---- queues

-- the interest that a look at a queue would report at a place, if it had room for all
abbrev pub picked_in : Files → ℕ → Option Queue → Option Ident
picked_in F at None = None
picked_in F at (Some q) = pick_of (readiness F) at q.watches

abbrev pub picked : FilesState → ℕ → ℕ → Option Ident
picked S file at = picked_in S.plain at (queue_at S file)
