-- read, write, readv and writev: the hold of their open file, and how a move ends. Source: read(2), write(2), readv(2).
use Rattle.lx_machine.specs.Pieces.{clipped, piece}
use Rattle.lx_machine.specs.declared.calls.Piece.{Piece}
use Rattle.lx_machine.specs.declared.calls.Stage.{Stage}
use Rattle.std.specs.Prelude.{Bool, List, None, Option, Some, [], false, if◌then◌else◌, true, ℕ, ◌-◌, ◌==◌, ◌^◌, ◌∷◌}
use Rattle.linux_abi.specs.Call.{call_of}
use Rattle.linux_abi.specs.LinuxErrno.{answer_of}
use Rattle.linux_abi.specs.declared.calls.Call.{Call}
use Rattle.linux_abi.specs.declared.errno.LinuxErrno.{LinuxErrno}
use Rattle.lx_machine.specs.Calls.{answered, argument, low_argument, refused}
use Rattle.lx_machine.specs.Files.{given_back, numbered_at, with_hold}
use Rattle.lx_machine.specs.Lists.{at_place, bind}
use Rattle.lx_machine.specs.declared.calls.LxCall.{LxCall}
use Rattle.lx_machine.specs.declared.files.Descriptor.{Descriptor}
use Rattle.lx_machine.specs.declared.files.FileKind.{FileKind}
use Rattle.lx_machine.specs.declared.files.Files.{Files}
use Rattle.lx_machine.specs.declared.files.NumberedFile.{NumberedFile}
use Rattle.lx_machine.specs.declared.files.OpenFile.{OpenFile}
use Rattle.linux_abi.specs.declared.calls.Call.TheVariants as call
use Rattle.linux_abi.specs.declared.errno.LinuxErrno.TheVariants as errno
use Rattle.lx_machine.specs.declared.files.FileKind.TheVariants as kind
use Rattle.lx_machine.specs.declared.calls.Stage.TheVariants as stage

-- what a step of a transfer leaves of the files, how the call stands then, and whether its thread gets SIGPIPE
pub record TransferOutcome : Type 0 where
  pub files : Files
  pub call : LxCall
  pub is_broken : Bool

abbrev pub transfer_outcome : Files → LxCall → TransferOutcome
transfer_outcome F c = record { files = F; call = c; is_broken = false }

-- the call is refused
abbrev pub transfer_refused : Files → LxCall → LinuxErrno → TransferOutcome
transfer_refused F c e = transfer_outcome F (refused c e)

-- the call reads
abbrev pub is_read_call : Option Call → Bool
is_read_call (Some call.Read) = true
is_read_call (Some call.Readv) = true
is_read_call _ = false

abbrev pub is_read : LxCall → Bool
is_read c = is_read_call (call_of c.number)

-- ---- Hold

-- a transfer in this direction is refused by what the open file is: an epoll has no bytes, and an end of a pipe and a
-- console have one direction
abbrev pub direction_refusal : Bool → FileKind → Option LinuxErrno
direction_refusal reading (kind.Epoll n) = Some errno.EINVAL
direction_refusal reading (kind.Counter n) = None
direction_refusal true kind.Input = None
direction_refusal true (kind.PipeRead p) = None
direction_refusal true _ = Some errno.EBADF
direction_refusal false (kind.Console which) = None
direction_refusal false (kind.PipeWrite p) = None
direction_refusal false _ = Some errno.EBADF

abbrev pub hold_unless : Files → LxCall → NumberedFile → Option LinuxErrno → TransferOutcome
hold_unless F c f (Some e) = transfer_refused F c e
hold_unless F c f None = transfer_outcome (with_hold F f) (record c { held = Some f.number })

abbrev pub hold_file : Files → LxCall → Option NumberedFile → TransferOutcome
hold_file F c (Some f) = hold_unless F c f (direction_refusal (is_read c) f.file.kind)
hold_file F c None = transfer_refused F c errno.EBADF

abbrev pub hold_descriptor : Files → LxCall → Option Descriptor → TransferOutcome
hold_descriptor F c (Some d) = hold_file F c (numbered_at F d.file)
hold_descriptor F c None = transfer_refused F c errno.EBADF

-- the open file of the first argument is held, or the call is refused
abbrev pub held : Files → LxCall → TransferOutcome
held F c = hold_descriptor F c (at_place F.descriptors (low_argument c 0))

-- as many calls hold the open file of the first argument as can be counted in 32 bits
abbrev pub is_held_most : Option OpenFile → Bool
is_held_most (Some f) = f.holds == 2 ^ 32 - 1
is_held_most None = false

abbrev pub names_held_most : Files → Option Descriptor → Bool
names_held_most F (Some d) = is_held_most (at_place F.files d.file)
names_held_most F None = false

abbrev pub has_most_holds : Files → LxCall → Bool
has_most_holds F c = names_held_most F (at_place F.descriptors (low_argument c 0))

-- ---- Drop, and the end of a move: the hold is given back

abbrev pub without_hold : LxCall → LxCall
without_hold c = record c { held = None }

-- the call stands so, and has given its open file back
abbrev pub gives_back : Files → LxCall → ℕ → TransferOutcome
gives_back F c file = transfer_outcome (given_back F file) (without_hold c)

abbrev pub hold_given_back : Files → LxCall → Option TransferOutcome
hold_given_back F c = bind c.held (λ file. Some (gives_back F c file))

-- ---- Move

-- a move that ends with this number, or with this error
abbrev pub ends_with : Files → LxCall → ℕ → ℕ → Option TransferOutcome
ends_with F c file n = Some (gives_back F (answered c n) file)

abbrev pub ends_refused : Files → LxCall → ℕ → LinuxErrno → Option TransferOutcome
ends_refused F c file e = ends_with F c file (answer_of e)

-- a move that has to wait: it has no step, unless the open file is nonblocking
abbrev pub waits : Files → LxCall → NumberedFile → Option TransferOutcome
waits F c f = if f.file.nonblocking then ends_refused F c f.number errno.EAGAIN else None

-- ---- shape

-- the next piece is copied in, and then the bytes move
abbrev pub fetch_first : List Piece → Stage
fetch_first [] = stage.Move
fetch_first (p ∷ ps) = stage.Fetch p

-- what a read stores, and a write fetches: the first 65,536 bytes of its range
abbrev pub transfer_pieces : LxCall → List Piece
transfer_pieces c = clipped 65536 (piece (argument c 1) (argument c 2) ∷ [])
