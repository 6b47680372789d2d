-- A look in the Linux machine's terms: its moves of reads and writes (Read.antt, Write.antt of that machine) are looks at the plain
-- part of its files. Source: read(2), write(2), pipe(7), eventfd(2), epoll(7).
use Rattle.std.specs.Prelude.{◌≡◌, ℕ, ◌+◌, Bool, true, false, ◌||◌, nat_le, nat_lt, if◌then◌else◌, List, [], ◌∷◌, ◌++◌, drop, length, map, Option, Some, None}
use Rattle.std.specs.Option.{option_map}
use Rattle.bsd_abi.specs.declared.errno.BsdErrno.{BsdErrno}
use Rattle.bsd_abi.specs.declared.errno.BsdErrno.TheVariants as bsd
use Rattle.linux_abi.specs.LinuxErrno.{answer_of}
use Rattle.linux_abi.specs.declared.errno.LinuxErrno.{LinuxErrno}
use Rattle.linux_abi.specs.declared.errno.LinuxErrno.TheVariants as linux
use Rattle.lx_machine.specs.Calls.{answered, answered_with}
use Rattle.lx_machine.specs.Interests.{armed_for, without_those_in}
use Rattle.lx_machine.specs.Lists.{without_place}
use Rattle.lx_machine.specs.Pieces.{total}
use Rattle.lx_machine.specs.Read.{read_move}
use Rattle.lx_machine.specs.Transfers.{TransferOutcome, ends_refused, ends_with, gives_back, transfer_outcome}
use Rattle.lx_machine.specs.Write.{write_move}
use Rattle.lx_machine.specs.declared.calls.LxCall.{LxCall}
use Rattle.lx_machine.specs.declared.calls.Piece.{Piece}
use Rattle.lx_machine.specs.declared.files.FileKind.{FileKind}
use Rattle.lx_machine.specs.declared.files.FileKind.TheVariants as kind
use Rattle.lx_machine.specs.declared.files.Files.{Files}
use Rattle.lx_machine.specs.declared.files.Interest.{Interest}
use Rattle.lx_machine.specs.declared.files.NumberedFile.{NumberedFile}
use Rattle.open_files.specs.Plain.{plain_of}
use Rattle.open_files.specs.declared.kinds.FileLook.{FileLook}
use Rattle.open_files.specs.declared.kinds.FileLook.TheVariants.{Moved, Wait, Refused, Broken}
use Rattle.bsd_files.specs.Look.{Look, read_look, write_look}
use Rattle.bsd_files.specs.Ops.{Op, Arm, Leave, End}

-- ---- what a look leaves of the Linux machine's files

-- what happens to all queues happens to the epolls: the interests in the open files that are this are armed, those in an open file
-- that has ended are gone, an epoll has ended
abbrev pub in_epolls : Op → List (Option (List Interest)) → List (Option (List Interest))
in_epolls (Arm k f files) es = map (option_map (armed_for k files)) es
in_epolls (Leave file) es = map (option_map (without_those_in file)) es
in_epolls (End n) es = without_place es n

-- one after the other
abbrev pub each_epoll : List Op → List (Option (List Interest)) → List (Option (List Interest))
each_epoll [] es = es
each_epoll (o ∷ os) es = each_epoll os (in_epolls o es)

-- the files after a look: what stands behind what a console room held has been put into it
abbrev pub files_after : Files → Look → Files
files_after F l = record l.plain {
  epolls = each_epoll l.ops F.epolls;
  put_out = F.put_out ++ drop (length F.out) l.plain.out;
  put_err = F.put_err ++ drop (length F.err) l.plain.err;
}

-- ---- how its call stands then

-- the errors of a look are EINVAL and EAGAIN
abbrev pub refusal_of : BsdErrno → LinuxErrno
refusal_of bsd.EINVAL = linux.EINVAL
refusal_of _ = linux.EAGAIN

abbrev pub is_counter : FileKind → Bool
is_counter (kind.Counter n) = true
is_counter _ = false

-- a read that has moved bytes ends with them, and has them to store; there is no step where it waits
abbrev pub read_as : Files → LxCall → ℕ → Look → FileLook → Option TransferOutcome
read_as F c file l (Moved n) = Some (gives_back (files_after F l) (answered_with c n c.pieces l.bytes) file)
read_as F c file l (Refused e) = ends_refused (files_after F l) c file (refusal_of e)
read_as F c file l Wait = None
read_as F c file l Broken = None

abbrev pub read_by : Files → LxCall → ℕ → Look → Option TransferOutcome
read_by F c file l = read_as F c file l l.answer

-- what a write answers that ends with an error: the bytes that it has moved before, if there are any
abbrev pub so_far : LxCall → LinuxErrno → ℕ
so_far c e = if nat_lt 0 c.moved then c.moved else answer_of e

-- a write to a counter ends once it has moved, and any other where all its bytes have, or where it doesn't block; else it goes on with
-- the bytes that are left. Where its pipe has no reader its thread gets SIGPIPE
abbrev pub write_as : Files → LxCall → NumberedFile → FileKind → Look → FileLook → Option TransferOutcome
write_as F c f k l (Moved n) =
    if is_counter k || (f.file.nonblocking || nat_le (length c.bytes) n) then ends_with (files_after F l) c f.number (c.moved + n)
    else Some (transfer_outcome (files_after F l) (record c { moved = c.moved + n; bytes = drop n c.bytes }))
write_as F c f k l (Refused e) = ends_with (files_after F l) c f.number (so_far c (refusal_of e))
write_as F c f k l Broken = Some (record (gives_back (files_after F l) (answered c (so_far c linux.EPIPE)) f.number) { is_broken = true })
write_as F c f k l Wait = None

abbrev pub write_by : Files → LxCall → NumberedFile → FileKind → Look → Option TransferOutcome
write_by F c f k l = write_as F c f k l l.answer

-- ---- the law

-- a call that has no bytes to store needs no pieces for them
abbrev pub pieces_for : List ℕ → List Piece → List Piece
pieces_for [] ps = []
pieces_for (b ∷ bs) ps = ps

abbrev pub trimmed : TransferOutcome → TransferOutcome
trimmed o = record o { call = record o.call { pieces = pieces_for o.call.bytes o.call.pieces } }

-- a move of a read is a look of as many bytes as its pieces have, but for pieces that nothing is stored in
abbrev pub MovesOfReads : Type 0
MovesOfReads = (F : Files) (c : LxCall) (f : NumberedFile) (k : FileKind)
    → option_map trimmed (read_move F c f k) ≡ option_map trimmed (read_by F c f.number (read_look (plain_of F) (total c.pieces) f.file k))

-- a move of a write is a look of the bytes that it has left; a write to a counter has moved none before
abbrev pub MovesOfWrites : Type 0
MovesOfWrites = (F : Files) (c : LxCall) (f : NumberedFile) (k : FileKind) → (is_counter k ≡ true → c.moved ≡ 0)
    → write_move F c f k ≡ write_by F c f k (write_look (plain_of F) c.moved c.bytes f.file k)
