-- FileEffects: descriptors, open files, pipes, counters and epolls. A new one has the least number that no living one of its
-- kind has. An open file lives while a descriptor or a call's hold names it, a pipe while one of its ends lives, and a
-- counter or an epoll while its open file lives. The interests in an open file end with it. Source: open(2), close(2),
-- pipe(2), eventfd(2), epoll(7).
use Rattle.std.proofs.Math.Bool.{not}
use Rattle.std.specs.List.{list_any}
use Rattle.std.specs.Option.{option_map}
use Rattle.std.specs.Prelude.{Bool, List, None, Option, Some, [], false, if◌then◌else◌, ℕ, ◌&&◌, ◌+◌, ◌-◌, ◌==◌, ◌||◌}
use Rattle.lx_machine.specs.Interests.{armed_on, without_interests}
use Rattle.lx_machine.specs.Lists.{at_place, with_place, without_place}
use Rattle.lx_machine.specs.declared.files.Descriptor.{Descriptor}
use Rattle.lx_machine.specs.declared.files.FileKind.{FileKind}
use Rattle.lx_machine.specs.declared.files.Files.{Files}
use Rattle.lx_machine.specs.declared.files.NumberedFile.{NumberedFile}
use Rattle.lx_machine.specs.declared.files.OpenFile.{OpenFile}
use Rattle.lx_machine.specs.declared.files.FileKind.TheVariants as kind

-- ---- what is open

-- an open file with its number
abbrev pub numbered : ℕ → OpenFile → NumberedFile
numbered number f = record { number = number; file = f }

-- the open file of this number, if there is one
abbrev pub numbered_at : Files → ℕ → Option NumberedFile
numbered_at F number = option_map (numbered number) (at_place F.files number)

-- a descriptor names this open file
abbrev pub names : ℕ → Option Descriptor → Bool
names file None = false
names file (Some d) = d.file == file

-- an open file that no descriptor and no hold names any more
abbrev pub is_unnamed : Files → NumberedFile → Bool
is_unnamed F f = (f.file.holds == 0) && not (list_any (names f.number) F.descriptors)

abbrev pub is_read_end : ℕ → FileKind → Bool
is_read_end pipe (kind.PipeRead p) = p == pipe
is_read_end pipe _ = false

abbrev pub is_write_end : ℕ → FileKind → Bool
is_write_end pipe (kind.PipeWrite p) = p == pipe
is_write_end pipe _ = false

abbrev pub is_open_as : (FileKind → Bool) → Option OpenFile → Bool
is_open_as test None = false
is_open_as test (Some f) = test f.kind

-- the pipe has a reader; a writer
abbrev pub has_reader : Files → ℕ → Bool
has_reader F pipe = list_any (is_open_as (is_read_end pipe)) F.files

abbrev pub has_writer : Files → ℕ → Bool
has_writer F pipe = list_any (is_open_as (is_write_end pipe)) F.files

-- what a pipe holds, and nothing where there is none
abbrev pub held_in : Option (List ℕ) → List ℕ
held_in None = []
held_in (Some bytes) = bytes

-- ---- the end of an open file

-- the pipe is gone where neither of its ends lives
abbrev pub without_pipe : Files → ℕ → Files
without_pipe F pipe = if has_reader F pipe || has_writer F pipe then F else record F { pipes = without_place F.pipes pipe }

-- what an open file of this kind was is gone with it, and the end of an end of a pipe arms the interests in the other end
abbrev pub after_end_of : FileKind → Files → Files
after_end_of (kind.PipeRead p) F = without_pipe (armed_on (kind.PipeWrite p) F) p
after_end_of (kind.PipeWrite p) F = without_pipe (armed_on (kind.PipeRead p) F) p
after_end_of (kind.Counter n) F = record F { counters = without_place F.counters n }
after_end_of (kind.Epoll n) F = record F { epolls = without_place F.epolls n }
after_end_of _ F = F

-- the open file is gone, with the interests in it
abbrev pub without_file : Files → ℕ → FileKind → Files
without_file F file k = after_end_of k (without_interests file (record F { files = without_place F.files file }))

-- the open file ends where nothing names it any more
abbrev pub ended_if_unnamed : Files → NumberedFile → Files
ended_if_unnamed F f = if is_unnamed F f then without_file F f.number f.file.kind else F

abbrev pub closed_if_unnamed_as : Files → Option NumberedFile → Files
closed_if_unnamed_as F None = F
closed_if_unnamed_as F (Some f) = ended_if_unnamed F f

abbrev pub closed_if_unnamed : Files → ℕ → Files
closed_if_unnamed F file = closed_if_unnamed_as F (numbered_at F file)

-- ---- holds

abbrev pub held_once_more : OpenFile → OpenFile
held_once_more f = record f { holds = f.holds + 1 }

abbrev pub held_once_less : OpenFile → OpenFile
held_once_less f = record f { holds = f.holds - 1 }

-- a call holds the open file
abbrev pub with_hold : Files → NumberedFile → Files
with_hold F f = record F { files = with_place F.files f.number (held_once_more f.file) }

-- a call gives the open file back
abbrev pub given_back_as : Files → ℕ → Option OpenFile → Files
given_back_as F file None = F
given_back_as F file (Some f) = closed_if_unnamed (record F { files = with_place F.files file (held_once_less f) }) file

abbrev pub given_back : Files → ℕ → Files
given_back F file = given_back_as F file (at_place F.files file)

-- ---- descriptors

abbrev pub descriptor : ℕ → Bool → Descriptor
descriptor file close_on_exec = record { file = file; close_on_exec = close_on_exec }

-- a descriptor names the open file
abbrev pub with_descriptor : Files → ℕ → Descriptor → Files
with_descriptor F number d = record F { descriptors = with_place F.descriptors number d }

-- a descriptor is closed
abbrev pub closed_as : Files → ℕ → Option Descriptor → Files
closed_as F number None = F
closed_as F number (Some d) = closed_if_unnamed (record F { descriptors = without_place F.descriptors number }) d.file

abbrev pub closed : Files → ℕ → Files
closed F number = closed_as F number (at_place F.descriptors number)

-- a new open file
abbrev pub with_file : Files → ℕ → FileKind → Bool → Files
with_file F file k nonblocking = record F { files = with_place F.files file (record { kind = k; nonblocking = nonblocking; holds = 0 }) }
