-- The interests of an epoll, and how they change. An interest is named by its open file and the descriptor for which it was
-- added. Source: epoll(7), epoll_ctl(2).
use Rattle.std.proofs.Math.Bool.{not}
use Rattle.std.specs.List.{list_any}
use Rattle.std.specs.Option.{option_map}
use Rattle.std.specs.Prelude.{Bool, List, None, Option, Some, drop, false, filter, if◌then◌else◌, map, true, ℕ, ◌&&◌, ◌==◌}
use Rattle.linux_abi.specs.EpollBits.{is_edge, is_one_shot}
use Rattle.lx_machine.specs.Lists.{at_place}
use Rattle.lx_machine.specs.declared.files.FileKind.{FileKind}
use Rattle.lx_machine.specs.declared.files.Files.{Files}
use Rattle.lx_machine.specs.declared.files.Interest.{Interest}
use Rattle.lx_machine.specs.declared.files.OpenFile.{OpenFile}
use Rattle.lx_machine.specs.declared.label.LxSide.{LxSide}
use Rattle.lx_machine.specs.declared.label.Pick.{Pick}
use Rattle.lx_machine.specs.declared.files.FileKind.TheVariants as kind
use Rattle.lx_machine.specs.declared.label.LxSide.TheVariants as side

-- ---- names

-- the interest has this name
abbrev pub is_named : ℕ → ℕ → Interest → Bool
is_named file descriptor i = (i.file == file) && (i.descriptor == descriptor)

-- an interest has the name of this one
abbrev pub has_name_of : Interest → Interest → Bool
has_name_of i = is_named i.file i.descriptor

-- an interest of this name stands
abbrev pub stands : ℕ → ℕ → List Interest → Bool
stands file descriptor is = list_any (is_named file descriptor) is

-- the interests with this one where one of its name stood
abbrev pub in_place_of : Interest → Interest → Interest
in_place_of new i = if is_named new.file new.descriptor i then new else i

abbrev pub changed : Interest → List Interest → List Interest
changed new is = map (in_place_of new) is

-- the interests without the one of this name
abbrev pub is_other : ℕ → ℕ → Interest → Bool
is_other file descriptor i = not (is_named file descriptor i)

abbrev pub without_interest : ℕ → ℕ → List Interest → List Interest
without_interest file descriptor is = filter (is_other file descriptor) is

-- the interests without those in this open file
abbrev pub is_elsewhere : ℕ → Interest → Bool
is_elsewhere file i = not (i.file == file)

abbrev pub without_those_in : ℕ → List Interest → List Interest
without_those_in file is = filter (is_elsewhere file) is

-- ---- reports

-- an interest that has been reported: an edge is disarmed, and one of one shot is disabled
abbrev pub reported_once : Interest → Interest
reported_once i = record i { armed = i.armed && not (is_edge i.asked); enabled = i.enabled && not (is_one_shot i.asked) }

-- the interest is among those that are picked
abbrev pub is_picked : List Pick → Interest → Bool
is_picked picks i = list_any (λ p. is_named p.file p.descriptor i) picks

abbrev pub if_reported : List Pick → Interest → Interest
if_reported picks i = if is_picked picks i then reported_once i else i

-- the interests after these have been reported
abbrev pub after_report : List Pick → List Interest → List Interest
after_report picks is = map (if_reported picks) is

-- ---- arming

abbrev pub is_side : LxSide → LxSide → Bool
is_side side.Out side.Out = true
is_side side.Err side.Err = true
is_side a b = false

-- an open file is exactly this: the input, this console, this end of this pipe, this counter, this epoll
abbrev pub is_kind : FileKind → FileKind → Bool
is_kind kind.Input kind.Input = true
is_kind (kind.Console a) (kind.Console b) = is_side a b
is_kind (kind.PipeRead p) (kind.PipeRead q) = p == q
is_kind (kind.PipeWrite p) (kind.PipeWrite q) = p == q
is_kind (kind.Counter m) (kind.Counter n) = m == n
is_kind (kind.Epoll m) (kind.Epoll n) = m == n
is_kind a b = false

abbrev pub is_open_of : FileKind → Option OpenFile → Bool
is_open_of k None = false
is_open_of k (Some f) = is_kind k f.kind

-- an interest, armed where its open file is this
abbrev pub if_armed : FileKind → List (Option OpenFile) → Interest → Interest
if_armed k files i = if is_open_of k (at_place files i.file) then record i { armed = true } else i

abbrev pub armed_for : FileKind → List (Option OpenFile) → List Interest → List Interest
armed_for k files is = map (if_armed k files) is

-- ---- all epolls

-- the interests whose open file is this are armed, in every epoll
abbrev pub armed_on : FileKind → Files → Files
armed_on k F = record F { epolls = map (option_map (armed_for k F.files)) F.epolls }

-- the interests in this open file are gone from every epoll
abbrev pub without_interests : ℕ → Files → Files
without_interests file F = record F { epolls = map (option_map (without_those_in file)) F.epolls }

-- what a console room holds
abbrev pub side_holds : Files → LxSide → List ℕ
side_holds F side.Out = F.out
side_holds F side.Err = F.err

abbrev pub without_first_of : Files → LxSide → ℕ → Files
without_first_of F side.Out n = record F { out = drop n F.out }
without_first_of F side.Err n = record F { err = drop n F.err }

-- Drain: the first n bytes of a console room are gone, which counts as a read of the room
abbrev pub drained_side : Files → LxSide → ℕ → Files
drained_side F which n = armed_on (kind.Console which) (without_first_of F which n)
