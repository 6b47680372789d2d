-- epoll_ctl. Source: epoll_ctl(2).
use Rattle.std.proofs.Math.Bool.{not}
use Rattle.std.specs.Option.{option_map}
use Rattle.std.specs.Prelude.{Bool, List, None, Option, Some, [], false, if◌then◌else◌, is_some, length, nat_le, nat_lt, true, ℕ, ◌&&◌, ◌++◌, ◌==◌, ◌||◌, ◌∷◌}
use Rattle.linux_abi.specs.EpollBits.{is_exclusive}
use Rattle.linux_abi.specs.EpollOperation.{epoll_operation_of}
use Rattle.linux_abi.specs.declared.epoll.EpollOperation.{EpollOperation}
use Rattle.linux_abi.specs.declared.errno.LinuxErrno.{LinuxErrno}
use Rattle.lx_machine.specs.Calls.{argument, first_refusal, low_argument}
use Rattle.lx_machine.specs.Descriptors.{FilesOutcome, answers, refuses}
use Rattle.lx_machine.specs.Epoll.{epoll_number, interests_of, kind_of, on_epoll, told}
use Rattle.lx_machine.specs.Interests.{changed, stands, without_interest}
use Rattle.lx_machine.specs.Lists.{at_place, bind}
use Rattle.lx_machine.specs.Pieces.{piece}
use Rattle.lx_machine.specs.declared.calls.LxCall.{LxCall}
use Rattle.lx_machine.specs.declared.calls.Piece.{Piece}
use Rattle.lx_machine.specs.declared.calls.Stage.{Stage}
use Rattle.lx_machine.specs.declared.files.Files.{Files}
use Rattle.lx_machine.specs.declared.files.Interest.{Interest}
use Rattle.places.specs.Places.{number_at}
use Rattle.linux_abi.specs.declared.epoll.EpollOperation.TheVariants as operation
use Rattle.linux_abi.specs.declared.errno.LinuxErrno.TheVariants as errno
use Rattle.lx_machine.specs.declared.calls.Stage.TheVariants as stage

-- ---- epoll_ctl

abbrev pub control_of : LxCall → Option EpollOperation
control_of c = epoll_operation_of (low_argument c 1)

abbrev pub epoll_ctl_refusals : LxCall → List (Bool × LinuxErrno)
epoll_ctl_refusals c = (not (is_some (control_of c)), errno.EINVAL) ∷ []

-- an add and a change fetch the event
abbrev pub event_pieces : LxCall → Option EpollOperation → List Piece
event_pieces c (Some operation.Add) = piece (argument c 3) 16 ∷ []
event_pieces c (Some operation.Change) = piece (argument c 3) 16 ∷ []
event_pieces c _ = []

abbrev pub epoll_ctl_pieces : LxCall → List Piece
epoll_ctl_pieces c = event_pieces c (control_of c)

abbrev pub epoll_ctl_stage_of : List Piece → Stage
epoll_ctl_stage_of [] = stage.Effect
epoll_ctl_stage_of (p ∷ ps) = stage.Fetch p

abbrev pub epoll_ctl_stage : LxCall → Stage
epoll_ctl_stage c = epoll_ctl_stage_of c.pieces

-- the epoll that a descriptor names
abbrev pub epoll_of : Files → ℕ → Option ℕ
epoll_of F fd = bind (kind_of F fd) epoll_number

-- the open file of a descriptor
abbrev pub file_of : Files → ℕ → Option ℕ
file_of F fd = option_map (λ d. d.file) (at_place F.descriptors fd)

-- the bits and the data of the event that was fetched, and 0 where none was
abbrev pub fetched_number : List ℕ → ℕ → ℕ → ℕ
fetched_number bytes at len = if nat_lt (length bytes) 16 then 0 else number_at bytes at len

abbrev pub asked_of : LxCall → ℕ
asked_of c = fetched_number c.bytes 0 4

abbrev pub data_of : LxCall → ℕ
data_of c = fetched_number c.bytes 8 8

abbrev pub is_add : Option EpollOperation → Bool
is_add (Some operation.Add) = true
is_add _ = false

-- the interest that the call names stands
abbrev pub stands_in : List Interest → Option ℕ → ℕ → Bool
stands_in is None fd = false
stands_in is (Some file) fd = stands file fd is

-- what refuses a change of the descriptors: one that isn't open, one that is no epoll, an epoll in itself or in another
abbrev pub descriptor_refusals : Files → LxCall → List (Bool × LinuxErrno)
descriptor_refusals F c =
    (not (is_some (at_place F.descriptors (low_argument c 0))), errno.EBADF) ∷
    (not (is_some (at_place F.descriptors (low_argument c 2))), errno.EBADF) ∷
    (not (is_some (epoll_of F (low_argument c 0))) || (low_argument c 0 == low_argument c 2), errno.EINVAL) ∷
    (is_some (epoll_of F (low_argument c 2)), errno.ELOOP) ∷ []

-- what refuses a change of these interests
abbrev pub interest_refusals : List Interest → Option ℕ → LxCall → List (Bool × LinuxErrno)
interest_refusals is file c =
    let adds = is_add (control_of c) in
    let stood = stands_in is file (low_argument c 2) in
    (is_exclusive (asked_of c), errno.EINVAL) ∷
    (adds && stood, errno.EEXIST) ∷
    (adds && nat_le 512 (length is), errno.ENOSPC) ∷
    (not adds && not stood, errno.ENOENT) ∷ []

abbrev pub or_else : Option LinuxErrno → Option LinuxErrno → Option LinuxErrno
or_else (Some e) next = Some e
or_else None next = next

-- what refuses the change: first what its descriptors are, and then what its interests are
abbrev pub control_refusal : Files → LxCall → Option LinuxErrno
control_refusal F c =
    or_else (first_refusal (descriptor_refusals F c))
    (first_refusal (interest_refusals (interests_of F (epoll_of F (low_argument c 0))) (file_of F (low_argument c 2)) c))

-- the interest that an add or a change makes: armed where it has something to report
abbrev pub new_interest : Files → LxCall → ℕ → Interest
new_interest F c file = record {
  descriptor = low_argument c 2;
  file = file;
  asked = asked_of c;
  «data» = data_of c;
  armed = not (told F file (asked_of c) == 0);
  enabled = true;
}

abbrev pub controlled : Option EpollOperation → Interest → List Interest → List Interest
controlled (Some operation.Add) new is = is ++ new ∷ []
controlled (Some operation.Change) new is = changed new is
controlled (Some operation.Delete) new is = without_interest new.file new.descriptor is
controlled None new is = is

abbrev pub control : Files → LxCall → Option ℕ → Option ℕ → Files
control F c (Some n) (Some file) = on_epoll F n (controlled (control_of c) (new_interest F c file))
control F c _ _ = F

abbrev pub epoll_ctl_unless : Files → LxCall → Option LinuxErrno → FilesOutcome
epoll_ctl_unless F c (Some e) = refuses F c e
epoll_ctl_unless F c None = answers (control F c (epoll_of F (low_argument c 0)) (file_of F (low_argument c 2))) c 0

abbrev pub epoll_ctl : Files → LxCall → FilesOutcome
epoll_ctl F c = epoll_ctl_unless F c (control_refusal F c)
