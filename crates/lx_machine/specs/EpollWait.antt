-- epoll_pwait. Source: epoll_wait(2).
use Rattle.std.proofs.Math.Bool.{not}
use Rattle.std.specs.List.{list_any}
use Rattle.std.specs.Prelude.{Bool, List, None, Option, Result, Some, [], filter, if◌then◌else◌, is_some, length, map, min, nat_le, nat_lt, take, ℕ, ◌&&◌, ◌*◌, ◌+◌, ◌-◌, ◌==◌, ◌^◌, ◌||◌, ◌∷◌, ◌≡◌}
use Rattle.linux_abi.specs.declared.errno.LinuxErrno.{LinuxErrno}
use Rattle.lx_machine.specs.Answers.{Goes}
use Rattle.lx_machine.specs.Calls.{answered, answered_with, argument, low_argument, refused}
use Rattle.lx_machine.specs.Descriptors.{FilesOutcome, files_outcome, refuses}
use Rattle.lx_machine.specs.Epoll.{epoll_number, events, interests_of, is_answer, is_due, on_epoll}
use Rattle.lx_machine.specs.Files.{given_back, numbered_at, with_hold}
use Rattle.lx_machine.specs.Interests.{after_report}
use Rattle.lx_machine.specs.Lists.{at_place, bind}
use Rattle.lx_machine.specs.Pieces.{piece}
use Rattle.lx_machine.specs.declared.calls.LxCall.{LxCall}
use Rattle.lx_machine.specs.declared.calls.Piece.{Piece}
use Rattle.lx_machine.specs.declared.calls.Stage.{Stage}
use Rattle.lx_machine.specs.declared.files.Descriptor.{Descriptor}
use Rattle.lx_machine.specs.declared.files.Files.{Files}
use Rattle.lx_machine.specs.declared.files.Interest.{Interest}
use Rattle.lx_machine.specs.declared.files.NumberedFile.{NumberedFile}
use Rattle.lx_machine.specs.declared.label.Pick.{Pick}
use Rattle.lx_machine.specs.declared.refusal.LxRefusal.{LxRefusal}
use Rattle.linux_abi.specs.declared.errno.LinuxErrno.TheVariants as errno
use Rattle.lx_machine.specs.declared.calls.Stage.TheVariants as stage

-- ---- Answer

-- how many events an epoll_pwait reports at most: its argument, and no more than 4096
abbrev pub most_of : LxCall → ℕ
most_of c = min (low_argument c 2) 4096

-- ---- epoll_pwait: refusals at entry, pieces and stages

-- the most is no positive number, as a signed one of 32 bits
abbrev pub is_no_count : ℕ → Bool
is_no_count most = (most == 0) || nat_le (2 ^ 31) most

abbrev pub epoll_pwait_refusals : LxCall → List (Bool × LinuxErrno)
epoll_pwait_refusals c =
    (is_no_count (low_argument c 2), errno.EINVAL) ∷
    (not (argument c 4 == 0) && not (argument c 5 == 8), errno.EINVAL) ∷ []

-- the mask, where one is given
abbrev pub epoll_pwait_pieces : LxCall → List Piece
epoll_pwait_pieces c = if argument c 4 == 0 then [] else (piece (argument c 4) 8 ∷ [])

-- the timeout, in milliseconds, is 0 or more as a signed number of 32 bits
abbrev pub has_timeout : LxCall → Bool
has_timeout c = nat_lt (low_argument c 3) (2 ^ 31)

abbrev pub epoll_pwait_clock : LxCall → Stage
epoll_pwait_clock c = if has_timeout c && not (is_some c.deadline) then stage.Clock else stage.Move

abbrev pub epoll_pwait_held : LxCall → Option ℕ → Stage
epoll_pwait_held c None = stage.Hold
epoll_pwait_held c (Some file) = epoll_pwait_clock c

abbrev pub epoll_pwait_by : LxCall → List Piece → Stage
epoll_pwait_by c [] = epoll_pwait_held c c.held
epoll_pwait_by c (p ∷ ps) = stage.Fetch p

-- the mask is copied in, the epoll is held, the deadline is set, and events are reported
abbrev pub epoll_pwait_stage : LxCall → Stage
epoll_pwait_stage c = epoll_pwait_by c c.pieces

-- Clock: the deadline, in microseconds, which stops at 2^64 - 1
abbrev pub with_timeout : ℕ → LxCall → LxCall
with_timeout clock c = record c { deadline = Some (min (clock + 1000 * low_argument c 3) (2 ^ 64 - 1)) }

-- ---- epoll_pwait: Hold

abbrev pub hold_epoll : Files → LxCall → NumberedFile → Option ℕ → FilesOutcome
hold_epoll F c f (Some n) = files_outcome (with_hold F f) (record c { held = Some f.number })
hold_epoll F c f None = refuses F c errno.EINVAL

abbrev pub epoll_held_file : Files → LxCall → Option NumberedFile → FilesOutcome
epoll_held_file F c (Some f) = hold_epoll F c f (epoll_number f.file.kind)
epoll_held_file F c None = refuses F c errno.EBADF

abbrev pub epoll_held_as : Files → LxCall → Option Descriptor → FilesOutcome
epoll_held_as F c (Some d) = epoll_held_file F c (numbered_at F d.file)
epoll_held_as F c None = refuses F c errno.EBADF

-- the epoll of the first argument is held, or the call is refused
abbrev pub epoll_held : Files → LxCall → FilesOutcome
epoll_held F c = epoll_held_as F c (at_place F.descriptors (low_argument c 0))

-- ---- epoll_pwait: Move, Expire and Interrupt

-- the call stands so, and has given its epoll back
abbrev pub gives_epoll_back : Files → LxCall → ℕ → FilesOutcome
gives_epoll_back F c file = files_outcome (given_back F file) (record c { held = None })

-- the epoll that the call holds
abbrev pub held_epoll : Files → LxCall → Option ℕ
held_epoll F c = bind c.held (λ file. bind (at_place F.files file) (λ f. epoll_number f.kind))

-- the epoll reports these: the call answers how many, and stores their events at its second argument
abbrev pub reports : Files → LxCall → List Pick → ℕ → ℕ → List Interest → FilesOutcome
reports F c picks file n is =
    gives_epoll_back (on_epoll F n (after_report picks))
    (answered_with c (length picks) (piece (argument c 1) (16 * length picks) ∷ []) (events F is picks)) file

abbrev pub reports_if : Files → LxCall → List Pick → ℕ → ℕ → List Interest → Option FilesOutcome
reports_if F c picks file n is = if is_answer F is (most_of c) picks then Some (reports F c picks file n is) else None

abbrev pub reports_of : Files → LxCall → List Pick → ℕ → ℕ → Option FilesOutcome
reports_of F c picks file n = bind (at_place F.epolls n) (reports_if F c picks file n)

-- Move of an epoll, which reports these picks where they are an answer
abbrev pub epoll_moved : Files → LxCall → List Pick → Option FilesOutcome
epoll_moved F c picks = bind c.held (λ file. bind (held_epoll F c) (reports_of F c picks file))

-- a function that computes a step on files: it leaves what the step leaves. Where there is no such step, or memory is
-- wanting, nothing changes
abbrev pub MakesFiles : Option FilesOutcome → Files → LxCall → Files → LxCall → Result (Unit {0}) LxRefusal → Type 0
MakesFiles step F c new_files new_call result = Goes step (λ done. files_outcome new_files new_call) ((new_files ≡ F) × (new_call ≡ c)) result

-- Move has an answer: some interest is due
abbrev pub epoll_can_move : Files → LxCall → Bool
epoll_can_move F c = list_any (is_due F) (interests_of F (held_epoll F c))

-- the first due interests, at most so many, in their order
abbrev pub pick_of : Interest → Pick
pick_of i = record { file = i.file; descriptor = i.descriptor }

abbrev pub first_due : Files → ℕ → List Interest → List Pick
first_due F most is = take most (map pick_of (filter (is_due F) is))

-- what the epoll that the call holds can report first
abbrev pub first_picks : Files → LxCall → List Pick
first_picks F c = first_due F (most_of c) (interests_of F (held_epoll F c))

-- Expire: the call answers 0
abbrev pub epoll_expired : Files → LxCall → Option FilesOutcome
epoll_expired F c = bind c.held (λ file. Some (gives_epoll_back F (answered c 0) file))

-- Interrupt: the call is refused with EINTR, and never starts again
abbrev pub epoll_interrupted : Files → LxCall → Option FilesOutcome
epoll_interrupted F c = bind c.held (λ file. Some (gives_epoll_back F (refused c errno.EINTR) file))
