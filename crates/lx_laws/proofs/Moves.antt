-- What Hold, Move, Drop and the end of a wait at a file leave of the console rooms and of the epolls.
use Rattle.std.proofs.Common.{ℕ, not, ◌&&◌, ◌||◌, List, [], ◌∷◌, ◌++◌, Option, Some, None, IfSome, if◌then◌else◌, nat_le, nat_lt, length, take, drop, ◌+◌, ◌-◌, ◌==◌, ◌^◌}
use Rattle.linux_abi.specs.declared.errno.LinuxErrno.{LinuxErrno}
use Rattle.linux_abi.specs.declared.errno.LinuxErrno.TheVariants as errno
use Rattle.lx_machine.specs.Calls.{answered, answered_with, low_argument, refused}
use Rattle.lx_machine.specs.Descriptors.{FilesOutcome}
use Rattle.lx_machine.specs.Epoll.{is_answer, on_epoll}
use Rattle.lx_machine.specs.EpollWait.{epoll_expired, epoll_held, epoll_held_as, epoll_held_file, epoll_interrupted, epoll_moved, gives_epoll_back, held_epoll, hold_epoll, most_of, reports, reports_if, reports_of}
use Rattle.lx_machine.specs.Epoll.{epoll_number}
use Rattle.lx_machine.specs.Files.{given_back, has_reader, has_writer, numbered_at}
use Rattle.lx_machine.specs.Interests.{after_report, armed_on, side_holds}
use Rattle.lx_machine.specs.Lists.{at_place, bind, with_place}
use Rattle.lx_machine.specs.Move.{interrupted, interrupted_answer, move_file, transferred}
use Rattle.lx_machine.specs.Pieces.{total}
use Rattle.lx_machine.specs.Read.{counted, counted_down, read_counter, read_input, read_move, read_pipe, reads_bytes, unless_empty, with_counter, with_pipe}
use Rattle.lx_machine.specs.Transfers.{TransferOutcome, direction_refusal, ends_refused, ends_with, gives_back, held, hold_descriptor, hold_file, hold_given_back, hold_unless, is_read, transfer_outcome, waits}
use Rattle.lx_machine.specs.Write.{breaks, count, goes_in, into_console, write_console, write_counter, write_move, write_pipe, write_waits, wrote}
use Rattle.lx_machine.specs.declared.calls.LxCall.{LxCall}
use Rattle.lx_machine.specs.declared.files.Counter.{Counter}
use Rattle.lx_machine.specs.declared.files.Descriptor.{Descriptor}
use Rattle.lx_machine.specs.declared.files.FileKind.{FileKind}
use Rattle.lx_machine.specs.declared.files.FileKind.TheVariants as kind
use Rattle.lx_machine.specs.declared.files.Files.{Files}
use Rattle.lx_machine.specs.declared.files.Interest.{Interest}
use Rattle.lx_machine.specs.declared.files.NumberedFile.{NumberedFile}
use Rattle.lx_machine.specs.declared.label.LxSide.{LxSide}
use Rattle.lx_machine.specs.declared.label.Pick.{Pick}
use Rattle.places.specs.Places.{bytes_of, number_at}
use Rattle.lx_laws.proofs.Results.{of_bind, of_if}
use Rattle.lx_laws.proofs.Apart.{keeps_report}
use Rattle.lx_laws.proofs.Controls.{on_one}
use Rattle.lx_laws.proofs.Files.{FilesTo, and_then, armed, gave_back, into, same}

-- ---- transfers

abbrev pub Transfers : Files → TransferOutcome → Type 0
Transfers F o = FilesTo F o.files

hold_checked : (F : Files) (c : LxCall) (f : NumberedFile) (o : Option LinuxErrno) → Transfers F (hold_unless F c f o)
hold_checked F c f (Some e) = same F
hold_checked F c f None = same F

hold_found : (F : Files) (c : LxCall) (o : Option NumberedFile) → Transfers F (hold_file F c o)
hold_found F c (Some f) = hold_checked F c f (direction_refusal (is_read c) f.file.kind)
hold_found F c None = same F

hold_named : (F : Files) (c : LxCall) (o : Option Descriptor) → Transfers F (hold_descriptor F c o)
hold_named F c (Some d) = hold_found F c (numbered_at F d.file)
hold_named F c None = same F

pub holds : (F : Files) (c : LxCall) → Transfers F (held F c)
holds F c = hold_named F c (at_place F.descriptors (low_argument c 0))

-- a move that ends, once the files are these
ends : (F G : Files) (c : LxCall) (file : ℕ) → FilesTo F G → Transfers F (gives_back G c file)
ends F G c file h = and_then F G (given_back G file) h (gave_back G file)

module _ (F : Files) (c : LxCall) (f : NumberedFile) where
  may_wait : IfSome (waits F c f) (Transfers F)
  may_wait = of_if (Transfers F) f.file.nonblocking (ends_refused F c f.number errno.EAGAIN) None (ends F F c f.number (same F)) tt

  not_empty : (n : ℕ) (next : Option TransferOutcome) → IfSome next (Transfers F) → IfSome (unless_empty n F c f.number next) (Transfers F)
  not_empty n next h = of_if (Transfers F) (n == 0) (ends_with F c f.number 0) next (ends F F c f.number (same F)) h

  -- ---- reads

  reads_pipe : (p : ℕ) (bytes : List ℕ) → IfSome (read_pipe F c f p bytes) (Transfers F)
  reads_pipe p [] = of_if (Transfers F) (has_writer F p) (waits F c f) (ends_with F c f.number 0) may_wait (ends F F c f.number (same F))
  reads_pipe p (b ∷ bs) =
      let G = with_pipe F p (drop (total c.pieces) (b ∷ bs)) in
      ends F (armed_on (kind.PipeWrite p) G) (answered_with c (length (take (total c.pieces) (b ∷ bs))) c.pieces (take (total c.pieces) (b ∷ bs))) f.number (armed (kind.PipeWrite p) G)

  with_number : (G : Files) (n : ℕ) (counter : Counter) → FilesTo G (with_counter G n counter)
  with_number G n counter = armed (kind.Counter n) (record G { counters = with_place G.counters n counter })

  reads_counter : (n : ℕ) (counter : Counter) → IfSome (read_counter F c f n counter) (Transfers F)
  reads_counter n counter =
      of_if (Transfers F) (nat_lt (total c.pieces) 8) (ends_refused F c f.number errno.EINVAL) (if counter.value == 0 then waits F c f else reads_bytes (with_counter F n (counted_down counter)) c f.number (bytes_of (counted counter) 8)) (ends F F c f.number (same F))
      (of_if (Transfers F) (counter.value == 0) (waits F c f) (reads_bytes (with_counter F n (counted_down counter)) c f.number (bytes_of (counted counter) 8)) may_wait
      (ends F (with_counter F n (counted_down counter)) c f.number (with_number F n (counted_down counter))))

  reads : (k : FileKind) → IfSome (read_move F c f k) (Transfers F)
  reads (kind.Counter n) = of_bind (Transfers F) (at_place F.counters n) (read_counter F c f n) (reads_counter n)
  reads kind.Input = not_empty (total c.pieces) (read_input F c f.number) (ends F (record F { input = drop (total c.pieces) F.input }) c f.number (same F))
  reads (kind.PipeRead p) = not_empty (total c.pieces) (bind (at_place F.pipes p) (read_pipe F c f p)) (of_bind (Transfers F) (at_place F.pipes p) (read_pipe F c f p) (reads_pipe p))
  reads (kind.Console which) = tt
  reads (kind.PipeWrite p) = tt
  reads (kind.Epoll n) = tt

  -- ---- writes

  goes_on : (G : Files) (n : ℕ) → FilesTo F G → IfSome (wrote G c f n) (Transfers F)
  goes_on G n h =
      of_if (Transfers F) (f.file.nonblocking || nat_le (length c.bytes) n) (ends_with G c f.number (c.moved + n)) (Some (transfer_outcome G (record c { moved = c.moved + n; bytes = drop n c.bytes }))) (ends F G c f.number h) h

  waits_to_write : IfSome (write_waits F c f) (Transfers F)
  waits_to_write = of_if (Transfers F) (f.file.nonblocking && nat_lt 0 c.moved) (ends_with F c f.number c.moved) (waits F c f) (ends F F c f.number (same F)) may_wait

  writes_pipe : (p : ℕ) (bytes : List ℕ) → IfSome (write_pipe F c f p bytes) (Transfers F)
  writes_pipe p bytes =
      let n = goes_in c (length bytes) in
      let G = with_pipe F p (bytes ++ take n c.bytes) in
      of_if (Transfers F) (not (has_reader F p)) (breaks F c f.number) (if n == 0 then write_waits F c f else wrote (armed_on (kind.PipeRead p) G) c f n) (ends F F c f.number (same F))
      (of_if (Transfers F) (n == 0) (write_waits F c f) (wrote (armed_on (kind.PipeRead p) G) c f n) waits_to_write (goes_on (armed_on (kind.PipeRead p) G) n (armed (kind.PipeRead p) G)))

  writes_console : (which : LxSide) → IfSome (write_console F c f which) (Transfers F)
  writes_console which =
      let n = goes_in c (length (side_holds F which)) in
      of_if (Transfers F) (n == 0) (write_waits F c f) (wrote (into_console F which (take n c.bytes)) c f n) waits_to_write (goes_on (into_console F which (take n c.bytes)) n (into F which (take n c.bytes)))

  writes_counter : (n : ℕ) (counter : Counter) → IfSome (write_counter F c f n counter) (Transfers F)
  writes_counter n counter =
      let added = number_at c.bytes 0 8 in
      let G = with_counter F n (record counter { value = counter.value + added }) in
      of_if (Transfers F) (nat_lt (length c.bytes) 8 || (added == 2 ^ 64 - 1)) (ends_refused F c f.number errno.EINVAL) (if nat_lt (2 ^ 64 - 2) (counter.value + added) then waits F c f else ends_with G c f.number 8) (ends F F c f.number (same F))
      (of_if (Transfers F) (nat_lt (2 ^ 64 - 2) (counter.value + added)) (waits F c f) (ends_with G c f.number 8) may_wait (ends F G c f.number (with_number F n (record counter { value = counter.value + added }))))

  writes : (k : FileKind) → IfSome (write_move F c f k) (Transfers F)
  writes (kind.Counter n) = of_bind (Transfers F) (at_place F.counters n) (write_counter F c f n) (writes_counter n)
  writes (kind.Console which) = not_empty (count c) (write_console F c f which) (writes_console which)
  writes (kind.PipeWrite p) = not_empty (count c) (bind (at_place F.pipes p) (write_pipe F c f p)) (of_bind (Transfers F) (at_place F.pipes p) (write_pipe F c f p) (writes_pipe p))
  writes kind.Input = tt
  writes (kind.PipeRead p) = tt
  writes (kind.Epoll n) = tt

  moves_file : IfSome (move_file F c f) (Transfers F)
  moves_file = of_if (Transfers F) (is_read c) (read_move F c f f.file.kind) (write_move F c f f.file.kind) (reads f.file.kind) (writes f.file.kind)

pub moves : (F : Files) (c : LxCall) → IfSome (transferred F c) (Transfers F)
moves F c = of_bind (Transfers F) c.held (λ file. bind (numbered_at F file) (move_file F c)) (λ file. of_bind (Transfers F) (numbered_at F file) (move_file F c) (moves_file F c))

pub drops : (F : Files) (c : LxCall) → IfSome (hold_given_back F c) (Transfers F)
drops F c = of_bind (Transfers F) c.held (λ file. Some (gives_back F c file)) (gave_back F)

pub gives_up_transfer : (F : Files) (c : LxCall) → IfSome (interrupted F c) (Transfers F)
gives_up_transfer F c = of_bind (Transfers F) c.held (λ file. ends_with F c file (interrupted_answer c)) (gave_back F)

-- ---- epoll_pwait

abbrev pub Leaves : Files → FilesOutcome → Type 0
Leaves F o = FilesTo F o.files

hold_number : (F : Files) (c : LxCall) (f : NumberedFile) (o : Option ℕ) → Leaves F (hold_epoll F c f o)
hold_number F c f (Some n) = same F
hold_number F c f None = same F

hold_epoll_file : (F : Files) (c : LxCall) (o : Option NumberedFile) → Leaves F (epoll_held_file F c o)
hold_epoll_file F c (Some f) = hold_number F c f (epoll_number f.file.kind)
hold_epoll_file F c None = same F

hold_epoll_named : (F : Files) (c : LxCall) (o : Option Descriptor) → Leaves F (epoll_held_as F c o)
hold_epoll_named F c (Some d) = hold_epoll_file F c (numbered_at F d.file)
hold_epoll_named F c None = same F

pub holds_epoll : (F : Files) (c : LxCall) → Leaves F (epoll_held F c)
holds_epoll F c = hold_epoll_named F c (at_place F.descriptors (low_argument c 0))

reported : (F : Files) (c : LxCall) (picks : List Pick) (file n : ℕ) (is : List Interest) → IfSome (reports_if F c picks file n is) (Leaves F)
reported F c picks file n is =
    let G = on_epoll F n (after_report picks) in
    of_if (Leaves F) (is_answer F is (most_of c) picks) (Some (reports F c picks file n is)) None (and_then F G (given_back G file) (on_one F n (after_report picks) (λ js hi. keeps_report picks js)) (gave_back G file)) tt

pub moves_events : (F : Files) (c : LxCall) (picks : List Pick) → IfSome (epoll_moved F c picks) (Leaves F)
moves_events F c picks =
    of_bind (Leaves F) c.held (λ file. bind (held_epoll F c) (reports_of F c picks file)) (λ file.
    of_bind (Leaves F) (held_epoll F c) (reports_of F c picks file) (λ n.
    of_bind (Leaves F) (at_place F.epolls n) (reports_if F c picks file n) (reported F c picks file n)))

pub expires : (F : Files) (c : LxCall) → IfSome (epoll_expired F c) (Leaves F)
expires F c = of_bind (Leaves F) c.held (λ file. Some (gives_epoll_back F (answered c 0) file)) (gave_back F)

pub gives_up_events : (F : Files) (c : LxCall) → IfSome (epoll_interrupted F c) (Leaves F)
gives_up_events F c = of_bind (Leaves F) c.held (λ file. Some (gives_epoll_back F (refused c errno.EINTR) file)) (gave_back F)
