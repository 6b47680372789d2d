-- Look: what a transfer moves now, by what the open file is. It is the move of the Linux machine (Read.antt, Write.antt) without
-- the call's answer and the hold that is given back. Source: read(2), write(2), pipe(7), eventfd(2).
use Rattle.std.specs.Prelude.{ℕ, ◌+◌, ◌-◌, ◌^◌, ◌/◌, ◌==◌, ◌||◌, nat_lt, if◌then◌else◌, List, [], ◌∷◌, ◌++◌, take, drop, length, Option, Some, None, slice_set}
use Rattle.std.proofs.Math.Bool.{not}
use Rattle.std.specs.Option.{option_map}
use Rattle.bsd_abi.specs.declared.errno.BsdErrno.TheVariants as errno
use Rattle.kqueue_core.specs.Queues.{Queue}
use Rattle.kqueue_core.specs.declared.knotes.Filter.TheVariants as filter
use Rattle.lx_machine.specs.Calls.{new_call}
use Rattle.lx_machine.specs.Files.{has_reader, has_writer, held_in}
use Rattle.lx_machine.specs.Interests.{side_holds}
use Rattle.lx_machine.specs.Lists.{at_place, with_place}
use Rattle.lx_machine.specs.Read.{counted, counted_down, with_counter, with_pipe}
use Rattle.lx_machine.specs.Write.{goes_in, into_console}
use Rattle.lx_machine.specs.declared.calls.LxCall.{LxCall}
use Rattle.lx_machine.specs.declared.files.Counter.{Counter}
use Rattle.lx_machine.specs.declared.files.FileKind.{FileKind}
use Rattle.lx_machine.specs.declared.files.Files.{Files}
use Rattle.lx_machine.specs.declared.files.OpenFile.{OpenFile}
use Rattle.lx_machine.specs.declared.label.LxSide.{LxSide}
use Rattle.lx_machine.specs.declared.files.FileKind.TheVariants as kind
use Rattle.places.specs.Places.{bytes_of, number_at}
use Rattle.bsd_files.specs.Ops.{Op, Arm, each_queue}
use Rattle.bsd_files.specs.Queues.{after_scan, has_report, report_bytes}
use Rattle.bsd_files.specs.State.{FilesState}
use Rattle.open_files.specs.Kinds.{moves}
use Rattle.open_files.specs.Plain.{plain_of}
use Rattle.open_files.specs.declared.kinds.FileCall.{FileCall}
use Rattle.open_files.specs.declared.kinds.FileLook.{FileLook}
use Rattle.open_files.specs.declared.kinds.FileLook.TheVariants.{Moved, Wait, Refused, Broken}

-- what a look answers, what it leaves of the files, the bytes that it brings to the front of the buffer, and what it does to the
-- queues
pub record Look : Type 0 where
  pub answer : FileLook
  pub plain : Files
  pub bytes : List ℕ
  pub ops : List Op

-- nothing changes
abbrev pub stays : Files → FileLook → Look
stays F answer = record { answer = answer; plain = F; bytes = []; ops = [] }

-- a move that has to wait, unless the open file is nonblocking
abbrev pub waits : OpenFile → FileLook
waits f = if f.nonblocking then Refused errno.EAGAIN else Wait

-- what follows of what stands at a number; nothing ever comes where nothing stands
abbrev pub of_it : {X : Type 0} → Files → Option X → (X → Look) → Look
of_it F None look = stays F Wait
of_it F (Some x) look = look x

-- a move of no bytes answers 0, except on a counter
abbrev pub unless_empty : ℕ → Files → Look → Look
unless_empty count F look = if count == 0 then stays F (Moved 0) else look

-- ---- reads

abbrev pub reads : Files → List ℕ → List Op → Look
reads F bytes ops = record { answer = Moved (length bytes); plain = F; bytes = bytes; ops = ops }

-- of a pipe that holds these bytes: none held is the end where no writer is left. A read activates the write end's knotes
abbrev pub read_end : Files → ℕ → OpenFile → ℕ → List ℕ → Look
read_end F len f p [] = stays F (if has_writer F p then waits f else Moved 0)
read_end F len f p (b ∷ bs) =
    reads (with_pipe F p (drop len (b ∷ bs))) (take len (b ∷ bs)) (Arm (kind.PipeWrite p) filter.Write F.files ∷ [])

-- of the input
abbrev pub input : Files → ℕ → Look
input F len = reads (record F { input = drop len F.input }) (take len F.input) []

-- of a counter, which activates its knotes
abbrev pub counter_read : Files → ℕ → OpenFile → ℕ → Counter → Look
counter_read F len f number n =
    if nat_lt len 8 then stays F (Refused errno.EINVAL) else (
    if n.value == 0 then stays F (waits f) else reads (with_counter F number (counted_down n)) (bytes_of (counted n) 8) (Arm (kind.Counter number) filter.Write F.files ∷ []))

abbrev pub input_look : Files → ℕ → Look
input_look F len = unless_empty len F (input F len)

abbrev pub read_look : Files → ℕ → OpenFile → FileKind → Look
read_look F len f (kind.Counter n) = of_it F (at_place F.counters n) (counter_read F len f n)
read_look F len f kind.Input = input_look F len
read_look F len f (kind.PipeRead p) = unless_empty len F (of_it F (at_place F.pipes p) (read_end F len f p))
read_look F len f _ = stays F Wait

-- ---- writes

-- the bytes of a write that are still to be moved
abbrev pub bytes_left : FileCall → List ℕ → List ℕ
bytes_left c buffer = drop c.done (take c.len buffer)

-- the Linux call that has moved so many of its bytes, and has these left
abbrev pub as_write : ℕ → List ℕ → LxCall
as_write done bytes = record (new_call 0 []) { moved = done; bytes = bytes }

abbrev pub wrote : Files → ℕ → List Op → Look
wrote F n ops = record { answer = Moved n; plain = F; bytes = []; ops = ops }

-- to a pipe that holds these bytes: without a reader it breaks. A write activates the read end's knotes
abbrev pub write_end : Files → ℕ → List ℕ → OpenFile → ℕ → List ℕ → Look
write_end F done bytes f p held =
    let n = goes_in (as_write done bytes) (length held) in
    if not (has_reader F p) then stays F Broken else (
    if n == 0 then stays F (waits f) else wrote (with_pipe F p (held ++ take n bytes)) n (Arm (kind.PipeRead p) filter.Read F.files ∷ []))

-- to a console
abbrev pub console : Files → ℕ → List ℕ → OpenFile → LxSide → Look
console F done bytes f which =
    let n = goes_in (as_write done bytes) (length (side_holds F which)) in
    if n == 0 then stays F (waits f) else wrote (plain_of (into_console F which (take n bytes))) n []

-- to a counter, which activates its knotes
abbrev pub counter_write : Files → List ℕ → OpenFile → ℕ → Counter → Look
counter_write F bytes f number n =
    let added = number_at bytes 0 8 in
    if nat_lt (length bytes) 8 || (added == 2 ^ 64 - 1) then stays F (Refused errno.EINVAL) else (
    if nat_lt (2 ^ 64 - 2) (n.value + added) then stays F (waits f)
    else wrote (with_counter F number (record n { value = n.value + added })) 8 (Arm (kind.Counter number) filter.Read F.files ∷ []))

abbrev pub write_look : Files → ℕ → List ℕ → OpenFile → FileKind → Look
write_look F done bytes f (kind.Counter n) = of_it F (at_place F.counters n) (counter_write F bytes f n)
write_look F done bytes f (kind.Console which) = unless_empty (done + length bytes) F (console F done bytes f which)
write_look F done bytes f (kind.PipeWrite p) = unless_empty (done + length bytes) F (of_it F (at_place F.pipes p) (write_end F done bytes f p))
write_look F done bytes f _ = stays F Wait

-- a look at an open file that is no queue
abbrev pub plain_look : Files → FileCall → List ℕ → OpenFile → Look
plain_look F c buffer f = if c.write then write_look F c.done (bytes_left c buffer) f f.kind else read_look F c.len f f.kind

-- ---- the same, by its answer

-- a look with this answer: it is that one where bytes are moved, and else nothing changes
abbrev pub answers : Files → FileLook → Look → Look
answers F answer look = if moves answer then look else stays F answer

-- a read of a pipe that holds bytes, a write to a pipe, and one to a console
abbrev pub taken : Files → ℕ → ℕ → Look
taken F p len =
    reads (record F { pipes = slice_set F.pipes p (option_map (drop len) (at_place F.pipes p)) }) (take len (held_in (at_place F.pipes p))) (Arm (kind.PipeWrite p) filter.Write F.files ∷ [])

abbrev pub put : Files → ℕ → List ℕ → ℕ → Look
put F p bytes n =
    wrote (record F { pipes = slice_set F.pipes p (option_map (λ held. held ++ take n bytes) (at_place F.pipes p)) }) n (Arm (kind.PipeRead p) filter.Read F.files ∷ [])

abbrev pub put_out : Files → LxSide → List ℕ → ℕ → Look
put_out F which bytes n = wrote (plain_of (into_console F which (take n bytes))) n []

-- ---- the whole look

-- what a look answers, and what it leaves of the files and of the buffer
pub record Looked : Type 0 where
  pub answer : FileLook
  pub files : FilesState
  pub buffer : List ℕ

-- a read brings its bytes to the front of the buffer, and a write leaves the buffer
abbrev pub looked_so : FilesState → FileCall → List ℕ → Look → Looked
looked_so S c buffer l = record {
  answer = l.answer;
  files = record { plain = l.plain; queues = each_queue l.ops S.queues };
  buffer = if c.write then buffer else l.bytes ++ drop (length l.bytes) buffer;
}

-- a look at a queue waits where a scan would report nothing, and else brings its events, 16 bytes each
abbrev pub queue_looked : FilesState → ℕ → List ℕ → ℕ → Queue → Looked
queue_looked S len buffer n q =
    if has_report S.plain q then record {
      answer = Moved (length (report_bytes S.plain (len / 16) q));
      files = record S { queues = with_place S.queues n (after_scan S.plain (len / 16) q) };
      buffer = report_bytes S.plain (len / 16) q ++ drop (length (report_bytes S.plain (len / 16) q)) buffer;
    } else record { answer = Wait; files = S; buffer = buffer }

abbrev pub queue_looked_of : FilesState → ℕ → List ℕ → ℕ → Option Queue → Looked
queue_looked_of S len buffer n None = record { answer = Wait; files = S; buffer = buffer }
queue_looked_of S len buffer n (Some q) = queue_looked S len buffer n q

abbrev pub looked_as : FilesState → FileCall → List ℕ → OpenFile → FileKind → Looked
looked_as S c buffer f (kind.Epoll n) = queue_looked_of S c.len buffer n (at_place S.queues n)
looked_as S c buffer f _ = looked_so S c buffer (plain_look S.plain c buffer f)

abbrev pub looked_at : FilesState → FileCall → List ℕ → Option OpenFile → Looked
looked_at S c buffer None = record { answer = Wait; files = S; buffer = buffer }
looked_at S c buffer (Some f) = looked_as S c buffer f f.kind

-- a look of a call at its open file
abbrev pub looked : FilesState → FileCall → List ℕ → Looked
looked S c buffer = looked_at S c buffer (at_place S.plain.files c.file)
