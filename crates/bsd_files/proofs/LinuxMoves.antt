-- The moves of reads and writes in the Linux machine are looks.
use Rattle.std.specs.Prelude.{◌≡◌, refl, ℕ, zero, suc, ◌+◌, ◌-◌, ◌^◌, ◌==◌, Bool, true, false, ◌||◌, ◌&&◌, nat_le, nat_lt, if◌then◌else◌, List, [], ◌∷◌, ◌++◌, take, drop, length, Option, Some, None}
use Rattle.std.proofs.Common.{arith, ap, ap₂, sym, ◌∙◌}
use Rattle.std.proofs.Math.Bool.{not}
use Rattle.std.specs.Option.{option_map}
use Rattle.bsd_abi.specs.declared.errno.BsdErrno.TheVariants as bsd
use Rattle.linux_abi.specs.declared.errno.LinuxErrno.TheVariants as linux
use Rattle.linux_abi.specs.LinuxErrno.{answer_of}
use Rattle.kqueue_core.specs.declared.knotes.Filter.TheVariants as filter
use Rattle.lx_machine.specs.Calls.{answered, answered_with}
use Rattle.lx_machine.specs.Files.{has_reader, has_writer}
use Rattle.lx_machine.specs.Interests.{armed_on, side_holds}
use Rattle.lx_machine.specs.Lists.{at_place, bind}
use Rattle.lx_machine.specs.Pieces.{total}
use Rattle.lx_machine.specs.Read.{counted, counted_down, read_counter, read_input, read_move, read_pipe, reads_bytes, unless_empty as unless_none, with_counter, with_pipe}
use Rattle.lx_machine.specs.Transfers.{TransferOutcome, ends_refused, ends_with, gives_back, transfer_outcome, waits as lx_waits}
use Rattle.lx_machine.specs.Write.{breaks, count, goes_in, into_console, write_console, write_counter, write_move, write_pipe, write_waits, wrote as lx_wrote}
use Rattle.lx_machine.specs.declared.calls.LxCall.{LxCall}
use Rattle.lx_machine.specs.declared.files.Counter.{Counter}
use Rattle.lx_machine.specs.declared.files.FileKind.{FileKind}
use Rattle.lx_machine.specs.declared.files.FileKind.TheVariants as kind
use Rattle.lx_machine.specs.declared.files.Files.{Files}
use Rattle.lx_machine.specs.declared.files.NumberedFile.{NumberedFile}
use Rattle.lx_machine.specs.declared.label.LxSide.{LxSide}
use Rattle.lx_machine.specs.declared.label.LxSide.TheVariants as side
use Rattle.places.specs.Places.{bytes_of, number_at}
use Rattle.open_files.specs.Plain.{plain_of}
use Rattle.open_files.specs.declared.kinds.FileLook.{FileLook}
use Rattle.open_files.specs.declared.kinds.FileLook.TheVariants.{Moved, Wait, Refused, Broken}
use Rattle.bsd_files.specs.Look.{Look, console, counter_read, counter_write, input, of_it, read_end, read_look, stays, waits, write_end, write_look}
use Rattle.bsd_files.specs.Moves.{MovesOfReads, MovesOfWrites, files_after, is_counter, read_by, refusal_of, so_far, trimmed, write_by}

-- ---- what was put into the rooms

nothing_more : (xs : List ℕ) → xs ++ [] ≡ xs
nothing_more [] = refl
nothing_more (x ∷ xs) = ap (λ ys. x ∷ ys) (nothing_more xs)

all_gone : (ys zs : List ℕ) → drop (length ys) (ys ++ zs) ≡ zs
all_gone [] zs = refl
all_gone (y ∷ ys) zs = all_gone ys zs

put_more : (xs ys zs : List ℕ) → xs ++ zs ≡ xs ++ drop (length ys) (ys ++ zs)
put_more xs ys zs = ap (λ ws. xs ++ ws) (sym (all_gone ys zs))

put_none : (xs ys : List ℕ) → xs ≡ xs ++ drop (length ys) ys
put_none xs ys = sym (nothing_more xs) ∙ put_more xs ys [] ∙ ap (λ ws. xs ++ drop (length ys) ws) (nothing_more ys)

-- nothing is put into either
quiet : {R : Type 0} (F : Files) (g : List ℕ → List ℕ → R) → g F.put_out F.put_err ≡ g (F.put_out ++ drop (length F.out) F.out) (F.put_err ++ drop (length F.err) F.err)
quiet F g = ap₂ g (put_none F.put_out F.out) (put_none F.put_err F.err)

-- ---- reads

module _ (F : Files) (c : LxCall) (f : NumberedFile) where
  abbrev Reads : Option TransferOutcome → Look → Type 0
  Reads step l = option_map trimmed step ≡ option_map trimmed (read_by F c f.number l)

  abbrev P : Files
  P = plain_of F

  either_read : (b : Bool) (x y : Option TransferOutcome) (l m : Look) → Reads x l → Reads y m → Reads (if b then x else y) (if b then l else m)
  either_read true x y l m h k = h
  either_read false x y l m h k = k

  read_at : {X : Type 0} (o : Option X) (next : X → Option TransferOutcome) (look : X → Look) → ((x : X) → Reads (next x) (look x)) → Reads (bind o next) (of_it P o look)
  read_at None next look h = refl
  read_at (Some x) next look h = h x

  read_zero : Reads (ends_with F c f.number 0) (stays P (Moved 0))
  read_zero = quiet F (λ o e. option_map trimmed (ends_with (record F { put_out = o; put_err = e }) c f.number 0))

  read_waits_by : (b : Bool) → Reads (if b then ends_refused F c f.number linux.EAGAIN else None) (stays P (if b then Refused bsd.EAGAIN else Wait))
  read_waits_by true = quiet F (λ o e. option_map trimmed (ends_refused (record F { put_out = o; put_err = e }) c f.number linux.EAGAIN))
  read_waits_by false = refl

  read_waits : Reads (lx_waits F c f) (stays P (waits f.file))
  read_waits = read_waits_by f.file.nonblocking

  read_pipe_end : (b : Bool) → Reads (if b then lx_waits F c f else ends_with F c f.number 0) (stays P (if b then waits f.file else Moved 0))
  read_pipe_end true = read_waits
  read_pipe_end false = read_zero

  read_of_pipe : (p : ℕ) (held : List ℕ) → Reads (read_pipe F c f p held) (read_end P (total c.pieces) f.file p held)
  read_of_pipe p [] = read_pipe_end (has_writer F p)
  read_of_pipe p (b ∷ bs) =
      let G = armed_on (kind.PipeWrite p) (with_pipe F p (drop (total c.pieces) (b ∷ bs))) in
      quiet F (λ o e. option_map trimmed (reads_bytes (record G { put_out = o; put_err = e }) c f.number (take (total c.pieces) (b ∷ bs))))

  read_of_input : Reads (read_input F c f.number) (input P (total c.pieces))
  read_of_input = quiet F (λ o e. option_map trimmed (reads_bytes (record F { input = drop (total c.pieces) F.input; put_out = o; put_err = e }) c f.number (take (total c.pieces) F.input)))

  read_of_counter : (number : ℕ) (n : Counter) → Reads (read_counter F c f number n) (counter_read P (total c.pieces) f.file number n)
  read_of_counter number n =
      let G = with_counter F number (counted_down n) in
      either_read (nat_lt (total c.pieces) 8) _ _ _ _
      (quiet F (λ o e. option_map trimmed (ends_refused (record F { put_out = o; put_err = e }) c f.number linux.EINVAL)))
      (either_read (n.value == 0) _ _ _ _ read_waits
      (quiet F (λ o e. option_map trimmed (reads_bytes (record G { put_out = o; put_err = e }) c f.number (bytes_of (counted n) 8)))))

  read_of : (k : FileKind) → Reads (read_move F c f k) (read_look P (total c.pieces) f.file k)
  read_of (kind.Counter n) = read_at (at_place F.counters n) (read_counter F c f n) (counter_read P (total c.pieces) f.file n) (read_of_counter n)
  read_of kind.Input = either_read (total c.pieces == 0) _ _ _ _ read_zero read_of_input
  read_of (kind.PipeRead p) = either_read (total c.pieces == 0) _ _ _ _ read_zero (read_at (at_place F.pipes p) (read_pipe F c f p) (read_end P (total c.pieces) f.file p) (read_of_pipe p))
  read_of (kind.PipeWrite p) = refl
  read_of (kind.Console which) = refl
  read_of (kind.Epoll n) = refl

pub of_reads : MovesOfReads
of_reads F c f k = read_of F c f k

-- ---- writes

none_left : (m n : ℕ) → (m + n == 0) ≡ true → (m + 0 ≡ 0) × (nat_le n 0 ≡ true)
none_left m n h = (grind arith, grind arith)

or_true : (a b : Bool) → b ≡ true → (a || b) ≡ true
or_true true b h = refl
or_true false b h = h

module _ (F : Files) (c : LxCall) (f : NumberedFile) (k : FileKind) where
  abbrev Writes : Option TransferOutcome → Look → Type 0
  Writes step l = step ≡ write_by F c f k l

  abbrev Q : Files
  Q = plain_of F

  either_write : (b : Bool) (x y : Option TransferOutcome) (l m : Look) → Writes x l → Writes y m → Writes (if b then x else y) (if b then l else m)
  either_write true x y l m h g = h
  either_write false x y l m h g = g

  write_at : {X : Type 0} (o : Option X) (next : X → Option TransferOutcome) (look : X → Look) → ((x : X) → Writes (next x) (look x)) → Writes (bind o next) (of_it Q o look)
  write_at None next look h = refl
  write_at (Some x) next look h = h x

  -- a write of no bytes
  write_zero : (count c == 0) ≡ true → Writes (ends_with F c f.number 0) (stays Q (Moved 0))
  write_zero h =
      let z = none_left c.moved (length c.bytes) h in
      let b : (is_counter k || (f.file.nonblocking || nat_le (length c.bytes) 0)) ≡ true = or_true (is_counter k) _ (or_true f.file.nonblocking _ z.1) in
      quiet F (λ o e. ends_with (record F { put_out = o; put_err = e }) c f.number 0)
      ∙ ap₂ (λ t n. if t then ends_with (files_after F (stays Q (Moved 0))) c f.number n else Some (transfer_outcome (files_after F (stays Q (Moved 0))) (record c { moved = c.moved + 0; bytes = drop 0 c.bytes }))) (sym b) (sym z.0)

  unless_zero : (b : Bool) → (count c == 0) ≡ b → (y : Option TransferOutcome) (m : Look) → Writes y m → Writes (if b then ends_with F c f.number 0 else y) (if b then stays Q (Moved 0) else m)
  unless_zero true h y m g = write_zero h
  unless_zero false h y m g = g

  refused_by : (b : Bool) → (if b then ends_with F c f.number c.moved else ends_refused F c f.number linux.EAGAIN) ≡ ends_with F c f.number (if b then c.moved else answer_of linux.EAGAIN)
  refused_by true = refl
  refused_by false = refl

  write_waits_by : (b : Bool) → Writes (if b && nat_lt 0 c.moved then ends_with F c f.number c.moved else (if b then ends_refused F c f.number linux.EAGAIN else None)) (stays Q (if b then Refused bsd.EAGAIN else Wait))
  write_waits_by true = refused_by (nat_lt 0 c.moved) ∙ quiet F (λ o e. ends_with (record F { put_out = o; put_err = e }) c f.number (so_far c linux.EAGAIN))
  write_waits_by false = refl

  waits_to_write : Writes (write_waits F c f) (stays Q (waits f.file))
  waits_to_write = write_waits_by f.file.nonblocking

  -- a write to a pipe, and to a side of the console
  module _ (only : is_counter k ≡ false) where
    goes_on : (G H : Files) (n : ℕ) → G ≡ H → lx_wrote G c f n ≡ (if is_counter k || (f.file.nonblocking || nat_le (length c.bytes) n) then ends_with H c f.number (c.moved + n) else Some (transfer_outcome H (record c { moved = c.moved + n; bytes = drop n c.bytes })))
    goes_on G H n e = ap (λ X. lx_wrote X c f n) e ∙ ap (λ b. if b || (f.file.nonblocking || nat_le (length c.bytes) n) then ends_with H c f.number (c.moved + n) else Some (transfer_outcome H (record c { moved = c.moved + n; bytes = drop n c.bytes }))) (sym only)

    write_of_pipe : (p : ℕ) (held : List ℕ) → Writes (write_pipe F c f p held) (write_end Q c.moved c.bytes f.file p held)
    write_of_pipe p held =
        let n = goes_in c (length held) in
        let G = armed_on (kind.PipeRead p) (with_pipe F p (held ++ take n c.bytes)) in
        either_write (not (has_reader F p)) _ _ _ _
        (quiet F (λ o e. Some (record (gives_back (record F { put_out = o; put_err = e }) (answered c (so_far c linux.EPIPE)) f.number) { is_broken = true })))
        (either_write (n == 0) _ _ _ _ waits_to_write (goes_on G _ n (quiet F (λ o e. record G { put_out = o; put_err = e }))))

    write_of_console : (which : LxSide) → Writes (write_console F c f which) (console Q c.moved c.bytes f.file which)
    write_of_console side.Out =
        let n = goes_in c (length F.out) in
        either_write (n == 0) _ _ _ _ waits_to_write
        (goes_on (into_console F side.Out (take n c.bytes)) _ n
        (ap₂ (λ o e. record F { out = F.out ++ take n c.bytes; put_out = o; put_err = e }) (put_more F.put_out F.out (take n c.bytes)) (put_none F.put_err F.err)))
    write_of_console side.Err =
        let n = goes_in c (length F.err) in
        either_write (n == 0) _ _ _ _ waits_to_write
        (goes_on (into_console F side.Err (take n c.bytes)) _ n
        (ap₂ (λ o e. record F { err = F.err ++ take n c.bytes; put_out = o; put_err = e }) (put_none F.put_out F.out) (put_more F.put_err F.err (take n c.bytes))))

  -- a write to a counter, which has moved nothing before
  module _ (only : is_counter k ≡ true) (first : c.moved ≡ 0) where
    first_so_far : (e : ℕ) → e ≡ (if nat_lt 0 c.moved then c.moved else e)
    first_so_far e = rw first refl

    write_refused : Writes (ends_refused F c f.number linux.EINVAL) (stays Q (Refused bsd.EINVAL))
    write_refused =
        ap (λ n. ends_with F c f.number n) (first_so_far (answer_of linux.EINVAL))
        ∙ quiet F (λ o e. ends_with (record F { put_out = o; put_err = e }) c f.number (so_far c linux.EINVAL))

    counter_waits_by : (b : Bool) → Writes (if b then ends_refused F c f.number linux.EAGAIN else None) (stays Q (if b then Refused bsd.EAGAIN else Wait))
    counter_waits_by true =
        ap (λ n. ends_with F c f.number n) (first_so_far (answer_of linux.EAGAIN))
        ∙ quiet F (λ o e. ends_with (record F { put_out = o; put_err = e }) c f.number (so_far c linux.EAGAIN))
    counter_waits_by false = refl

    write_of_counter : (number : ℕ) (n : Counter) → Writes (write_counter F c f number n) (counter_write Q c.bytes f.file number n)
    write_of_counter number n =
        let added = number_at c.bytes 0 8 in
        let G = with_counter F number (record n { value = n.value + added }) in
        either_write (nat_lt (length c.bytes) 8 || (added == 2 ^ 64 - 1)) _ _ _ _ write_refused
        (either_write (nat_lt (2 ^ 64 - 2) (n.value + added)) _ _ _ _ (counter_waits_by f.file.nonblocking) (adds G _ (quiet F (λ o e. record G { put_out = o; put_err = e }))))
      where
        adds : (G H : Files) → G ≡ H → ends_with G c f.number 8 ≡ (if is_counter k || (f.file.nonblocking || nat_le (length c.bytes) 8) then ends_with H c f.number (c.moved + 8) else Some (transfer_outcome H (record c { moved = c.moved + 8; bytes = drop 8 c.bytes })))
        adds G H e =
            ap (λ X. ends_with X c f.number 8) e
            ∙ ap₂ (λ b n. if b || (f.file.nonblocking || nat_le (length c.bytes) 8) then ends_with H c f.number n else Some (transfer_outcome H (record c { moved = c.moved + 8; bytes = drop 8 c.bytes }))) (sym only) (sym (ap (λ m. m + 8) first))

write_of : (F : Files) (c : LxCall) (f : NumberedFile) (k : FileKind) → (is_counter k ≡ true → c.moved ≡ 0) → Writes F c f k (write_move F c f k) (write_look (plain_of F) c.moved c.bytes f.file k)
write_of F c f (kind.Counter n) first = write_at F c f (kind.Counter n) (at_place F.counters n) (write_counter F c f n) (counter_write (plain_of F) c.bytes f.file n) (write_of_counter F c f (kind.Counter n) refl (first refl) n)
write_of F c f (kind.Console which) first = unless_zero F c f (kind.Console which) (count c == 0) refl _ _ (write_of_console F c f (kind.Console which) refl which)
write_of F c f (kind.PipeWrite p) first = unless_zero F c f (kind.PipeWrite p) (count c == 0) refl _ _ (write_at F c f (kind.PipeWrite p) (at_place F.pipes p) (write_pipe F c f p) (write_end (plain_of F) c.moved c.bytes f.file p) (write_of_pipe F c f (kind.PipeWrite p) refl p))
write_of F c f kind.Input first = refl
write_of F c f (kind.PipeRead p) first = refl
write_of F c f (kind.Epoll n) first = refl

pub of_writes : MovesOfWrites
of_writes F c f k first = write_of F c f k first
