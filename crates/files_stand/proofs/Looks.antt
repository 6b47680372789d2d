-- A look at an open file that is no queue is a move of the Linux machine, and the clause Files still holds.
use Rattle.std.proofs.Common.{◌≡◌, inl, inr, ℕ, ◌+◌, ◌-◌, ◌^◌, Bool, true, false, not, ◌||◌, List, [], ◌∷◌, ◌++◌, drop, take, length, Option, Some, None, refl, sym, subst}
use Rattle.std.specs.Prelude.{◌==◌, nat_lt, if◌then◌else◌}
use Rattle.kqueue_core.specs.Queues.{Queue}
use Rattle.kqueue_core.specs.declared.knotes.Filter.TheVariants as filter
use Rattle.lx_machine.specs.Files.{has_reader, has_writer}
use Rattle.lx_machine.specs.Lists.{at_place, bind}
use Rattle.lx_machine.specs.Pieces.{total}
use Rattle.lx_machine.specs.Read.{counted_down, read_counter, read_move, read_pipe}
use Rattle.lx_machine.specs.Transfers as transfers
use Rattle.lx_machine.specs.Transfers.{TransferOutcome, ends_refused, ends_with}
use Rattle.lx_machine.specs.Write.{goes_in, write_console, write_counter, write_move, write_pipe, write_waits}
use Rattle.lx_machine.specs.declared.calls.LxCall.{LxCall}
use Rattle.lx_machine.specs.declared.files.Counter.{Counter}
use Rattle.lx_machine.specs.declared.files.FileKind.{FileKind}
use Rattle.lx_machine.specs.declared.files.FileKind.TheVariants as kind
use Rattle.lx_machine.specs.declared.files.Files.{Files}
use Rattle.lx_machine.specs.declared.files.NumberedFile.{NumberedFile}
use Rattle.lx_machine.specs.declared.label.LxSide.{LxSide}
use Rattle.lx_machine.specs.declared.label.LxSide.TheVariants as side
use Rattle.open_files.specs.Plain.{plain_of}
use Rattle.open_files.specs.declared.kinds.FileLook.{FileLook}
use Rattle.open_files.specs.declared.kinds.FileLook.TheVariants.{Moved, Wait}
use Rattle.places.specs.Places.{number_at}
use Rattle.bsd_files.specs.Look.{Look, console, counter_read, counter_write, of_it, read_end, read_look, stays, waits, write_end, write_look}
use Rattle.bsd_files.specs.State.{FilesState}
use Rattle.files_stand.specs.FilesStand.{FilesStand}
use Rattle.files_stand.specs.Looks.{LookStands, ReadMoves, WriteMoves}
use Rattle.files_stand.proofs.Moves.{console_stands, counter_stands, input_stands, read_stands, write_stands}

module _ (calls : ℕ → Option LxCall) (L : Files) (qs : List (Option Queue)) (st : FilesStand calls (record { plain = plain_of L; queues = qs }) L) (c : LxCall) (f : NumberedFile) where
  abbrev M : FilesState
  M = record { plain = plain_of L; queues = qs }

  -- ---- reads

  abbrev Reads : Look → Option TransferOutcome → Type 0
  Reads l step = LookStands calls M l (λ after answer. ReadMoves after c f.number l.bytes answer step)

  either_read : (b : Bool) (x y : Look) (s t : Option TransferOutcome) → Reads x s → Reads y t → Reads (if b then x else y) (if b then s else t)
  either_read true x y s t h k = h
  either_read false x y s t h k = k

  read_waits_by : (b : Bool) → f.file.nonblocking ≡ b → Reads (stays (plain_of L) (waits f.file)) (transfers.waits L c f)
  read_waits_by true e = rw e (record { after = L; stands = st; moves = refl })
  read_waits_by false e = rw e (record { after = L; stands = st; moves = refl })

  read_waits : Reads (stays (plain_of L) (waits f.file)) (transfers.waits L c f)
  read_waits = read_waits_by f.file.nonblocking refl

  nothing_read : Reads (stays (plain_of L) (Moved 0)) (ends_with L c f.number 0)
  nothing_read = record { after = L; stands = st; moves = inr (refl, refl) }

  counter_read_joined : (number : ℕ) (n : Counter) → Reads (counter_read (plain_of L) (total c.pieces) f.file number n) (read_counter L c f number n)
  counter_read_joined number n =
      either_read (nat_lt (total c.pieces) 8) _ _ _ _ (record { after = L; stands = st; moves = refl })
      (either_read (n.value == 0) _ _ _ _ read_waits
      (record { after = _; stands = counter_stands calls M L st number (counted_down n) filter.Write; moves = inl refl }))

  end_at_by : (b : Bool) → Reads (stays (plain_of L) (if b then waits f.file else Moved 0)) (if b then transfers.waits L c f else ends_with L c f.number 0)
  end_at_by true = read_waits
  end_at_by false = nothing_read

  read_end_joined : (p : ℕ) (held : List ℕ) → Reads (read_end (plain_of L) (total c.pieces) f.file p held) (read_pipe L c f p held)
  read_end_joined p [] = end_at_by (has_writer L p)
  read_end_joined p (b ∷ bs) = record { after = _; stands = read_stands calls M L st p (drop (total c.pieces) (b ∷ bs)); moves = inl refl }

  of_read : {X : Type 0} (o : Option X) (look : X → Look) (step : X → Option TransferOutcome) → ((x : X) → Reads (look x) (step x)) → Reads (of_it (plain_of L) o look) (bind o step)
  of_read None look step h = record { after = L; stands = st; moves = refl }
  of_read (Some x) look step h = h x

  never_read : Reads (stays (plain_of L) Wait) None
  never_read = record { after = L; stands = st; moves = refl }

  read_joined : (k : FileKind) → Reads (read_look (plain_of L) (total c.pieces) f.file k) (read_move L c f k)
  read_joined (kind.Counter n) = of_read (at_place L.counters n) _ _ (λ x. counter_read_joined n x)
  read_joined kind.Input = either_read (total c.pieces == 0) _ _ _ _ nothing_read (record { after = _; stands = input_stands calls M L st (total c.pieces); moves = inl refl })
  read_joined (kind.PipeRead p) = either_read (total c.pieces == 0) _ _ _ _ nothing_read (of_read (at_place L.pipes p) _ _ (λ x. read_end_joined p x))
  read_joined (kind.PipeWrite p) = never_read
  read_joined (kind.Console which) = never_read
  read_joined (kind.Epoll n) = never_read

  -- ---- writes

  abbrev Writes : Look → Option TransferOutcome → Type 0
  Writes l step = LookStands calls M l (λ after answer. WriteMoves after c f answer step)

  either_write : (b : Bool) (x y : Look) (s t : Option TransferOutcome) → Writes x s → Writes y t → Writes (if b then x else y) (if b then s else t)
  either_write true x y s t h k = h
  either_write false x y s t h k = k

  write_waits_by : (b : Bool) → f.file.nonblocking ≡ b → Writes (stays (plain_of L) (waits f.file)) (write_waits L c f)
  write_waits_by true e = rw e (record { after = L; stands = st; moves = inl refl })
  write_waits_by false e = rw e (record { after = L; stands = st; moves = refl })

  counter_waits_by : (b : Bool) → f.file.nonblocking ≡ b → Writes (stays (plain_of L) (waits f.file)) (transfers.waits L c f)
  counter_waits_by true e = rw e (record { after = L; stands = st; moves = inr refl })
  counter_waits_by false e = rw e (record { after = L; stands = st; moves = refl })

  nothing_written : Writes (stays (plain_of L) (Moved 0)) (ends_with L c f.number 0)
  nothing_written = record { after = L; stands = st; moves = inr refl }

  counter_write_joined : (number : ℕ) (n : Counter) → Writes (counter_write (plain_of L) c.bytes f.file number n) (write_counter L c f number n)
  counter_write_joined number n =
      either_write (nat_lt (length c.bytes) 8 || (number_at c.bytes 0 8 == 2 ^ 64 - 1)) _ _ _ _ (record { after = L; stands = st; moves = inr refl })
      (either_write (nat_lt (2 ^ 64 - 2) (n.value + number_at c.bytes 0 8)) _ _ _ _ (counter_waits_by f.file.nonblocking refl)
      (record { after = _; stands = counter_stands calls M L st number (record n { value = n.value + number_at c.bytes 0 8 }) filter.Read; moves = inr refl }))

  write_end_joined : (p : ℕ) (held : List ℕ) → Writes (write_end (plain_of L) c.moved c.bytes f.file p held) (write_pipe L c f p held)
  write_end_joined p held =
      either_write (not (has_reader L p)) _ _ _ _ (record { after = L; stands = st; moves = refl })
      (either_write (goes_in c (length held) == 0) _ _ _ _ (write_waits_by f.file.nonblocking refl)
      (record { after = _; stands = write_stands calls M L st p (held ++ take (goes_in c (length held)) c.bytes); moves = inl refl }))

  console_joined : (which : LxSide) → Writes (console (plain_of L) c.moved c.bytes f.file which) (write_console L c f which)
  console_joined side.Out =
      either_write (goes_in c (length L.out) == 0) _ _ _ _ (write_waits_by f.file.nonblocking refl)
      (record { after = _; stands = console_stands calls M L st side.Out (take (goes_in c (length L.out)) c.bytes); moves = inl refl })
  console_joined side.Err =
      either_write (goes_in c (length L.err) == 0) _ _ _ _ (write_waits_by f.file.nonblocking refl)
      (record { after = _; stands = console_stands calls M L st side.Err (take (goes_in c (length L.err)) c.bytes); moves = inl refl })

  of_write : {X : Type 0} (o : Option X) (look : X → Look) (step : X → Option TransferOutcome) → ((x : X) → Writes (look x) (step x)) → Writes (of_it (plain_of L) o look) (bind o step)
  of_write None look step h = record { after = L; stands = st; moves = refl }
  of_write (Some x) look step h = h x

  never_written : Writes (stays (plain_of L) Wait) None
  never_written = record { after = L; stands = st; moves = refl }

  write_joined : (k : FileKind) → Writes (write_look (plain_of L) c.moved c.bytes f.file k) (write_move L c f k)
  write_joined (kind.Counter n) = of_write (at_place L.counters n) _ _ (λ x. counter_write_joined n x)
  write_joined (kind.Console which) = either_write (c.moved + length c.bytes == 0) _ _ _ _ nothing_written (console_joined which)
  write_joined (kind.PipeWrite p) = either_write (c.moved + length c.bytes == 0) _ _ _ _ nothing_written (of_write (at_place L.pipes p) _ _ (λ x. write_end_joined p x))
  write_joined (kind.PipeRead p) = never_written
  write_joined kind.Input = never_written
  write_joined (kind.Epoll n) = never_written

-- ---- of any files that stand

module _ (calls : ℕ → Option LxCall) (M : FilesState) (L : Files) (st : FilesStand calls M L) (c : LxCall) (f : NumberedFile) where
  over : FilesStand calls (record { plain = plain_of L; queues = M.queues }) L
  over = subst (λ (F : Files). FilesStand calls (record { plain = F; queues = M.queues }) L) st.plain st

  -- that a look stands hangs on the queues alone
  same_queues : (l : Look) (Moves : Files → FileLook → Type 0) → LookStands calls (record { plain = plain_of L; queues = M.queues }) l Moves → LookStands calls M l Moves
  same_queues l Moves h = record { after = h.after; stands = h.stands; moves = h.moves }

  -- a look at a read of as many bytes as the call's pieces have
  pub read_look_stands : let l = read_look M.plain (total c.pieces) f.file f.file.kind in LookStands calls M l (λ after answer. ReadMoves after c f.number l.bytes answer (read_move L c f f.file.kind))
  read_look_stands = subst (λ (F : Files). let l = read_look F (total c.pieces) f.file f.file.kind in LookStands calls M l (λ after answer. ReadMoves after c f.number l.bytes answer (read_move L c f f.file.kind))) (sym st.plain)
      (same_queues _ _ (read_joined calls L M.queues over c f f.file.kind))

  -- a look at a write of the bytes that the call has left
  pub write_look_stands : let l = write_look M.plain c.moved c.bytes f.file f.file.kind in LookStands calls M l (λ after answer. WriteMoves after c f answer (write_move L c f f.file.kind))
  write_look_stands = subst (λ (F : Files). let l = write_look F c.moved c.bytes f.file f.file.kind in LookStands calls M l (λ after answer. WriteMoves after c f answer (write_move L c f f.file.kind))) (sym st.plain)
      (same_queues _ _ (write_joined calls L M.queues over c f f.file.kind))
