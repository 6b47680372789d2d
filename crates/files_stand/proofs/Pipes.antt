-- A new pipe, in both machines: what holds at all times is kept, and the clause Files too. First its read end is made, then its write
-- end.
use Rattle.std.proofs.Common.{◌≡◌, ◌≢◌, ◌⊎◌, inl, inr, ℕ, ◌+◌, Bool, true, false, not, List, [], Option, Some, None, length, refl, sym, ap, ◌∙◌}
use Rattle.std.specs.Prelude.{is_some, nat_lt}
use Rattle.std.specs.Int.Bits.{and_self}
use Rattle.std.proofs.lemmas.List.{length-set}
use Rattle.ready_bits.specs.Ready.{if_so}
use Rattle.lx_machine.specs.Descriptors.{second_free}
use Rattle.lx_machine.specs.Epoll.{pipe_holds, ready}
use Rattle.lx_machine.specs.Files.{has_writer, held_in, is_read_end, is_write_end, with_file}
use Rattle.lx_machine.specs.Interests.{is_kind}
use Rattle.lx_machine.specs.Lists.{at_place, first_free, with_place}
use Rattle.lx_machine.specs.declared.calls.LxCall.{LxCall}
use Rattle.lx_machine.specs.declared.files.FileKind.{FileKind}
use Rattle.lx_machine.specs.declared.files.FileKind.TheVariants as kind
use Rattle.lx_machine.specs.declared.files.Files.{Files}
use Rattle.lx_machine.specs.declared.files.OpenFile.{OpenFile}
use Rattle.lx_machine.specs.declared.label.LxSide.TheVariants as side
use Rattle.open_files.proofs.Edits.{second_there}
use Rattle.open_files.specs.Making.{with_pipe_at}
use Rattle.open_files.specs.declared.making.PipeNumbers.{PipeNumbers}
use Rattle.bsd_files.specs.Calls.{with_plain}
use Rattle.bsd_files.specs.State.{FilesState}
use Rattle.files_stand.specs.FilesStand.{FilesStand}
use Rattle.files_stand.specs.SoundFiles.{SoundFiles, is_there}
use Rattle.files_stand.proofs.Entries.{step_stands}
use Rattle.files_stand.proofs.Grows.{Among, Implies}
use Rattle.files_stand.proofs.Makes.{free_place, not_equal}
use Rattle.files_stand.proofs.SoundMakes.{any_more, any_other, made_leaves, new_file, sound_made}
use Rattle.files_stand.proofs.Places.{placed_other, placed_there, placed_is, still_there, apart_free}

-- an end of a pipe, of which a writer comes
read_fewer : (b h' h : Bool) → Implies h' h → Among (if_so b 1 + if_so h' 16) (if_so b 1 + if_so h 16)
read_fewer true true true i = refl
read_fewer true false true i = refl
read_fewer true false false i = refl
read_fewer false true true i = refl
read_fewer false false true i = refl
read_fewer false false false i = refl
read_fewer b true false i = let z : false ≡ true = i refl in absurd (cc)

not_implies : (b b' : Bool) → (b ≡ true → b' ≡ true) → Implies (not b') (not b)
not_implies true b' h i = let z : false ≡ true = sym (ap not (h refl)) ∙ i in absurd (cc)
not_implies false b' h i = refl

module _ (calls : ℕ → Option LxCall) (holding : ℕ → Option ℕ) (M : FilesState) (snd : SoundFiles calls holding M) (at : PipeNumbers) (read_is : first_free M.plain.files ≡ Some at.read_file) (pipe_is : first_free M.plain.pipes ≡ Some at.pipe) (write_is : second_free M.plain.files at.read_file ≡ Some at.write_file) where
  abbrev half_made : Files
  half_made = with_file (record M.plain { pipes = with_place M.plain.pipes at.pipe [] }) at.read_file (kind.PipeRead at.pipe) false

  abbrev between : FilesState
  between = record M { plain = half_made }

  no_read : at_place M.plain.files at.read_file ≡ None
  no_read = (free_place M.plain.files at.read_file read_is).1

  no_pipe : (q : ℕ) → is_some (at_place M.plain.pipes q) ≡ true → q ≢ at.pipe
  no_pipe q l = apart_free M.plain.pipes at.pipe q (free_place M.plain.pipes at.pipe pipe_is).1 l

  -- ---- the read end

  read_fresh : (k : FileKind) → is_there M k ≡ true → (is_kind (kind.PipeRead at.pipe) k ≡ false) × (is_kind k (kind.PipeRead at.pipe) ≡ false)
  read_fresh (kind.PipeRead q) l = not_equal q at.pipe (no_pipe q l)
  read_fresh (kind.PipeWrite q) l = (refl, refl)
  read_fresh (kind.Counter m) l = (refl, refl)
  read_fresh (kind.Epoll n) l = (refl, refl)
  read_fresh kind.Input l = (refl, refl)
  read_fresh (kind.Console which) l = (refl, refl)

  read_there : (k : FileKind) → is_there M k ≡ true → is_there between k ≡ true
  read_there (kind.PipeRead q) l = still_there M.plain.pipes at.pipe q [] l
  read_there (kind.PipeWrite q) l = still_there M.plain.pipes at.pipe q [] l
  read_there (kind.Counter m) l = l
  read_there (kind.Epoll n) l = l
  read_there kind.Input l = refl
  read_there (kind.Console which) l = refl

  held_same : (q : ℕ) → is_some (at_place M.plain.pipes q) ≡ true → pipe_holds half_made q ≡ pipe_holds M.plain q
  held_same q l = ap held_in (placed_other M.plain.pipes at.pipe q [] (no_pipe q l))

  read_ready : (k : FileKind) → is_there M k ≡ true → Among (ready half_made k) (ready M.plain k)
  read_ready (kind.PipeRead q) l = rw (held_same q l, any_other (is_write_end q) M.plain.files at.read_file (new_file (kind.PipeRead at.pipe) false) no_read refl) (and_self _)
  read_ready (kind.PipeWrite q) l = rw (held_same q l, any_other (is_read_end q) M.plain.files at.read_file (new_file (kind.PipeRead at.pipe) false) no_read (not_equal q at.pipe (no_pipe q l)).0) (and_self _)
  read_ready (kind.Counter m) l = and_self _
  read_ready (kind.Epoll n) l = refl
  read_ready kind.Input l = and_self _
  read_ready (kind.Console side.Out) l = and_self _
  read_ready (kind.Console side.Err) l = and_self _

  sound_between : SoundFiles calls holding between
  sound_between = sound_made calls holding M snd half_made at.read_file (kind.PipeRead at.pipe) refl refl no_read
      (record { descriptors = snd.sizes.descriptors; files = length-set M.plain.files at.read_file _ ∙ snd.sizes.files; pipes = length-set M.plain.pipes at.pipe _ ∙ snd.sizes.pipes; counters = snd.sizes.counters; queues = snd.sizes.queues })
      (λ i g h. read_fresh g.kind (snd.there i g h)) read_there
      (ap (λ (o : Option (List ℕ)). is_some o) (placed_there M.plain.pipes at.pipe [] (free_place M.plain.pipes at.pipe pipe_is).0))
      (λ i g h. read_ready g.kind (snd.there i g h))

  -- ---- the write end

  abbrev both_made : Files
  both_made = with_file half_made at.write_file (kind.PipeWrite at.pipe) false

  no_write : at_place half_made.files at.write_file ≡ None
  no_write = second_there M.plain.files at.read_file at.write_file (Some (new_file (kind.PipeRead at.pipe) false)) write_is

  old_fresh : (k : FileKind) → is_there M k ≡ true → (is_kind (kind.PipeWrite at.pipe) k ≡ false) × (is_kind k (kind.PipeWrite at.pipe) ≡ false)
  old_fresh (kind.PipeWrite q) l = not_equal q at.pipe (no_pipe q l)
  old_fresh (kind.PipeRead q) l = (refl, refl)
  old_fresh (kind.Counter m) l = (refl, refl)
  old_fresh (kind.Epoll n) l = (refl, refl)
  old_fresh kind.Input l = (refl, refl)
  old_fresh (kind.Console which) l = (refl, refl)

  write_fresh : (i : ℕ) (g : OpenFile) → at_place half_made.files i ≡ Some g → (is_kind (kind.PipeWrite at.pipe) g.kind ≡ false) × (is_kind g.kind (kind.PipeWrite at.pipe) ≡ false)
  write_fresh i g h = by (placed_is M.plain.files at.read_file i (new_file (kind.PipeRead at.pipe) false) g h)
    where
      by : (at_place M.plain.files i ≡ Some g) ⊎ ((i ≡ at.read_file) × (new_file (kind.PipeRead at.pipe) false ≡ g)) → (is_kind (kind.PipeWrite at.pipe) g.kind ≡ false) × (is_kind g.kind (kind.PipeWrite at.pipe) ≡ false)
      by (inl o) = old_fresh g.kind (snd.there i g o)
      by (inr n) = (sym (ap (λ (f : OpenFile). is_kind (kind.PipeWrite at.pipe) f.kind) n.1), sym (ap (λ (f : OpenFile). is_kind f.kind (kind.PipeWrite at.pipe)) n.1))

  write_there : (k : FileKind) → is_there between k ≡ true → is_there (record M { plain = both_made }) k ≡ true
  write_there (kind.PipeRead q) l = l
  write_there (kind.PipeWrite q) l = l
  write_there (kind.Counter m) l = l
  write_there (kind.Epoll n) l = l
  write_there kind.Input l = refl
  write_there (kind.Console which) l = refl

  write_ready : (k : FileKind) → Among (ready both_made k) (ready half_made k)
  write_ready (kind.PipeRead q) = read_fewer (nat_lt 0 (length (pipe_holds half_made q))) (not (has_writer both_made q)) (not (has_writer half_made q))
      (not_implies (has_writer half_made q) (has_writer both_made q) (any_more (is_write_end q) half_made.files at.write_file (new_file (kind.PipeWrite at.pipe) false) no_write))
  write_ready (kind.PipeWrite q) = rw (any_other (is_read_end q) half_made.files at.write_file (new_file (kind.PipeWrite at.pipe) false) no_write refl) (and_self _)
  write_ready (kind.Counter m) = and_self _
  write_ready (kind.Epoll n) = refl
  write_ready kind.Input = and_self _
  write_ready (kind.Console side.Out) = and_self _
  write_ready (kind.Console side.Err) = and_self _

  pub sound_pipe_made : SoundFiles calls holding (with_plain M (with_pipe_at M.plain at))
  sound_pipe_made = let s = sound_between in sound_made calls holding between s both_made at.write_file (kind.PipeWrite at.pipe) refl refl no_write
      (record { descriptors = s.sizes.descriptors; files = length-set half_made.files at.write_file _ ∙ s.sizes.files; pipes = s.sizes.pipes; counters = s.sizes.counters; queues = s.sizes.queues })
      write_fresh write_there
      (ap (λ (o : Option (List ℕ)). is_some o) (placed_there M.plain.pipes at.pipe [] (free_place M.plain.pipes at.pipe pipe_is).0))
      (λ i g h. write_ready g.kind)

  -- ---- the clause Files

  pub pipe_made_stands : (L : Files) → FilesStand calls M L → FilesStand calls (with_plain M (with_pipe_at M.plain at)) (with_pipe_at L at)
  pipe_made_stands L st =
      let h = step_stands (λ F. with_file (record F { pipes = with_place F.pipes at.pipe [] }) at.read_file (kind.PipeRead at.pipe) false) (λ F. with_file (record F { pipes = with_place F.pipes at.pipe [] }) at.read_file (kind.PipeRead at.pipe) false) (λ F. []) (record { plain_is = λ F. refl; epolls = λ F. refl }) calls M L st
      (made_leaves calls holding M snd half_made at.read_file (kind.PipeRead at.pipe) refl refl no_read) in
      step_stands (λ F. with_file F at.write_file (kind.PipeWrite at.pipe) false) (λ F. with_file F at.write_file (kind.PipeWrite at.pipe) false) (λ F. []) (record { plain_is = λ F. refl; epolls = λ F. refl }) calls between
      (with_file (record L { pipes = with_place L.pipes at.pipe [] }) at.read_file (kind.PipeRead at.pipe) false) h
      (made_leaves calls holding between sound_between both_made at.write_file (kind.PipeWrite at.pipe) refl refl no_write)
