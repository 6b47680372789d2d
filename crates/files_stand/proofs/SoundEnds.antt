-- What holds of the files at all times is kept where an open file ends.
use Rattle.std.proofs.Common.{◌≡◌, ◌≢◌, ◌⊎◌, inl, inr, ℕ, zero, suc, ◌+◌, ◌<◌, ◌≤◌, Bool, true, false, not, ◌||◌, List, [], ◌∷◌, map, Option, Some, None, length, refl, sym, ap, ◌∙◌, subst, arith}
use Rattle.std.specs.Prelude.{◌==◌, is_some, if◌then◌else◌}
use Rattle.std.specs.List.{list_any}
use Rattle.std.specs.Int.{from_bool}
use Rattle.std.specs.Option.{option_map}
use Rattle.std.proofs.lemmas.List.{length-set}
use Rattle.kqueue_core.specs.Queues.{Queue}
use Rattle.kqueue_core.specs.declared.knotes.Filter.{Filter}
use Rattle.kqueue_core.specs.declared.knotes.Filter.TheVariants.{Read, Write}
use Rattle.kqueue_laws.proofs.Changes.{both_true, eq_self, eq_is}
use Rattle.lx_machine.specs.EpollCtl.{file_of}
use Rattle.lx_machine.specs.Files.{closed_if_unnamed, closed_if_unnamed_as, has_reader, has_writer, is_read_end, is_unnamed, is_write_end, names, numbered, without_file}
use Rattle.lx_machine.specs.Interests.{armed_on, is_kind, without_interests}
use Rattle.lx_machine.specs.Lists.{at_place, without_place}
use Rattle.lx_machine.specs.declared.calls.LxCall.{LxCall}
use Rattle.lx_machine.specs.declared.files.Counter.{Counter}
use Rattle.lx_machine.specs.declared.files.Descriptor.{Descriptor}
use Rattle.lx_machine.specs.declared.files.FileKind.{FileKind}
use Rattle.lx_machine.specs.declared.files.FileKind.TheVariants as kind
use Rattle.lx_machine.specs.declared.files.Files.{Files}
use Rattle.lx_machine.specs.declared.files.OpenFile.{OpenFile}
use Rattle.bsd_files.specs.Ops.{Op, Leave, activated_for, each_queue, end_ops, left_by, settle_ops, settle_ops_of}
use Rattle.bsd_files.specs.State.{FilesState}
use Rattle.bsd_files.specs.Moves.{each_epoll}
use Rattle.files_stand.specs.SoundFiles.{HasSizes, SoundFiles, SoundQueue, flux_name, holders_of, is_that, is_there, lives}
use Rattle.files_stand.proofs.Closes.{apart_queue, end_spares}
use Rattle.files_stand.proofs.Entries.{Leaves, fluxes_step, queues_step, rooms_step}
use Rattle.files_stand.proofs.Frees.{end_free, unnamed}
use Rattle.files_stand.proofs.Grows.{GrowsAt, GrowsNowhere}
use Rattle.files_stand.proofs.Lasts.{any_at, console_ends, counter_ends, epoll_ends, input_ends, pipe_if, read_end_ends, write_end_ends}
use Rattle.files_stand.proofs.Names.{SameAt, ends_same, file_ends, keeps_by, not_any}
use Rattle.files_stand.proofs.SoundMoves.{same_name, whole_at, mapped_queues}
use Rattle.files_stand.proofs.SoundQueues.{arm_after, before_end, sound_after, still_after}
use Rattle.lx_machine.specs.Calls.{low_argument}
use Rattle.files_stand.proofs.Places.{same_or_not, at_other, none_here, at_mapped, at_without, length_map}

-- ---- words

-- a slot that holds an open file counts
pub some_holds : (holding : ℕ → Option ℕ) (file s n : ℕ) → s < n → holding s ≡ Some file → 1 ≤ holders_of holding file n
some_holds holding file s zero l h = absurd (omega arith)
some_holds holding file s (suc n) l h = by (λ k. some_holds holding file s n k h) (same_or_not n s)
  where
    here : (m : ℕ) → m ≡ s → is_that file (holding m) ≡ true
    here m e = rw (e, h) (eq_self file)

    less : s ≢ n → s < n
    less ne = grind arith

    by : (s < n → 1 ≤ holders_of holding file n) → (s ≡ n) ⊎ (s ≢ n) → 1 ≤ from_bool (is_that file (holding n)) + holders_of holding file n
    by again (inl e) = rw (here n (sym e)) (omega arith)
    by again (inr ne) = let a = again (less ne) in omega arith

-- the queue from which a queue was made
pub record From (f : Queue → Queue) (qs : List (Option Queue)) (n : ℕ) (q' : Queue) : Type 0 where
  pub queue : Queue
  pub here : at_place qs n ≡ Some queue
  pub made : f queue ≡ q'

pub from_mapped : (f : Queue → Queue) (qs : List (Option Queue)) (n : ℕ) (q' : Queue) → at_place (map (option_map f) qs) n ≡ Some q' → From f qs n q'
from_mapped f qs n q' h = by (at_place qs n) refl (sym (at_mapped f qs n) ∙ h)
  where
    by : (o : Option Queue) → at_place qs n ≡ o → option_map f o ≡ Some q' → From f qs n q'
    by None e i = let z : None ≡ Some q' = i in absurd (cc)
    by (Some q) e i = let z : Some (f q) ≡ Some q' = i in record { queue = q; here = e; made = cc }

pipe_left : (b : Bool) (G : Files) (p q : ℕ) → (q ≡ p → b ≡ true) → is_some (at_place (pipe_if b G p).pipes q) ≡ is_some (at_place G.pipes q)
pipe_left true G p q h = refl
pipe_left false G p q h = by (same_or_not p q)
  where
    by : (q ≡ p) ⊎ (q ≢ p) → is_some (at_place (without_place G.pipes p) q) ≡ is_some (at_place G.pipes q)
    by (inl e) = let z : false ≡ true = h e in absurd (cc)
    by (inr ne) = ap (λ (o : Option (List ℕ)). is_some o) (at_other G.pipes p q ne)

pipe_size : (b : Bool) (G : Files) (p : ℕ) → length (pipe_if b G p).pipes ≡ length G.pipes
pipe_size true G p = refl
pipe_size false G p = length-set G.pipes p None

pipe_rest : (b : Bool) (G : Files) (p : ℕ) → (pipe_if b G p).counters ≡ G.counters
pipe_rest true G p = refl
pipe_rest false G p = refl

or_first : (a b : Bool) → a ≡ true → (a || b) ≡ true
or_first true b h = refl
or_first false b h = let z : false ≡ true = h in absurd (cc)

or_second : (a b : Bool) → b ≡ true → (a || b) ≡ true
or_second true b h = refl
or_second false b h = h

some_mapped : (f : Queue → Queue) (qs : List (Option Queue)) (n : ℕ) → is_some (at_place (map (option_map f) qs) n) ≡ is_some (at_place qs n)
some_mapped f qs n = (mapped_queues f qs).queue n

-- ---- an open file that nothing names ends

module _ (calls : ℕ → Option LxCall) (holding : ℕ → Option ℕ) (M : FilesState) (snd : SoundFiles calls holding M) (file : ℕ) (f : OpenFile) (here : at_place M.plain.files file ≡ Some f) (unheld : f.holds ≡ 0) (unnamed_is : list_any (names file) M.plain.descriptors ≡ false) where
  abbrev files : List (Option OpenFile)
  files = without_place M.plain.files file

  abbrev ended : FileKind → FilesState
  ended k = record { plain = without_file M.plain file k; queues = each_queue (Leave file ∷ end_ops k (without_place M.plain.files file)) M.queues }

  left_at : (i : ℕ) (g : OpenFile) → at_place files i ≡ Some g → (i ≢ file) × (at_place M.plain.files i ≡ Some g)
  left_at i g h = by (same_or_not file i)
    where
      not_here : (j : ℕ) → j ≡ file → at_place files j ≡ Some g → ⊥
      not_here j e k = let z : None ≡ Some g = sym (ap (at_place files) e ∙ none_here M.plain.files file) ∙ k in cc

      by : (i ≡ file) ⊎ (i ≢ file) → (i ≢ file) × (at_place M.plain.files i ≡ Some g)
      by (inl e) = absurd (not_here i e h)
      by (inr ne) = (ne, sym (at_other M.plain.files file i ne) ∙ h)

  -- ---- what is left is there

  module _ (i : ℕ) (g : OpenFile) (at : at_place files i ≡ Some g) where
    reads_left : (G : Files) → G.files ≡ files → (p q : ℕ) → g.kind ≡ kind.PipeRead q → q ≡ p → (has_reader G p || has_writer G p) ≡ true
    reads_left G e p q k h = or_first _ _ (any_at (is_read_end p) G.files i g (ap (λ (l : List (Option OpenFile)). at_place l i) e ∙ at) (ap (is_read_end p) k ∙ ap (λ z. z == p) h ∙ eq_self p))

    writes_left : (G : Files) → G.files ≡ files → (p q : ℕ) → g.kind ≡ kind.PipeWrite q → q ≡ p → (has_reader G p || has_writer G p) ≡ true
    writes_left G e p q k h = or_second _ _ (any_at (is_write_end p) G.files i g (ap (λ (l : List (Option OpenFile)). at_place l i) e ∙ at) (ap (is_write_end p) k ∙ ap (λ z. z == p) h ∙ eq_self p))

    -- it isn't the one that has ended
    not_it : (k : FileKind) → f.kind ≡ k → is_kind k g.kind ≡ false
    not_it k e = by (is_kind k g.kind) refl
      where
        by : (b : Bool) → is_kind k g.kind ≡ b → is_kind k g.kind ≡ false
        by true h = let l = left_at i g at in absurd (l.0 (sym (snd.alone file i f g here l.1 (ap (λ z. is_kind z g.kind) e ∙ h))))
        by false h = h

    not_number : (m n : ℕ) → (m == n) ≡ false → n ≢ m
    not_number m n h e = grind arith

    pipe_there : (G : Files) → G.files ≡ files → (p : ℕ) (os : List Op) → ((n : ℕ) → is_some (at_place (each_queue os M.queues) n) ≡ is_some (at_place M.queues n)) → G.pipes ≡ M.plain.pipes → G.counters ≡ M.plain.counters
        → (j : FileKind) → g.kind ≡ j → is_there M j ≡ true → is_there (record { plain = pipe_if (has_reader G p || has_writer G p) G p; queues = each_queue os M.queues }) j ≡ true
    pipe_there G e p os queues pipes counters (kind.PipeRead q) k h = pipe_left _ G p q (reads_left G e p q k) ∙ ap (λ (l : List (Option (List ℕ))). is_some (at_place l q)) pipes ∙ h
    pipe_there G e p os queues pipes counters (kind.PipeWrite q) k h = pipe_left _ G p q (writes_left G e p q k) ∙ ap (λ (l : List (Option (List ℕ))). is_some (at_place l q)) pipes ∙ h
    pipe_there G e p os queues pipes counters (kind.Counter n) k h = ap (λ (l : List (Option Counter)). is_some (at_place l n)) (pipe_rest (has_reader G p || has_writer G p) G p ∙ counters) ∙ h
    pipe_there G e p os queues pipes counters (kind.Epoll n) k h = queues n ∙ h
    pipe_there G e p os queues pipes counters kind.Input k h = refl
    pipe_there G e p os queues pipes counters (kind.Console which) k h = refl

    twice_mapped : (a b : Queue → Queue) (n : ℕ) → is_some (at_place (map (option_map b) (map (option_map a) M.queues)) n) ≡ is_some (at_place M.queues n)
    twice_mapped a b n = some_mapped b (map (option_map a) M.queues) n ∙ some_mapped a M.queues n

    there_left : (k : FileKind) → f.kind ≡ k → is_there M g.kind ≡ true → is_there (ended k) g.kind ≡ true
    there_left (kind.PipeRead p) e h = pipe_there (armed_on (kind.PipeWrite p) (without_interests file (record M.plain { files = files }))) refl p (Leave file ∷ end_ops (kind.PipeRead p) files)
        (twice_mapped (left_by file) (activated_for (kind.PipeWrite p) Write files)) refl refl g.kind refl h
    there_left (kind.PipeWrite p) e h = pipe_there (armed_on (kind.PipeRead p) (without_interests file (record M.plain { files = files }))) refl p (Leave file ∷ end_ops (kind.PipeWrite p) files)
        (twice_mapped (left_by file) (activated_for (kind.PipeRead p) Read files)) refl refl g.kind refl h
    there_left (kind.Counter m) e h = by g.kind (not_it (kind.Counter m) e) h
      where
        by : (j : FileKind) → is_kind (kind.Counter m) j ≡ false → is_there M j ≡ true → is_there (ended (kind.Counter m)) j ≡ true
        by (kind.Counter n) ne h = ap (λ (o : Option Counter). is_some o) (at_other M.plain.counters m n (not_number m n ne)) ∙ h
        by (kind.PipeRead q) ne h = h
        by (kind.PipeWrite q) ne h = h
        by (kind.Epoll n) ne h = some_mapped (left_by file) M.queues n ∙ h
        by kind.Input ne h = refl
        by (kind.Console which) ne h = refl
    there_left (kind.Epoll m) e h = by g.kind (not_it (kind.Epoll m) e) h
      where
        by : (j : FileKind) → is_kind (kind.Epoll m) j ≡ false → is_there M j ≡ true → is_there (ended (kind.Epoll m)) j ≡ true
        by (kind.Epoll n) ne h = ap (λ (o : Option Queue). is_some o) (at_other (map (option_map (left_by file)) M.queues) m n (not_number m n ne)) ∙ some_mapped (left_by file) M.queues n ∙ h
        by (kind.PipeRead q) ne h = h
        by (kind.PipeWrite q) ne h = h
        by (kind.Counter n) ne h = h
        by kind.Input ne h = refl
        by (kind.Console which) ne h = refl
    there_left kind.Input e h = by g.kind h
      where
        by : (j : FileKind) → is_there M j ≡ true → is_there (ended kind.Input) j ≡ true
        by (kind.Epoll n) h = some_mapped (left_by file) M.queues n ∙ h
        by (kind.PipeRead q) h = h
        by (kind.PipeWrite q) h = h
        by (kind.Counter n) h = h
        by kind.Input h = refl
        by (kind.Console which) h = refl
    there_left (kind.Console w) e h = by g.kind h
      where
        by : (j : FileKind) → is_there M j ≡ true → is_there (ended (kind.Console w)) j ≡ true
        by (kind.Epoll n) h = some_mapped (left_by file) M.queues n ∙ h
        by (kind.PipeRead q) h = h
        by (kind.PipeWrite q) h = h
        by (kind.Counter n) h = h
        by kind.Input h = refl
        by (kind.Console which) h = refl

  -- ---- each queue that is left

  still_lives : (k : FileKind) (i : ℕ) → i ≢ file → lives M.plain i ≡ true → lives (without_file M.plain file k) i ≡ true
  still_lives k i ne h = ap (λ (l : List (Option OpenFile)). is_some (at_place l i)) (file_ends M.plain file k).files ∙ ap (λ (o : Option OpenFile). is_some o) (at_other M.plain.files file i ne) ∙ h

  same_file : (k : FileKind) (d : ℕ) → file_of (without_file M.plain file k) d ≡ file_of M.plain d
  same_file k d = ap (λ (ds : List (Option Descriptor)). option_map (λ (x : Descriptor). x.file) (at_place ds d)) (file_ends M.plain file k).descriptors

  -- its knotes of another end of a pipe active
  armed_left : (k : FileKind) (j : FileKind) (g : Filter) → GrowsAt j files M.plain (without_file M.plain file k) → (n : ℕ) (q : Queue) → at_place (map (option_map (activated_for j g files)) (map (option_map (left_by file)) M.queues)) n ≡ Some q → SoundQueue (without_file M.plain file k) q
  armed_left k j g grows n q h =
      let a = from_mapped (activated_for j g files) (map (option_map (left_by file)) M.queues) n q h in
      let b = from_mapped (left_by file) M.queues n a.queue a.here in
      subst (SoundQueue (without_file M.plain file k)) (ap (activated_for j g files) b.made ∙ a.made)
      (sound_after (without_file M.plain file k) (activated_for j g files (left_by file b.queue)) (flux_name M.plain b.queue.flux) (same_name M.plain (without_file M.plain file k) (same_file k) b.queue.flux)
      (arm_after M.plain (without_file M.plain file k) j files g (flux_name M.plain b.queue.flux) (left_by file b.queue).watches grows
      (before_end M.plain (without_file M.plain file k) file b.queue (still_lives k) (whole_at calls holding M snd n b.queue b.here) (snd.each n b.queue b.here))))

  quiet_left : (k : FileKind) → GrowsNowhere M.plain (without_file M.plain file k) → (n : ℕ) (q : Queue) → at_place (map (option_map (left_by file)) M.queues) n ≡ Some q → SoundQueue (without_file M.plain file k) q
  quiet_left k grows n q h =
      let b = from_mapped (left_by file) M.queues n q h in
      subst (SoundQueue (without_file M.plain file k)) b.made
      (sound_after (without_file M.plain file k) (left_by file b.queue) (flux_name M.plain b.queue.flux) (same_name M.plain (without_file M.plain file k) (same_file k) b.queue.flux)
      (still_after M.plain (without_file M.plain file k) (flux_name M.plain b.queue.flux) (left_by file b.queue).watches grows
      (before_end M.plain (without_file M.plain file k) file b.queue (still_lives k) (whole_at calls holding M snd n b.queue b.here) (snd.each n b.queue b.here))))

  each_left : (k : FileKind) → f.kind ≡ k → (n : ℕ) (q : Queue) → at_place (ended k).queues n ≡ Some q → SoundQueue (without_file M.plain file k) q
  each_left (kind.PipeRead p) e n q h = armed_left (kind.PipeRead p) (kind.PipeWrite p) Write (read_end_ends M.plain file p f here e) n q h
  each_left (kind.PipeWrite p) e n q h = armed_left (kind.PipeWrite p) (kind.PipeRead p) Read (write_end_ends M.plain file p f here e) n q h
  each_left (kind.Counter m) e n q h = quiet_left (kind.Counter m) (counter_ends M.plain file m f here m e) n q h
  each_left (kind.Epoll m) e n q h = by (at_without (map (option_map (left_by file)) M.queues) m n)
    where
      by : (at_place (without_place (map (option_map (left_by file)) M.queues) m) n ≡ None) ⊎ (at_place (without_place (map (option_map (left_by file)) M.queues) m) n ≡ at_place (map (option_map (left_by file)) M.queues) n) → SoundQueue (without_file M.plain file (kind.Epoll m)) q
      by (inl g) = let z : None ≡ Some q = sym g ∙ h in absurd (cc)
      by (inr g) = quiet_left (kind.Epoll m) (epoll_ends M.plain file m f here m e) n q (sym g ∙ h)
  each_left kind.Input e n q h = quiet_left kind.Input (input_ends M.plain file 0 f here e) n q h
  each_left (kind.Console which) e n q h = quiet_left (kind.Console which) (console_ends M.plain file 0 f here which e) n q h

  -- ---- sizes

  sizes_left : (k : FileKind) → HasSizes (ended k)
  sizes_left (kind.PipeRead p) = record {
    descriptors = ap (λ (ds : List (Option Descriptor)). length ds) (file_ends M.plain file (kind.PipeRead p)).descriptors ∙ snd.sizes.descriptors;
    files = ap (λ (fs : List (Option OpenFile)). length fs) (file_ends M.plain file (kind.PipeRead p)).files ∙ length-set M.plain.files file None ∙ snd.sizes.files;
    pipes = pipe_size _ (armed_on (kind.PipeWrite p) (without_interests file (record M.plain { files = files }))) p ∙ snd.sizes.pipes;
    counters = ap (λ (cs : List (Option Counter)). length cs) (pipe_rest _ (armed_on (kind.PipeWrite p) (without_interests file (record M.plain { files = files }))) p) ∙ snd.sizes.counters;
    queues = length_map _ (map (option_map (left_by file)) M.queues) ∙ length_map _ M.queues ∙ snd.sizes.queues;
  }
  sizes_left (kind.PipeWrite p) = record {
    descriptors = ap (λ (ds : List (Option Descriptor)). length ds) (file_ends M.plain file (kind.PipeWrite p)).descriptors ∙ snd.sizes.descriptors;
    files = ap (λ (fs : List (Option OpenFile)). length fs) (file_ends M.plain file (kind.PipeWrite p)).files ∙ length-set M.plain.files file None ∙ snd.sizes.files;
    pipes = pipe_size _ (armed_on (kind.PipeRead p) (without_interests file (record M.plain { files = files }))) p ∙ snd.sizes.pipes;
    counters = ap (λ (cs : List (Option Counter)). length cs) (pipe_rest _ (armed_on (kind.PipeRead p) (without_interests file (record M.plain { files = files }))) p) ∙ snd.sizes.counters;
    queues = length_map _ (map (option_map (left_by file)) M.queues) ∙ length_map _ M.queues ∙ snd.sizes.queues;
  }
  sizes_left (kind.Counter m) = record { descriptors = snd.sizes.descriptors; files = length-set M.plain.files file None ∙ snd.sizes.files; pipes = snd.sizes.pipes; counters = length-set M.plain.counters m None ∙ snd.sizes.counters; queues = length_map _ M.queues ∙ snd.sizes.queues }
  sizes_left (kind.Epoll m) = record { descriptors = snd.sizes.descriptors; files = length-set M.plain.files file None ∙ snd.sizes.files; pipes = snd.sizes.pipes; counters = snd.sizes.counters; queues = length-set (map (option_map (left_by file)) M.queues) m None ∙ length_map _ M.queues ∙ snd.sizes.queues }
  sizes_left kind.Input = record { descriptors = snd.sizes.descriptors; files = length-set M.plain.files file None ∙ snd.sizes.files; pipes = snd.sizes.pipes; counters = snd.sizes.counters; queues = length_map _ M.queues ∙ snd.sizes.queues }
  sizes_left (kind.Console which) = record { descriptors = snd.sizes.descriptors; files = length-set M.plain.files file None ∙ snd.sizes.files; pipes = snd.sizes.pipes; counters = snd.sizes.counters; queues = length_map _ M.queues ∙ snd.sizes.queues }

  -- ---- all of it

  end_leaves : (k : FileKind) → f.kind ≡ k → Leaves calls M.plain (without_file M.plain file k) M.queues (Leave file ∷ end_ops k files)
  end_leaves k e = record {
    free = ((λ d g. unnamed file M.plain.descriptors d unnamed_is (sym (same_file k d) ∙ g)), end_free (without_file M.plain file k) k files);
    keeps = λ s c is. keeps_by M.plain (without_file M.plain file k) c (same (low_argument c 0)) (same (low_argument c 2));
    spares = λ s c is h. (tt, end_spares h.place k files (λ z. apart_queue M.plain (low_argument c 0) h.place file f snd.alone h.is_place here unnamed_is (e ∙ z)));
  }
    where
      same : (d : ℕ) → SameAt M.plain (without_file M.plain file k) d
      same d = ends_same M.plain (without_file M.plain file k) file (file_ends M.plain file k) unnamed_is d

  pub sound_ended : (k : FileKind) → f.kind ≡ k → SoundFiles calls holding (ended k)
  sound_ended k e = record {
    sizes = sizes_left k;
    named = λ fd d h. let o = before_at fd d h in still_lives k d.file (apart fd d o) (snd.named fd d o);
    alone = λ i j a b ha hb k. snd.alone i j a b (at_before i a ha).1 (at_before j b hb).1 k;
    there = λ i g h. let l = at_before i g h in there_left i g (at_files i g h) k e (snd.there i g l.1);
    holders = λ i g h. snd.holders i g (at_before i g h).1;
    held = λ s i h. let l = snd.held s i h in (l.0, still_lives k i (not_held s i l.0 h) l.1);
    each = each_left k e;
    epolls = each_epoll (Leave file ∷ end_ops k files) snd.epolls;
    stand = queues_step calls M.plain (without_file M.plain file k) (Leave file ∷ end_ops k files) M.queues snd.epolls (end_leaves k e) snd.stand;
    rooms = rooms_step (Leave file ∷ end_ops k files) M.queues snd.epolls snd.rooms;
    fluxes = fluxes_step calls M.plain (without_file M.plain file k) (Leave file ∷ end_ops k files) M.queues (end_leaves k e) snd.fluxes;
  }
    where
      at_files : (i : ℕ) (g : OpenFile) → at_place (without_file M.plain file k).files i ≡ Some g → at_place files i ≡ Some g
      at_files i g h = sym (ap (λ (l : List (Option OpenFile)). at_place l i) (file_ends M.plain file k).files) ∙ h

      at_before : (i : ℕ) (g : OpenFile) → at_place (without_file M.plain file k).files i ≡ Some g → (i ≢ file) × (at_place M.plain.files i ≡ Some g)
      at_before i g h = left_at i g (at_files i g h)

      before_at : (fd : ℕ) (d : Descriptor) → at_place (without_file M.plain file k).descriptors fd ≡ Some d → at_place M.plain.descriptors fd ≡ Some d
      before_at fd d h = sym (ap (λ (l : List (Option Descriptor)). at_place l fd) (file_ends M.plain file k).descriptors) ∙ h

      apart : (fd : ℕ) (d : Descriptor) → at_place M.plain.descriptors fd ≡ Some d → d.file ≢ file
      apart fd d h z = unnamed file M.plain.descriptors fd unnamed_is (ap (option_map (λ (x : Descriptor). x.file)) h ∙ ap {B = Option ℕ} (λ y. Some y) z)

      not_held : (s i : ℕ) → s < 128 → holding s ≡ Some i → i ≢ file
      not_held s i l h z =
          let a = some_holds holding file s 128 l (h ∙ ap {B = Option ℕ} (λ y. Some y) z) in
          let b = snd.holders file f here in
          omega arith

-- ---- an open file ends where nothing names it any more

pub sound_settled : (calls : ℕ → Option LxCall) (holding : ℕ → Option ℕ) (M : FilesState) → SoundFiles calls holding M → (file : ℕ) → SoundFiles calls holding (record { plain = closed_if_unnamed M.plain file; queues = each_queue (settle_ops M.plain.descriptors M.plain.files file) M.queues })
sound_settled calls holding M snd file = by (at_place M.plain.files file) refl
  where
    of : (f : OpenFile) → at_place M.plain.files file ≡ Some f → (b : Bool) → is_unnamed M.plain (numbered file f) ≡ b
        → SoundFiles calls holding (record { plain = if b then without_file M.plain file f.kind else M.plain; queues = each_queue (if b then (Leave file ∷ end_ops f.kind (without_place M.plain.files file)) else []) M.queues })
    of f h true e = let t = both_true (f.holds == 0) (not (list_any (names file) M.plain.descriptors)) e in sound_ended calls holding M snd file f h (eq_is f.holds 0 t.0) (not_any _ t.1) f.kind refl
    of f h false e = snd

    by : (o : Option OpenFile) → at_place M.plain.files file ≡ o → SoundFiles calls holding (record { plain = closed_if_unnamed_as M.plain (option_map (numbered file) o); queues = each_queue (settle_ops_of M.plain.descriptors M.plain.files file o) M.queues })
    by None e = snd
    by (Some f) e = of f e (is_unnamed M.plain (numbered file f)) refl
