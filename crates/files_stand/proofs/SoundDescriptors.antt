-- What holds of the files at all times is kept, and the clause Files too, where a descriptor is made, changed or closed.
use Rattle.std.proofs.Common.{◌≡◌, ◌≢◌, ◌⊎◌, inl, inr, ℕ, Bool, true, false, List, [], Option, Some, None, length, refl, sym, ap, ◌∙◌, subst}
use Rattle.std.specs.Prelude.{is_some, slice_set}
use Rattle.std.specs.Option.{option_map}
use Rattle.std.specs.Int.Bits.{and_self}
use Rattle.std.proofs.lemmas.List.{length-set}
use Rattle.kqueue_core.specs.Queues.{Queue}
use Rattle.kqueue_core.specs.declared.knotes.Flux.{Flux}
use Rattle.lx_machine.specs.Calls.{low_argument}
use Rattle.lx_machine.specs.Epoll.{epoll_number, ready, ready_at}
use Rattle.lx_machine.specs.EpollCtl.{epoll_of, file_of}
use Rattle.lx_machine.specs.Files.{descriptor, with_descriptor}
use Rattle.lx_machine.specs.Lists.{at_place, bind}
use Rattle.lx_machine.specs.declared.calls.LxCall.{LxCall}
use Rattle.lx_machine.specs.declared.files.Descriptor.{Descriptor}
use Rattle.lx_machine.specs.declared.files.FileKind.{FileKind}
use Rattle.lx_machine.specs.declared.files.FileKind.TheVariants as kind
use Rattle.lx_machine.specs.declared.files.Files.{Files}
use Rattle.lx_machine.specs.declared.files.Interest.{Interest}
use Rattle.lx_machine.specs.declared.files.OpenFile.{OpenFile}
use Rattle.lx_machine.specs.declared.label.LxSide.TheVariants as side
use Rattle.bsd_files.specs.Calls.{set_flag, shut, with_plain}
use Rattle.bsd_files.specs.State.{FilesState, is_awaited}
use Rattle.files_stand.specs.FilesStand.{AllStand, FilesStand, QueueStands}
use Rattle.files_stand.specs.Fluxes.{HasFlux}
use Rattle.files_stand.specs.SoundFiles.{SoundFiles, flux_name, is_there, lives, name_at}
use Rattle.files_stand.specs.Steps.{Keeps}
use Rattle.files_stand.proofs.Closes.{not_on, not_queue, queue_of}
use Rattle.files_stand.proofs.Entries.{Leaves, fluxes_step, queues_step, step_stands}
use Rattle.files_stand.proofs.Grows.{Among, GrowsNowhere}
use Rattle.files_stand.proofs.Queues.{epoll_there}
use Rattle.files_stand.proofs.SoundEnds.{sound_settled}
use Rattle.files_stand.proofs.SoundMoves.{whole_at}
use Rattle.files_stand.proofs.SoundQueues.{before_of, sound_after, still_after}
use Rattle.files_stand.proofs.Places.{same_or_not, set_other, set_is, placed_here}
use Rattle.files_stand.proofs.Names.{keeps_from}

-- ---- what a change of an interest names hangs on the open files of its descriptors alone

some_of : (o : Option Descriptor) → is_some o ≡ is_some (option_map (λ (x : Descriptor). x.file) o)
some_of None = refl
some_of (Some x) = refl

kind_through : (files : List (Option OpenFile)) (o : Option Descriptor) → bind o (λ x. bind (at_place files x.file) (λ f. Some f.kind)) ≡ bind (option_map (λ (x : Descriptor). x.file) o) (λ i. bind (at_place files i) (λ f. Some f.kind))
kind_through files None = refl
kind_through files (Some x) = refl

module _ (F : Files) (ds' : List (Option Descriptor)) where
  abbrev described : Files
  described = record F { descriptors = ds' }

  epoll_same : (d : ℕ) → file_of described d ≡ file_of F d → epoll_of described d ≡ epoll_of F d
  epoll_same d h = ap (λ (o : Option FileKind). bind o epoll_number)
      (kind_through F.files (at_place ds' d) ∙ ap (λ (o : Option ℕ). bind o (λ i. bind (at_place F.files i) (λ f. Some f.kind))) h ∙ sym (kind_through F.files (at_place F.descriptors d)))

  some_same : (d : ℕ) → file_of described d ≡ file_of F d → is_some (at_place ds' d) ≡ is_some (at_place F.descriptors d)
  some_same d h = some_of (at_place ds' d) ∙ ap (λ (o : Option ℕ). is_some o) h ∙ sym (some_of (at_place F.descriptors d))

  pub described_keeps : (c : LxCall) → file_of described (low_argument c 0) ≡ file_of F (low_argument c 0) → file_of described (low_argument c 2) ≡ file_of F (low_argument c 2) → Keeps F described c
  described_keeps c a b = keeps_from F described c (some_same (low_argument c 0) a) (some_same (low_argument c 2) b) (epoll_same (low_argument c 0) a) (epoll_same (low_argument c 2) b) b

  ready_same : (k : FileKind) → ready described k ≡ ready F k
  ready_same (kind.PipeRead p) = refl
  ready_same (kind.PipeWrite p) = refl
  ready_same kind.Input = refl
  ready_same (kind.Console side.Out) = refl
  ready_same (kind.Console side.Err) = refl
  ready_same (kind.Counter n) = refl
  ready_same (kind.Epoll n) = refl

  described_grows : GrowsNowhere F described
  described_grows n = by (at_place F.files n)
    where
      by : (o : Option OpenFile) → Among (ready_at described o) (ready_at F o)
      by None = and_self 0
      by (Some f) = rw (ready_same f.kind) (and_self _)

-- other descriptors, each of an open file that lives, which leave what changes at work name
module _ (calls : ℕ → Option LxCall) (holding : ℕ → Option ℕ) (M : FilesState) (snd : SoundFiles calls holding M) (ds' : List (Option Descriptor)) (size : length ds' ≡ 256)
    (named : (fd : ℕ) (d : Descriptor) → at_place ds' fd ≡ Some d → lives M.plain d.file ≡ true) (keeps : (s : ℕ) (c : LxCall) → calls s ≡ Some c → Keeps M.plain (record M.plain { descriptors = ds' }) c) where
  abbrev F' : Files
  F' = record M.plain { descriptors = ds' }

  name_by : (n : ℕ) (flux : Option Flux) (is : List Interest) (q : Queue) → QueueStands calls M.plain n flux is q.watches → flux_name F' flux ≡ flux_name M.plain flux
  name_by n None is q st = refl
  name_by n (Some flux) is q st = let k = keeps flux.slot st.call st.own in subst (λ (d : ℕ). name_at d (file_of F' d) ≡ name_at d (file_of M.plain d)) st.on (ap (name_at (low_argument st.call 2)) k.file)

  name_same : (n : ℕ) (q : Queue) → at_place M.queues n ≡ Some q → flux_name F' q.flux ≡ flux_name M.plain q.flux
  name_same n q h = let e = epoll_there calls M.plain M.queues snd.epolls n q snd.stand h in name_by n q.flux e.interests q e.stands

  pub described_leaves : Leaves calls M.plain F' M.queues []
  described_leaves = record { free = tt; keeps = keeps; spares = λ s c is h. tt }

  pub sound_described : SoundFiles calls holding (record M { plain = record M.plain { descriptors = ds' } })
  sound_described = record {
    sizes = record { descriptors = size; files = snd.sizes.files; pipes = snd.sizes.pipes; counters = snd.sizes.counters; queues = snd.sizes.queues };
    named = named;
    alone = snd.alone;
    there = λ i f h. there_same f.kind ∙ snd.there i f h;
    holders = snd.holders;
    held = snd.held;
    each = λ n q h. sound_after F' q (flux_name M.plain q.flux) (name_same n q h)
        (still_after M.plain F' (flux_name M.plain q.flux) q.watches (described_grows M.plain ds')
        (before_of M.plain F' q (λ i l. l) (whole_at calls holding M snd n q h) (snd.each n q h)));
    epolls = snd.epolls;
    stand = queues_step calls M.plain F' [] M.queues snd.epolls described_leaves snd.stand;
    rooms = snd.rooms;
    fluxes = fluxes_step calls M.plain F' [] M.queues described_leaves snd.fluxes;
  }
    where
      there_same : (k : FileKind) → is_there (record M { plain = F' }) k ≡ is_there M k
      there_same (kind.PipeRead p) = refl
      there_same (kind.PipeWrite p) = refl
      there_same (kind.Counter n) = refl
      there_same (kind.Epoll n) = refl
      there_same kind.Input = refl
      there_same (kind.Console which) = refl

-- ---- one descriptor

-- this at a descriptor, or nothing
abbrev pub redescribed : Files → ℕ → Option Descriptor → Files
redescribed F fd o = record F { descriptors = slice_set F.descriptors fd o }

pub redescribed_stands : (calls : ℕ → Option LxCall) (M : FilesState) (L : Files) → FilesStand calls M L → (fd : ℕ) (o : Option Descriptor) → ((s : ℕ) (c : LxCall) → calls s ≡ Some c → Keeps M.plain (redescribed M.plain fd o) c)
    → FilesStand calls (record M { plain = redescribed M.plain fd o }) (redescribed L fd o)
redescribed_stands calls M L st fd o keeps = step_stands (λ F. redescribed F fd o) (λ F. redescribed F fd o) (λ F. []) (record { plain_is = λ F. refl; epolls = λ F. refl }) calls M L st
    (record { free = tt; keeps = keeps; spares = λ s c is h. tt })

file_other : (F : Files) (fd d : ℕ) (o : Option Descriptor) → d ≢ fd → file_of (redescribed F fd o) d ≡ file_of F d
file_other F fd d o ne = ap (option_map (λ (x : Descriptor). x.file)) (set_other F.descriptors fd d o ne)

-- a descriptor that no change at work names is set, or closed
pub apart_keeps : (F : Files) (fd : ℕ) (o : Option Descriptor) (c : LxCall) → low_argument c 0 ≢ fd → low_argument c 2 ≢ fd → Keeps F (redescribed F fd o) c
apart_keeps F fd o c a b = described_keeps F (slice_set F.descriptors fd o) c (file_other F fd (low_argument c 0) o a) (file_other F fd (low_argument c 2) o b)

-- the close flag of a descriptor is set
pub flag_keeps : (F : Files) (fd : ℕ) (d : Descriptor) (on : Bool) → at_place F.descriptors fd ≡ Some d → (c : LxCall) → Keeps F (redescribed F fd (Some (descriptor d.file on))) c
flag_keeps F fd d on h c = described_keeps F (slice_set F.descriptors fd (Some (descriptor d.file on))) c (same (low_argument c 0)) (same (low_argument c 2))
  where
    here : (e : ℕ) → e ≡ fd → file_of (redescribed F fd (Some (descriptor d.file on))) e ≡ file_of F e
    here e k = rw k (ap (option_map (λ (x : Descriptor). x.file)) (placed_here F.descriptors fd (descriptor d.file on) d h) ∙ sym (ap (option_map (λ (x : Descriptor). x.file)) h))

    same : (e : ℕ) → file_of (redescribed F fd (Some (descriptor d.file on))) e ≡ file_of F e
    same e = by (same_or_not fd e)
      where
        by : (e ≡ fd) ⊎ (e ≢ fd) → file_of (redescribed F fd (Some (descriptor d.file on))) e ≡ file_of F e
        by (inl k) = here e k
        by (inr ne) = file_other F fd e (Some (descriptor d.file on)) ne

-- changes at work name open descriptors
module _ (calls : ℕ → Option LxCall) (F : Files) (qs : List (Option Queue)) (es : List (Option (List Interest))) (st : AllStand calls F qs es) (s : ℕ) (c : LxCall) (own : calls s ≡ Some c) (h : HasFlux F qs s c) (fd : ℕ) (free : at_place F.descriptors fd ≡ None) where
  pub first_open : low_argument c 0 ≢ fd
  first_open e =
      let q = queue_of F (low_argument c 0) h.place h.is_place in
      let z : None ≡ Some q.descriptor = sym free ∙ ap (at_place F.descriptors) (sym e) ∙ q.opened in
      absurd (cc)

  pub second_open : low_argument c 2 ≢ fd
  second_open e =
      let t = epoll_there calls F qs es h.place h.queue st h.is_queue in
      let k = subst (λ f. QueueStands calls F h.place f t.interests h.queue.watches) h.flux t.stands in
      let z : Some c ≡ Some k.call = sym own ∙ k.own in
      let same : c ≡ k.call = cc in
      let none : file_of F (low_argument c 2) ≡ None = ap (option_map (λ (x : Descriptor). x.file)) (ap (at_place F.descriptors) e ∙ free) in
      let y : None ≡ Some k.file = sym none ∙ ap (λ (d : LxCall). file_of F (low_argument d 2)) same ∙ k.open_file in
      absurd (cc)

module _ (calls : ℕ → Option LxCall) (holding : ℕ → Option ℕ) (M : FilesState) (snd : SoundFiles calls holding M) where
  -- one descriptor of an open file that lives, or none
  pub sound_redescribed : (fd : ℕ) (o : Option Descriptor) → ((d : Descriptor) → o ≡ Some d → lives M.plain d.file ≡ true) → ((s : ℕ) (c : LxCall) → calls s ≡ Some c → Keeps M.plain (redescribed M.plain fd o) c) → SoundFiles calls holding (record M { plain = redescribed M.plain fd o })
  sound_redescribed fd o living keeps = sound_described calls holding M snd (slice_set M.plain.descriptors fd o) (length-set M.plain.descriptors fd o ∙ snd.sizes.descriptors) named keeps
    where
      named : (e : ℕ) (d : Descriptor) → at_place (slice_set M.plain.descriptors fd o) e ≡ Some d → lives M.plain d.file ≡ true
      named e d h = by (set_is M.plain.descriptors fd e o d h)
        where
          by : (at_place M.plain.descriptors e ≡ Some d) ⊎ (o ≡ Some d) → lives M.plain d.file ≡ true
          by (inl k) = snd.named e d k
          by (inr k) = living d k

  -- a new descriptor at a free number
  pub sound_installed : (fd : ℕ) (d : Descriptor) → at_place M.plain.descriptors fd ≡ None → lives M.plain d.file ≡ true → SoundFiles calls holding (with_plain M (with_descriptor M.plain fd d))
  sound_installed fd d free living = sound_redescribed fd (Some d) (λ e h. alive d e h living)
      (λ s c is. let h = snd.fluxes s c is in apart_keeps M.plain fd (Some d) c (first_open calls M.plain M.queues snd.epolls snd.stand s c is h fd free) (second_open calls M.plain M.queues snd.epolls snd.stand s c is h fd free))
    where
      alive : (d e : Descriptor) → Some d ≡ Some e → lives M.plain d.file ≡ true → lives M.plain e.file ≡ true
      alive d e h l = let z : d ≡ e = cc in ap (λ (x : Descriptor). lives M.plain x.file) (sym z) ∙ l

  -- its close flag
  pub sound_flag : (fd : ℕ) (d : Descriptor) (on : Bool) → at_place M.plain.descriptors fd ≡ Some d → SoundFiles calls holding (with_plain M (set_flag M.plain fd on))
  sound_flag fd d on h = rw h (sound_redescribed fd (Some (descriptor d.file on)) (λ e k. alive e k) (λ s c is. flag_keeps M.plain fd d on h c))
    where
      alive : (e : Descriptor) → Some (descriptor d.file on) ≡ Some e → lives M.plain e.file ≡ true
      alive e k = let z : descriptor d.file on ≡ e = cc in ap (λ (x : Descriptor). lives M.plain x.file) (sym z) ∙ snd.named fd d h

  -- a close that doesn't wait
  pub sound_shut : (fd : ℕ) (x : Descriptor) → at_place M.plain.descriptors fd ≡ Some x → is_awaited M fd ≡ false → SoundFiles calls holding (shut M fd)
  sound_shut fd x opened calm = rw opened
      (sound_settled calls holding (record M { plain = redescribed M.plain fd None })
      (sound_redescribed fd None (λ d e. absurd (cc)) (λ s c is. let h = snd.fluxes s c is in
      apart_keeps M.plain fd None c (λ e. not_queue M fd x opened calm s c h (ap (epoll_of M.plain) (sym e) ∙ h.is_place)) (not_on M fd x opened calm s c h)))
      x.file)

-- ---- the clause Files

module _ (calls : ℕ → Option LxCall) (M : FilesState) (L : Files) (st : FilesStand calls M L) where
  pub installed_stands : (fd : ℕ) (d : Descriptor) → at_place M.plain.descriptors fd ≡ None → FilesStand calls (with_plain M (with_descriptor M.plain fd d)) (with_descriptor L fd d)
  installed_stands fd d free = redescribed_stands calls M L st fd (Some d)
      (λ s c is. let h = st.fluxes s c is in apart_keeps M.plain fd (Some d) c (first_open calls M.plain M.queues L.epolls st.queues s c is h fd free) (second_open calls M.plain M.queues L.epolls st.queues s c is h fd free))

  pub flag_stands : (fd : ℕ) (d : Descriptor) (on : Bool) → at_place M.plain.descriptors fd ≡ Some d → FilesStand calls (with_plain M (set_flag M.plain fd on)) (with_descriptor L fd (descriptor d.file on))
  flag_stands fd d on h = rw h (redescribed_stands calls M L st fd (Some (descriptor d.file on)) (λ s c is. flag_keeps M.plain fd d on h c))
