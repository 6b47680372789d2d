-- A new counter, queue or pipe, in both machines: what holds at all times is kept, and the clause Files too.
use Rattle.std.proofs.Common.{◌≡◌, ◌≢◌, ◌⊎◌, inl, inr, ℕ, ◌<◌, Bool, true, false, List, [], Option, Some, None, length, refl, sym, ap, ◌∙◌, subst, arith}
use Rattle.std.specs.Prelude.{◌==◌, is_some}
use Rattle.std.specs.Int.Bits.{and_self}
use Rattle.std.proofs.lemmas.List.{length-set}
use Rattle.kqueue_core.specs.Queues.{Queue}
use Rattle.lx_machine.specs.Epoll.{ready}
use Rattle.lx_machine.specs.Files.{is_read_end, is_write_end, with_file}
use Rattle.lx_machine.specs.Interests.{is_kind}
use Rattle.lx_machine.specs.Lists.{at_place, first_free, with_place}
use Rattle.lx_machine.specs.declared.calls.LxCall.{LxCall}
use Rattle.lx_machine.specs.declared.files.Counter.{Counter}
use Rattle.lx_machine.specs.declared.files.FileKind.{FileKind}
use Rattle.lx_machine.specs.declared.files.FileKind.TheVariants as kind
use Rattle.lx_machine.specs.declared.files.Files.{Files}
use Rattle.lx_machine.specs.declared.files.Interest.{Interest}
use Rattle.lx_machine.specs.declared.label.LxSide.TheVariants as side
use Rattle.open_files.proofs.Edits.{first_there}
use Rattle.open_files.specs.Making.{with_counter_at}
use Rattle.open_files.specs.declared.making.FileNumbers.{FileNumbers}
use Rattle.bsd_files.specs.Calls.{with_plain, with_queue_at}
use Rattle.bsd_files.specs.State.{FilesState}
use Rattle.files_stand.specs.FilesStand.{AllStand, FilesStand, PlaceStands}
use Rattle.files_stand.specs.Fluxes.{HasFlux}
use Rattle.files_stand.specs.SoundFiles.{SoundFiles, SoundQueue, is_there}
use Rattle.files_stand.proofs.Entries.{step_stands}
use Rattle.files_stand.proofs.Fluxes.{plain_flux}
use Rattle.files_stand.proofs.Grows.{Among}
use Rattle.files_stand.proofs.Ops.{plain_stands}
use Rattle.files_stand.proofs.SoundMakes.{any_other, made_leaves, new_file, sound_made}
use Rattle.files_stand.proofs.Wholes.{place_at}
use Rattle.files_stand.proofs.Places.{same_or_not, set_other, placed_other, placed_there, placed_is, still_there, apart_free}

-- the least free number is there, and free
pub free_place : {X : Type 0} (xs : List (Option X)) (m : ℕ) → first_free xs ≡ Some m → (m < length xs) × (at_place xs m ≡ None)
free_place {X = X} xs m h = let t = first_there 0 m xs h in subst (λ (i : ℕ). (i < length xs) × (at_place xs i ≡ None)) (omega arith) t.1

pub not_equal : (m n : ℕ) → m ≢ n → ((n == m) ≡ false) × ((m == n) ≡ false)
not_equal m n ne = (by (n == m) refl, of (m == n) refl)
  where
    by : (b : Bool) → (n == m) ≡ b → b ≡ false
    by true e = absurd (ne (grind arith))
    by false e = refl

    of : (b : Bool) → (m == n) ≡ b → b ≡ false
    of true e = absurd (ne (grind arith))
    of false e = refl

-- ---- a counter

module _ (calls : ℕ → Option LxCall) (holding : ℕ → Option ℕ) (M : FilesState) (snd : SoundFiles calls holding M) (at : FileNumbers) (file_is : first_free M.plain.files ≡ Some at.file) (number_is : first_free M.plain.counters ≡ Some at.number) (value : ℕ) (semaphore : Bool) where
  abbrev made : Files
  made = with_counter_at M.plain at value semaphore

  no_file : at_place M.plain.files at.file ≡ None
  no_file = (free_place M.plain.files at.file file_is).1

  no_counter : (m : ℕ) → is_some (at_place M.plain.counters m) ≡ true → m ≢ at.number
  no_counter m l = apart_free M.plain.counters at.number m (free_place M.plain.counters at.number number_is).1 l

  counter_fresh : (k : FileKind) → is_there M k ≡ true → (is_kind (kind.Counter at.number) k ≡ false) × (is_kind k (kind.Counter at.number) ≡ false)
  counter_fresh (kind.Counter m) l = not_equal m at.number (no_counter m l)
  counter_fresh (kind.PipeRead q) l = (refl, refl)
  counter_fresh (kind.PipeWrite q) l = (refl, refl)
  counter_fresh (kind.Epoll n) l = (refl, refl)
  counter_fresh kind.Input l = (refl, refl)
  counter_fresh (kind.Console which) l = (refl, refl)

  counter_there : (k : FileKind) → is_there M k ≡ true → is_there (record M { plain = made }) k ≡ true
  counter_there (kind.Counter m) l = still_there M.plain.counters at.number m _ l
  counter_there (kind.PipeRead q) l = l
  counter_there (kind.PipeWrite q) l = l
  counter_there (kind.Epoll n) l = l
  counter_there kind.Input l = refl
  counter_there (kind.Console which) l = refl

  counter_ready : (k : FileKind) → is_there M k ≡ true → Among (ready made k) (ready M.plain k)
  counter_ready (kind.Counter m) l = rw (placed_other M.plain.counters at.number m (record { value = value; semaphore = semaphore }) (no_counter m l)) (and_self _)
  counter_ready (kind.PipeRead q) l = rw (any_other (is_write_end q) M.plain.files at.file (new_file (kind.Counter at.number) false) no_file refl) (and_self _)
  counter_ready (kind.PipeWrite q) l = rw (any_other (is_read_end q) M.plain.files at.file (new_file (kind.Counter at.number) false) no_file refl) (and_self _)
  counter_ready (kind.Epoll n) l = refl
  counter_ready kind.Input l = and_self _
  counter_ready (kind.Console side.Out) l = and_self _
  counter_ready (kind.Console side.Err) l = and_self _

  pub sound_counter_made : SoundFiles calls holding (with_plain M (with_counter_at M.plain at value semaphore))
  sound_counter_made = sound_made calls holding M snd made at.file (kind.Counter at.number) refl refl no_file
      (record { descriptors = snd.sizes.descriptors; files = length-set M.plain.files at.file _ ∙ snd.sizes.files; pipes = snd.sizes.pipes; counters = length-set M.plain.counters at.number _ ∙ snd.sizes.counters; queues = snd.sizes.queues })
      (λ i g h. counter_fresh g.kind (snd.there i g h)) counter_there
      (ap (λ (o : Option Counter). is_some o) (placed_there M.plain.counters at.number (record { value = value; semaphore = semaphore }) (free_place M.plain.counters at.number number_is).0))
      (λ i g h. counter_ready g.kind (snd.there i g h))

  pub counter_made_stands : (L : Files) → FilesStand calls M L → FilesStand calls (with_plain M (with_counter_at M.plain at value semaphore)) (with_counter_at L at value semaphore)
  counter_made_stands L st = step_stands (λ F. with_counter_at F at value semaphore) (λ F. with_counter_at F at value semaphore) (λ F. []) (record { plain_is = λ F. refl; epolls = λ F. refl }) calls M L st
      (made_leaves calls holding M snd made at.file (kind.Counter at.number) refl refl no_file)

-- ---- a queue

abbrev empty : Queue
empty = record { watches = []; flux = None }

-- an empty queue stands for an epoll without interests
new_stands : (calls : ℕ → Option LxCall) (F : Files) (qs : List (Option Queue)) (es : List (Option (List Interest))) (n : ℕ) → n < length qs → length qs ≡ length es → AllStand calls F qs es → AllStand calls F (with_place qs n empty) (with_place es n [])
new_stands calls F qs es n l rooms st m = by (same_or_not n m)
  where
    within : n < length es
    within = omega arith

    here : (k : ℕ) → k ≡ n → PlaceStands calls F k (at_place (with_place qs n empty) k) (at_place (with_place es n []) k)
    here k e = rw e (place_at calls F n (Some empty) _ (Some []) _ (placed_there qs n empty l) (placed_there es n [] within) (λ p. refl))

    by : (m ≡ n) ⊎ (m ≢ n) → PlaceStands calls F m (at_place (with_place qs n empty) m) (at_place (with_place es n []) m)
    by (inl e) = here m e
    by (inr ne) = place_at calls F m _ _ _ _ (set_other qs n m (Some empty) ne) (set_other es n m (Some []) ne) (st m)

new_flux : (F : Files) (qs : List (Option Queue)) (n : ℕ) → at_place qs n ≡ None → (s : ℕ) (c : LxCall) → HasFlux F qs s c → HasFlux F (with_place qs n empty) s c
new_flux F qs n free s c h = record { place = h.place; is_place = h.is_place; queue = h.queue; is_queue = set_other qs n h.place (Some empty) apart ∙ h.is_queue; flux = h.flux }
  where
    apart : h.place ≢ n
    apart e = let z : None ≡ Some h.queue = sym free ∙ ap (at_place qs) (sym e) ∙ h.is_queue in absurd (cc)

module _ (calls : ℕ → Option LxCall) (holding : ℕ → Option ℕ) (M : FilesState) (snd : SoundFiles calls holding M) (at : FileNumbers) (file_is : first_free M.plain.files ≡ Some at.file) (number_is : first_free M.queues ≡ Some at.number) where
  abbrev with_empty : FilesState
  with_empty = record M { queues = with_place M.queues at.number empty }

  no_queue : at_place M.queues at.number ≡ None
  no_queue = (free_place M.queues at.number number_is).1

  empty_sound : SoundQueue M.plain empty
  empty_sound = record { watches = record { once = λ f d. omega arith; whole = omega arith; few = omega arith }; alive = refl; found = refl }

  empty_there : (k : FileKind) → is_there M k ≡ true → is_there with_empty k ≡ true
  empty_there (kind.Epoll n) l = still_there M.queues at.number n empty l
  empty_there (kind.Counter m) l = l
  empty_there (kind.PipeRead q) l = l
  empty_there (kind.PipeWrite q) l = l
  empty_there kind.Input l = refl
  empty_there (kind.Console which) l = refl

  each_with : (n : ℕ) (q : Queue) → (at_place M.queues n ≡ Some q) ⊎ ((n ≡ at.number) × (empty ≡ q)) → SoundQueue M.plain q
  each_with n q (inl h) = snd.each n q h
  each_with n q (inr h) = subst (SoundQueue M.plain) h.1 empty_sound

  sound_empty : SoundFiles calls holding with_empty
  sound_empty = record {
    sizes = record { descriptors = snd.sizes.descriptors; files = snd.sizes.files; pipes = snd.sizes.pipes; counters = snd.sizes.counters; queues = length-set M.queues at.number (Some empty) ∙ snd.sizes.queues };
    named = snd.named;
    alone = snd.alone;
    there = λ i f h. empty_there f.kind (snd.there i f h);
    holders = snd.holders;
    held = snd.held;
    each = λ n q h. each_with n q (placed_is M.queues at.number n empty q h);
    epolls = with_place snd.epolls at.number [];
    stand = new_stands calls M.plain M.queues snd.epolls at.number (free_place M.queues at.number number_is).0 snd.rooms snd.stand;
    rooms = length-set M.queues at.number (Some empty) ∙ snd.rooms ∙ sym (length-set snd.epolls at.number (Some []));
    fluxes = λ s c is. new_flux M.plain M.queues at.number no_queue s c (snd.fluxes s c is);
  }

  abbrev filed : Files
  filed = with_file M.plain at.file (kind.Epoll at.number) false

  no_place : at_place M.plain.files at.file ≡ None
  no_place = (free_place M.plain.files at.file file_is).1

  queue_fresh : (k : FileKind) → is_there M k ≡ true → (is_kind (kind.Epoll at.number) k ≡ false) × (is_kind k (kind.Epoll at.number) ≡ false)
  queue_fresh (kind.Epoll n) l = not_equal n at.number (apart_free M.queues at.number n no_queue l)
  queue_fresh (kind.Counter m) l = (refl, refl)
  queue_fresh (kind.PipeRead q) l = (refl, refl)
  queue_fresh (kind.PipeWrite q) l = (refl, refl)
  queue_fresh kind.Input l = (refl, refl)
  queue_fresh (kind.Console which) l = (refl, refl)

  filed_there : (k : FileKind) → is_there with_empty k ≡ true → is_there (record with_empty { plain = filed }) k ≡ true
  filed_there (kind.Epoll n) l = l
  filed_there (kind.Counter m) l = l
  filed_there (kind.PipeRead q) l = l
  filed_there (kind.PipeWrite q) l = l
  filed_there kind.Input l = refl
  filed_there (kind.Console which) l = refl

  filed_ready : (k : FileKind) → Among (ready filed k) (ready M.plain k)
  filed_ready (kind.PipeRead q) = rw (any_other (is_write_end q) M.plain.files at.file (new_file (kind.Epoll at.number) false) no_place refl) (and_self _)
  filed_ready (kind.PipeWrite q) = rw (any_other (is_read_end q) M.plain.files at.file (new_file (kind.Epoll at.number) false) no_place refl) (and_self _)
  filed_ready (kind.Counter m) = and_self _
  filed_ready (kind.Epoll n) = refl
  filed_ready kind.Input = and_self _
  filed_ready (kind.Console side.Out) = and_self _
  filed_ready (kind.Console side.Err) = and_self _

  pub sound_queue_made : SoundFiles calls holding (with_queue_at M at)
  sound_queue_made = sound_made calls holding with_empty sound_empty filed at.file (kind.Epoll at.number) refl refl no_place
      (record { descriptors = snd.sizes.descriptors; files = length-set M.plain.files at.file _ ∙ snd.sizes.files; pipes = snd.sizes.pipes; counters = snd.sizes.counters; queues = length-set M.queues at.number (Some empty) ∙ snd.sizes.queues })
      (λ i g h. queue_fresh g.kind (snd.there i g h)) filed_there
      (ap (λ (o : Option Queue). is_some o) (placed_there M.queues at.number empty (free_place M.queues at.number number_is).0))
      (λ i g h. filed_ready g.kind)

  -- the new epoll has the same number
  pub queue_made_stands : (L : Files) → FilesStand calls M L → FilesStand calls (with_queue_at M at) (with_file (record L { epolls = with_place L.epolls at.number [] }) at.file (kind.Epoll at.number) false)
  queue_made_stands L st = let l = made_leaves calls holding M snd filed at.file (kind.Epoll at.number) refl refl no_place in record {
    plain = ap (λ (F : Files). with_file F at.file (kind.Epoll at.number) false) st.plain;
    queues = new_stands calls filed M.queues L.epolls at.number (free_place M.queues at.number number_is).0 st.rooms (plain_stands calls M.plain filed l.keeps M.queues L.epolls st.queues);
    rooms = length-set M.queues at.number (Some empty) ∙ st.rooms ∙ sym (length-set L.epolls at.number (Some []));
    fluxes = λ s c is. new_flux filed M.queues at.number no_queue s c (plain_flux M.plain filed M.queues s c (l.keeps s c is) (st.fluxes s c is));
  }
