-- What holds of the files at all times is kept where bytes are moved, and where a console room is drained.
use Rattle.std.proofs.Common.{◌≡◌, ℕ, ◌≤◌, true, List, [], ◌∷◌, map, drop, Option, Some, None, length, refl, sym, ap, ◌∙◌, subst}
use Rattle.std.specs.Prelude.{is_some}
use Rattle.std.specs.Option.{option_map}
use Rattle.std.proofs.lemmas.List.{length-set}
use Rattle.kqueue_core.specs.Queues.{Queue}
use Rattle.kqueue_core.specs.declared.knotes.Filter.{Filter}
use Rattle.kqueue_core.specs.declared.knotes.Filter.TheVariants.{Read, Write}
use Rattle.kqueue_core.specs.declared.knotes.Flux.{Flux}
use Rattle.lx_machine.specs.EpollCtl.{file_of}
use Rattle.lx_machine.specs.Interests.{drained_side}
use Rattle.lx_machine.specs.Lists.{at_place, with_place}
use Rattle.lx_machine.specs.Read.{with_counter, with_pipe}
use Rattle.lx_machine.specs.Write.{into_console}
use Rattle.lx_machine.specs.declared.calls.LxCall.{LxCall}
use Rattle.lx_machine.specs.declared.files.Counter.{Counter}
use Rattle.lx_machine.specs.declared.files.Descriptor.{Descriptor}
use Rattle.lx_machine.specs.declared.files.FileKind.{FileKind}
use Rattle.lx_machine.specs.declared.files.FileKind.TheVariants as kind
use Rattle.lx_machine.specs.declared.files.Files.{Files}
use Rattle.lx_machine.specs.declared.files.OpenFile.{OpenFile}
use Rattle.lx_machine.specs.declared.label.LxSide.{LxSide}
use Rattle.lx_machine.specs.declared.label.LxSide.TheVariants as side
use Rattle.open_files.specs.Plain.{plain_of}
use Rattle.files_stand.proofs.Readies.{other_rest, ready_at_rest}
use Rattle.lx_machine.specs.Epoll.{ready_at}
use Rattle.lx_machine.specs.Interests.{without_first_of}
use Rattle.lx_machine.specs.declared.files.Interest.{Interest}
use Rattle.files_stand.proofs.Grows.{Among}
use Rattle.bsd_files.specs.Calls.{drained}
use Rattle.bsd_files.specs.Ops.{Op, Arm, activated_for, each_queue}
use Rattle.bsd_files.specs.State.{FilesState}
use Rattle.bsd_files.specs.Moves.{each_epoll}
use Rattle.files_stand.specs.SoundFiles.{AllWhole, SoundFiles, SoundQueue, flux_name, is_there, lives, name_at}
use Rattle.files_stand.proofs.Entries.{fluxes_step, queues_step, rooms_step, stepped}
use Rattle.files_stand.proofs.Grows.{GrowsAt, GrowsNowhere, console_grows, counter_grows, drain_grows, input_grows, read_grows, write_grows}
use Rattle.files_stand.proofs.Moves.{IsMild, Rests, console_rests, drained_rests, no_ops, rests_leaves}
use Rattle.files_stand.proofs.Queues.{epoll_there}
use Rattle.files_stand.proofs.SoundQueues.{arm_after, before_of, sound_after, still_after, whole_queue}
use Rattle.files_stand.proofs.Places.{some_placed, at_mapped, length_map}

-- each pipe and counter that lives still does, and no other
pub record SameObjects (F F' : Files) : Type 0 where
  pub pipes : length F'.pipes ≡ length F.pipes
  pub counters : length F'.counters ≡ length F.counters
  pub pipe : (p : ℕ) → is_some (at_place F'.pipes p) ≡ is_some (at_place F.pipes p)
  pub counter : (n : ℕ) → is_some (at_place F'.counters n) ≡ is_some (at_place F.counters n)

-- each queue that lives still does, and no other
pub record SameQueues (qs qs' : List (Option Queue)) : Type 0 where
  pub size : length qs' ≡ length qs
  pub queue : (n : ℕ) → is_some (at_place qs' n) ≡ is_some (at_place qs n)

some_mapped : {X : Type 0} (f : X → X) (o : Option X) → is_some (option_map f o) ≡ is_some o
some_mapped f None = refl
some_mapped f (Some x) = refl

pub mapped_queues : (f : Queue → Queue) (qs : List (Option Queue)) → SameQueues qs (map (option_map f) qs)
mapped_queues f qs = record {
  size = length_map (option_map f) qs;
  queue = λ n. ap (λ (o : Option Queue). is_some o) (at_mapped f qs n) ∙ some_mapped f (at_place qs n);
}

pub same_queues : (qs : List (Option Queue)) → SameQueues qs qs
same_queues qs = record { size = refl; queue = λ n. refl }

-- what grows doesn't hang on epolls
pub grows_rest : (k : FileKind) (files : List (Option OpenFile)) (F G : Files) (es : List (Option (List Interest))) (out err : List ℕ) → GrowsAt k files F G → GrowsAt k files F (other_rest G es out err)
grows_rest k files F G es out err h n e = subst (λ r. Among r (ready_at F (at_place F.files n))) (sym (ready_at_rest G es out err (at_place G.files n))) (h n e)

still_rest : (F G : Files) (es : List (Option (List Interest))) (out err : List ℕ) → GrowsNowhere F G → GrowsNowhere F (other_rest G es out err)
still_rest F G es out err h n = subst (λ r. Among r (ready_at F (at_place F.files n))) (sym (ready_at_rest G es out err (at_place G.files n))) (h n)

-- the name of a flux hangs on descriptors alone
pub same_name : (F F' : Files) → ((d : ℕ) → file_of F' d ≡ file_of F d) → (flux : Option Flux) → flux_name F' flux ≡ flux_name F flux
same_name F F' h None = refl
same_name F F' h (Some flux) = ap (name_at flux.descriptor) (h flux.descriptor)

module _ (calls : ℕ → Option LxCall) (holding : ℕ → Option ℕ) (M : FilesState) (snd : SoundFiles calls holding M) where
  pub whole_at : (n : ℕ) (q : Queue) → at_place M.queues n ≡ Some q → AllWhole (flux_name M.plain q.flux) q.watches
  whole_at n q h = let e = epoll_there calls M.plain M.queues snd.epolls n q snd.stand h in whole_queue calls M.plain n q.flux e.interests q.watches e.stands

  -- a step that leaves descriptors and open files, and what these are
  module _ (F' : Files) (os : List Op) (rests : Rests M.plain F') (objects : SameObjects M.plain F') (queues : SameQueues M.queues (each_queue os M.queues)) (mild : IsMild os)
      (each : (n : ℕ) (q : Queue) → at_place (each_queue os M.queues) n ≡ Some q → SoundQueue F' q) where
    there_same : (k : FileKind) → is_there (record { plain = F'; queues = each_queue os M.queues }) k ≡ is_there M k
    there_same (kind.PipeRead p) = objects.pipe p
    there_same (kind.PipeWrite p) = objects.pipe p
    there_same (kind.Counter n) = objects.counter n
    there_same (kind.Epoll n) = queues.queue n
    there_same kind.Input = refl
    there_same (kind.Console which) = refl

    file_at : (i : ℕ) (f : OpenFile) → at_place F'.files i ≡ Some f → at_place M.plain.files i ≡ Some f
    file_at i f h = sym (ap (λ (files : List (Option OpenFile)). at_place files i) rests.files) ∙ h

    lives_same : (i : ℕ) → lives F' i ≡ lives M.plain i
    lives_same i = ap (λ (files : List (Option OpenFile)). is_some (at_place files i)) rests.files

    pub sound_rests : SoundFiles calls holding (record { plain = F'; queues = each_queue os M.queues })
    sound_rests = let l = rests_leaves calls M.plain F' M.queues os rests mild in record {
      sizes = record {
        descriptors = ap (λ (ds : List (Option Descriptor)). length ds) rests.descriptors ∙ snd.sizes.descriptors;
        files = ap (λ (fs : List (Option OpenFile)). length fs) rests.files ∙ snd.sizes.files;
        pipes = objects.pipes ∙ snd.sizes.pipes;
        counters = objects.counters ∙ snd.sizes.counters;
        queues = queues.size ∙ snd.sizes.queues;
      };
      named = λ fd d h. lives_same d.file ∙ snd.named fd d (sym (ap (λ (ds : List (Option Descriptor)). at_place ds fd) rests.descriptors) ∙ h);
      alone = λ i j f g a b k. snd.alone i j f g (file_at i f a) (file_at j g b) k;
      there = λ i f h. there_same f.kind ∙ snd.there i f (file_at i f h);
      holders = λ i f h. snd.holders i f (file_at i f h);
      held = λ s i h. let k = snd.held s i h in (k.0, lives_same i ∙ k.1);
      each = each;
      epolls = each_epoll os snd.epolls;
      stand = queues_step calls M.plain F' os M.queues snd.epolls l snd.stand;
      rooms = rooms_step os M.queues snd.epolls snd.rooms;
      fluxes = fluxes_step calls M.plain F' os M.queues l snd.fluxes;
    }

  -- where the knotes of the one kind of open file that may gain events become active
  pub sound_armed : (F' : Files) (k : FileKind) (g : Filter) → Rests M.plain F' → SameObjects M.plain F' → GrowsAt k M.plain.files M.plain F' → SoundFiles calls holding (record { plain = F'; queues = each_queue (Arm k g M.plain.files ∷ []) M.queues })
  sound_armed F' k g rests objects grows = sound_rests F' (Arm k g M.plain.files ∷ []) rests objects (mapped_queues (activated_for k g M.plain.files) M.queues) (λ F n. ((tt, tt), (tt, tt))) each
    where
      names : (d : ℕ) → file_of F' d ≡ file_of M.plain d
      names d = ap (λ (ds : List (Option Descriptor)). option_map (λ (x : Descriptor). x.file) (at_place ds d)) rests.descriptors

      still : (i : ℕ) → lives M.plain i ≡ true → lives F' i ≡ true
      still i h = ap (λ (files : List (Option OpenFile)). is_some (at_place files i)) rests.files ∙ h

      each : (n : ℕ) (q : Queue) → at_place (map (option_map (activated_for k g M.plain.files)) M.queues) n ≡ Some q → SoundQueue F' q
      each n q h = by (at_place M.queues n) refl (sym (at_mapped (activated_for k g M.plain.files) M.queues n) ∙ h)
        where
          by : (o : Option Queue) → at_place M.queues n ≡ o → option_map (activated_for k g M.plain.files) o ≡ Some q → SoundQueue F' q
          by None e i = let z : None ≡ Some q = i in absurd (cc)
          by (Some p) e i =
              let z : Some (activated_for k g M.plain.files p) ≡ Some q = i in
              let same : activated_for k g M.plain.files p ≡ q = cc in
              subst (SoundQueue F') same
              (sound_after F' (activated_for k g M.plain.files p) (flux_name M.plain p.flux) (same_name M.plain F' names p.flux)
              (arm_after M.plain F' k M.plain.files g (flux_name M.plain p.flux) p.watches grows (before_of M.plain F' p still (whole_at n p e) (snd.each n p e))))

  -- where no open file gains events
  pub sound_still : (F' : Files) → Rests M.plain F' → SameObjects M.plain F' → GrowsNowhere M.plain F' → SoundFiles calls holding (record { plain = F'; queues = M.queues })
  sound_still F' rests objects grows = sound_rests F' [] rests objects (same_queues M.queues) no_ops (λ n q h.
      sound_after F' q (flux_name M.plain q.flux) (same_name M.plain F' (λ d. ap (λ (ds : List (Option Descriptor)). option_map (λ (x : Descriptor). x.file) (at_place ds d)) rests.descriptors) q.flux)
      (still_after M.plain F' (flux_name M.plain q.flux) q.watches grows (before_of M.plain F' q (λ i l. ap (λ (files : List (Option OpenFile)). is_some (at_place files i)) rests.files ∙ l) (whole_at n q h) (snd.each n q h))))

  -- ---- each move

  -- a read of a pipe leaves no more bytes, a write no fewer
  pub sound_read : (p : ℕ) (bytes bytes' : List ℕ) → at_place M.plain.pipes p ≡ Some bytes → length bytes' ≤ length bytes → SoundFiles calls holding (stepped (λ F. with_pipe F p bytes') (λ F. Arm (kind.PipeWrite p) Write F.files ∷ []) M)
  sound_read p bytes bytes' h less = sound_armed (with_pipe M.plain p bytes') (kind.PipeWrite p) Write (record { descriptors = refl; files = refl })
      (record { pipes = length-set M.plain.pipes p (Some bytes'); counters = refl; pipe = some_placed M.plain.pipes p bytes' bytes h; counter = λ n. refl })
      (read_grows M.plain p bytes bytes' h less)

  pub sound_write : (p : ℕ) (bytes bytes' : List ℕ) → at_place M.plain.pipes p ≡ Some bytes → length bytes ≤ length bytes' → SoundFiles calls holding (stepped (λ F. with_pipe F p bytes') (λ F. Arm (kind.PipeRead p) Read F.files ∷ []) M)
  sound_write p bytes bytes' h more = sound_armed (with_pipe M.plain p bytes') (kind.PipeRead p) Read (record { descriptors = refl; files = refl })
      (record { pipes = length-set M.plain.pipes p (Some bytes'); counters = refl; pipe = some_placed M.plain.pipes p bytes' bytes h; counter = λ n. refl })
      (write_grows M.plain p bytes bytes' h more)

  pub sound_counter : (number : ℕ) (n n' : Counter) (f : Filter) → at_place M.plain.counters number ≡ Some n → SoundFiles calls holding (stepped (λ F. with_counter F number n') (λ F. Arm (kind.Counter number) f F.files ∷ []) M)
  sound_counter number n n' f h = sound_armed (with_counter M.plain number n') (kind.Counter number) f (record { descriptors = refl; files = refl })
      (record { pipes = refl; counters = length-set M.plain.counters number (Some n'); pipe = λ p. refl; counter = some_placed M.plain.counters number n' n h })
      (grows_rest (kind.Counter number) M.plain.files M.plain (record M.plain { counters = with_place M.plain.counters number n' }) (with_counter M.plain number n').epolls M.plain.put_out M.plain.put_err (counter_grows M.plain number n'))

  pub sound_input : (most : ℕ) → SoundFiles calls holding (stepped (λ F. record F { input = drop most F.input }) (λ F. []) M)
  sound_input most = sound_still (record M.plain { input = drop most M.plain.input }) (record { descriptors = refl; files = refl })
      (record { pipes = refl; counters = refl; pipe = λ p. refl; counter = λ n. refl }) (input_grows M.plain most)

  console_objects : (which : LxSide) (bytes : List ℕ) → SameObjects M.plain (plain_of (into_console M.plain which bytes))
  console_objects side.Out bytes = record { pipes = refl; counters = refl; pipe = λ p. refl; counter = λ n. refl }
  console_objects side.Err bytes = record { pipes = refl; counters = refl; pipe = λ p. refl; counter = λ n. refl }

  pub sound_console : (which : LxSide) (bytes : List ℕ) → SoundFiles calls holding (stepped (λ F. plain_of (into_console F which bytes)) (λ F. []) M)
  sound_console which bytes = sound_still (plain_of (into_console M.plain which bytes)) (console_rests M.plain which bytes) (console_objects which bytes)
      (still_rest M.plain (into_console M.plain which bytes) [] [] [] (console_grows M.plain which bytes))

  drained_objects : (which : LxSide) (n : ℕ) → SameObjects M.plain (drained_side M.plain which n)
  drained_objects side.Out n = record { pipes = refl; counters = refl; pipe = λ p. refl; counter = λ n. refl }
  drained_objects side.Err n = record { pipes = refl; counters = refl; pipe = λ p. refl; counter = λ n. refl }

  drained_grows : (which : LxSide) (n : ℕ) → GrowsAt (kind.Console which) M.plain.files M.plain (drained_side M.plain which n)
  drained_grows side.Out n = grows_rest (kind.Console side.Out) M.plain.files M.plain (without_first_of M.plain side.Out n) (drained_side M.plain side.Out n).epolls M.plain.put_out M.plain.put_err (drain_grows M.plain side.Out n)
  drained_grows side.Err n = grows_rest (kind.Console side.Err) M.plain.files M.plain (without_first_of M.plain side.Err n) (drained_side M.plain side.Err n).epolls M.plain.put_out M.plain.put_err (drain_grows M.plain side.Err n)

  pub sound_drained : (which : LxSide) (n : ℕ) → SoundFiles calls holding (drained M which n)
  sound_drained which n = sound_armed (drained_side M.plain which n) (kind.Console which) Write (drained_rests M.plain which n) (drained_objects which n) (drained_grows which n)
