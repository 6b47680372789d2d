-- What holds of the files at all times is kept by a change of an interest and by a look at a queue.
use Rattle.std.proofs.Common.{◌≡◌, ◌⊎◌, inl, inr, ℕ, ◌+◌, ◌≤◌, Bool, true, false, not, ◌&&◌, List, map, Option, Some, None, length, refl, sym, ap, ◌∙◌, subst, arith}
use Rattle.std.specs.Prelude.{◌==◌, slice_set}
use Rattle.std.proofs.lemmas.List.{length-set}
use Rattle.std.specs.Option.{option_map}
use Rattle.linux_abi.specs.declared.epoll.EpollOperation.{EpollOperation}
use Rattle.linux_abi.specs.declared.epoll.EpollOperation.TheVariants as operation
use Rattle.kqueue_core.specs.Changes.{changed_by, tally}
use Rattle.kqueue_core.specs.Queues.{Queue}
use Rattle.kqueue_core.specs.Reports.{is_reported, reports, scanned, without_first}
use Rattle.kqueue_core.specs.Watches.{has_knote, is_of, told_watch}
use Rattle.kqueue_core.specs.declared.knotes.Filter.TheVariants.{Read, Write}
use Rattle.kqueue_core.specs.declared.knotes.Watch.{Watch}
use Rattle.kqueue_core.proofs.Keeping.{kept_changed, kept_scanned}
use Rattle.kqueue_core.proofs.Tallies.{tally-append, tally-map, tally-same, tally-split, tally_all, tally_false, tally_within}
use Rattle.kqueue_laws.proofs.Changes.{and_true, apart_by, both_true, eq_is}
use Rattle.kqueue_laws.specs.Pairs.{kept_flags, knote_of}
use Rattle.kqueue_laws.proofs.Pairs.{watch_with}
use Rattle.kqueue_laws.proofs.Scans.{split_scan}
use Rattle.lx_machine.specs.Calls.{low_argument}
use Rattle.lx_machine.specs.EpollCtl.{controlled, new_interest, asked_of, control_of, data_of, epoll_of, file_of}
use Rattle.lx_machine.specs.Interests.{after_report}
use Rattle.lx_machine.specs.Lists.{at_place, with_place}
use Rattle.lx_machine.specs.declared.calls.LxCall.{LxCall}
use Rattle.lx_machine.specs.declared.files.Descriptor.{Descriptor}
use Rattle.lx_machine.specs.declared.files.FileKind.{FileKind}
use Rattle.lx_machine.specs.declared.files.FileKind.TheVariants as kind
use Rattle.lx_machine.specs.declared.files.Files.{Files}
use Rattle.lx_machine.specs.declared.files.Interest.{Interest}
use Rattle.open_files.specs.Plain.{readiness}
use Rattle.bsd_files.specs.Queues.{after_scan}
use Rattle.bsd_files.specs.State.{FilesState}
use Rattle.files_stand.specs.Changes.{flags_of, flux1, flux1_refusal, flux2, half_changed, is_ready, ready_again}
use Rattle.files_stand.specs.FilesStand.{AllStand, QueueStands}
use Rattle.files_stand.specs.Fluxes.{FluxStands, HasFlux, with_call}
use Rattle.files_stand.specs.SoundFiles.{AllWhole, NoneLost, SoundFiles, SoundQueue, flux_name, is_there, lives, name_at}
use Rattle.files_stand.specs.Steps.{pick_for}
use Rattle.files_stand.proofs.Fluxes.{flux1_flux, flux2_flux, other_flux}
use Rattle.files_stand.proofs.Keeps.{first_lost, scan_lost, second_lost, second_once}
use Rattle.files_stand.proofs.Queues.{epoll_there}
use Rattle.files_stand.proofs.Seconds.{second_one, second_rests}
use Rattle.files_stand.proofs.SoundMoves.{whole_at}
use Rattle.files_stand.proofs.Wholes.{flux1_all, flux2_all, look_all, no_fault}
use Rattle.files_stand.proofs.Places.{set_is, some_placed}

-- ---- another queue at a number where one lives

module _ (calls calls' : ℕ → Option LxCall) (holding : ℕ → Option ℕ) (M : FilesState) (snd : SoundFiles calls holding M) (n : ℕ) (q q' : Queue) (hq : at_place M.queues n ≡ Some q) (es' : List (Option (List Interest)))
    (st : AllStand calls' M.plain (with_place M.queues n q') es') (rooms : length (with_place M.queues n q') ≡ length es') (have : (s : ℕ) (c : LxCall) → calls' s ≡ Some c → HasFlux M.plain (with_place M.queues n q') s c) (new : SoundQueue M.plain q') where
  there_same : (k : FileKind) → is_there (record M { queues = with_place M.queues n q' }) k ≡ is_there M k
  there_same (kind.PipeRead p) = refl
  there_same (kind.PipeWrite p) = refl
  there_same (kind.Counter m) = refl
  there_same (kind.Epoll m) = some_placed M.queues n q' q hq m
  there_same kind.Input = refl
  there_same (kind.Console which) = refl

  each_set : (m : ℕ) (p : Queue) → at_place (with_place M.queues n q') m ≡ Some p → SoundQueue M.plain p
  each_set m p h = by (set_is M.queues n m (Some q') p h)
    where
      by : (at_place M.queues m ≡ Some p) ⊎ (Some q' ≡ Some p) → SoundQueue M.plain p
      by (inl k) = snd.each m p k
      by (inr k) = let z : q' ≡ p = cc in subst (SoundQueue M.plain) z new

  sound_queue_set : SoundFiles calls' holding (record M { queues = with_place M.queues n q' })
  sound_queue_set = record {
    sizes = record { descriptors = snd.sizes.descriptors; files = snd.sizes.files; pipes = snd.sizes.pipes; counters = snd.sizes.counters; queues = length-set M.queues n (Some q') ∙ snd.sizes.queues };
    named = snd.named;
    alone = snd.alone;
    there = λ i f h. there_same f.kind ∙ snd.there i f h;
    holders = snd.holders;
    held = snd.held;
    each = each_set;
    epolls = es';
    stand = st;
    rooms = rooms;
    fluxes = have;
  }

-- ---- the open file of a name lives

alive_named : (F : Files) (file fd : ℕ) (ws : List Watch) → lives F file ≡ true → tally (λ w. is_of file fd w && not (lives F w.file)) ws ≡ 0
alive_named F file fd ws living = tally-same (λ w. is_of file fd w && not (lives F w.file)) (λ w. false) (λ w. by w.file w.descriptor (is_of file fd w) refl) ws ∙ tally_false ws
  where
    by : (i d : ℕ) (b : Bool) → ((i == file) && (d == fd)) ≡ b → (((i == file) && (d == fd)) && not (lives F i)) ≡ false
    by i d true e = let k = eq_is i file (both_true (i == file) (d == fd) e).0 in rw e (ap not (ap (lives F) k ∙ living))
    by i d false e = rw e refl

module _ (calls : ℕ → Option LxCall) (holding : ℕ → Option ℕ) (M : FilesState) (snd : SoundFiles calls holding M) (n : ℕ) (q : Queue) (hq : at_place M.queues n ≡ Some q) where
  -- ---- the first entry of a change

  living_file : (fd file : ℕ) → file_of M.plain fd ≡ Some file → lives M.plain file ≡ true
  living_file fd file h = by (at_place M.plain.descriptors fd) refl h
    where
      by : (o : Option Descriptor) → at_place M.plain.descriptors fd ≡ o → option_map (λ (x : Descriptor). x.file) o ≡ Some file → lives M.plain file ≡ true
      by None e i = let z : None ≡ Some file = i in absurd (cc)
      by (Some d) e i = let z : d.file ≡ file = cc in ap (lives M.plain) (sym z) ∙ snd.named fd d e

  module _ (c : LxCall) (op : EpollOperation) (asks : control_of c ≡ Some op) (hn : epoll_of M.plain (low_argument c 0) ≡ Some n) (file : ℕ) (hf : file_of M.plain (low_argument c 2) ≡ Some file) (s : ℕ) where
    pub sound_flux1 : calls s ≡ None → q.flux ≡ None → flux1_refusal M.plain c q.watches ≡ None → SoundFiles (with_call calls s (Some c)) holding (record M { queues = with_place M.queues n (flux1 M.plain s c file q) })
    sound_flux1 idle free goes =
        let e = epoll_there calls M.plain M.queues snd.epolls n q snd.stand hq in
        let h = snd.each n q hq in
        sound_queue_set calls (with_call calls s (Some c)) holding M snd n q (flux1 M.plain s c file q) hq snd.epolls
        (flux1_all calls M.plain M.queues snd.epolls s c op n file q e.interests snd.stand idle asks hn hf hq e.here free (h.watches.once file (low_argument c 2)) goes)
        (length-set M.queues n (Some (flux1 M.plain s c file q)) ∙ snd.rooms)
        (flux1_flux calls M.plain M.queues s c n file q snd.fluxes hn hq free)
        (record {
          watches = kept_changed file (low_argument c 2) Read (flags_of (control_of c) (asked_of c)) (asked_of c) (data_of c) (is_ready M.plain file Read (asked_of c)) q.watches h.watches (no_fault M.plain c file q.watches hf goes);
          alive = alive h;
          found = subst (λ x. NoneLost M.plain x (half_changed M.plain c file Read q.watches)) (sym (ap (name_at (low_argument c 2)) hf)) (first_lost M.plain c file q.watches (subst (λ f. NoneLost M.plain (flux_name M.plain f) q.watches) free h.found));
        })
      where
        alive : SoundQueue M.plain q → tally (λ w. not (lives M.plain w.file)) (half_changed M.plain c file Read q.watches) ≡ 0
        alive h =
            let a = tally-split (is_of file (low_argument c 2)) (λ w. not (lives M.plain w.file)) (half_changed M.plain c file Read q.watches) in
            let b = alive_named M.plain file (low_argument c 2) (half_changed M.plain c file Read q.watches) (living_file (low_argument c 2) file hf) in
            let d = apart_by file (low_argument c 2) Read (flags_of (control_of c) (asked_of c)) (asked_of c) (data_of c) (is_ready M.plain file Read (asked_of c)) (λ w. not (lives M.plain w.file)) q.watches in
            let e = tally_within (λ w. not (is_of file (low_argument c 2) w) && not (lives M.plain w.file)) (λ w. not (lives M.plain w.file)) (λ w k. (both_true (not (is_of file (low_argument c 2) w)) (not (lives M.plain w.file)) k).1) q.watches in
            let f = h.alive in
            omega arith

    -- ---- the second one

    module _ (own : calls s ≡ Some c) (flux : q.flux ≡ Some (record { slot = s; descriptor = low_argument c 2 })) where
      -- the queue as this call leaves it meanwhile
      in_flux : (is : List Interest) → QueueStands calls M.plain n q.flux is q.watches → FluxStands c (record { file = file; descriptor = low_argument c 2 }) is q.watches
      in_flux is st =
          let h = subst (λ f. QueueStands calls M.plain n f is q.watches) flux st in
          let z : Some c ≡ Some h.call = sym own ∙ h.own in
          let same : c ≡ h.call = cc in
          let y : Some h.file ≡ Some file = sym h.open_file ∙ ap (λ (d : LxCall). file_of M.plain (low_argument d 2)) (sym same) ∙ hf in
          let one : h.file ≡ file = cc in
          named h.call (sym same) h.file one h.stands
        where
          named : (d : LxCall) → d ≡ c → (f : ℕ) → f ≡ file → FluxStands d (record { file = f; descriptor = low_argument d 2 }) is q.watches → FluxStands c (record { file = file; descriptor = low_argument c 2 }) is q.watches
          named d e f g k = let k' = subst (λ (z : ℕ). FluxStands d (record { file = z; descriptor = low_argument d 2 }) is q.watches) g k in subst (λ (z : LxCall). FluxStands z (record { file = file; descriptor = low_argument z 2 }) is q.watches) e k'

      abbrev after : List Watch
      after = ready_again M.plain c file (control_of c) (half_changed M.plain c file Write q.watches)

      module _ (is : List Interest) (fx : FluxStands c (record { file = file; descriptor = low_argument c 2 }) is q.watches) (h : SoundQueue M.plain q) where
        -- a test that the changed interest fails passes no more of them
        fewer : (t : Watch → Bool) → t (watch_with file (low_argument c 2) (Some (knote_of (asked_of c) (data_of c) true (is_ready M.plain file Read (asked_of c)))) (Some (knote_of (asked_of c) (data_of c) true (is_ready M.plain file Write (asked_of c))))) ≡ false → tally t after ≤ tally t q.watches
        fewer t f =
            let a = second_rests M.plain c file is q.watches fx op asks t f in
            let b = tally_within (λ w. not (is_of file (low_argument c 2) w) && t w) t (λ w k. (both_true _ _ k).1) q.watches in
            omega arith

        others_same : tally (λ w. not (is_of file (low_argument c 2) w) && true) after ≡ tally (λ w. not (is_of file (low_argument c 2) w) && true) q.watches
        others_same = by (control_of c)
          where
            written : tally (λ w. not (is_of file (low_argument c 2) w) && true) (half_changed M.plain c file Write q.watches) ≡ tally (λ w. not (is_of file (low_argument c 2) w) && true) q.watches
            written = apart_by file (low_argument c 2) Write (flags_of (control_of c) (asked_of c)) (asked_of c) (data_of c) (is_ready M.plain file Write (asked_of c)) (λ w. true) q.watches

            again : tally (λ w. not (is_of file (low_argument c 2) w) && true) (changed_by file (low_argument c 2) Read (4 + kept_flags (asked_of c)) (asked_of c) (data_of c) (is_ready M.plain file Read (asked_of c)) (half_changed M.plain c file Write q.watches)) ≡ tally (λ w. not (is_of file (low_argument c 2) w) && true) (half_changed M.plain c file Write q.watches)
            again = apart_by file (low_argument c 2) Read (4 + kept_flags (asked_of c)) (asked_of c) (data_of c) (is_ready M.plain file Read (asked_of c)) (λ w. true) (half_changed M.plain c file Write q.watches)

            by : (o : Option EpollOperation) → tally (λ w. not (is_of file (low_argument c 2) w) && true) (ready_again M.plain c file o (half_changed M.plain c file Write q.watches)) ≡ tally (λ w. not (is_of file (low_argument c 2) w) && true) q.watches
            by (Some operation.Delete) = written
            by (Some operation.Add) = again ∙ written
            by (Some operation.Change) = again ∙ written
            by None = again ∙ written

        few : length after ≤ length q.watches
        few =
            let a = tally-split (is_of file (low_argument c 2)) (λ w. true) after in
            let b = tally-split (is_of file (low_argument c 2)) (λ w. true) q.watches in
            let d = tally_all after in
            let e = tally_all q.watches in
            let f = tally-same (λ w. is_of file (low_argument c 2) w && true) (is_of file (low_argument c 2)) (λ w. and_true (is_of file (low_argument c 2) w)) after in
            let g = tally-same (λ w. is_of file (low_argument c 2) w && true) (is_of file (low_argument c 2)) (λ w. and_true (is_of file (low_argument c 2) w)) q.watches in
            let i = second_one M.plain c file is q.watches fx op asks in
            let j = fx.watch in
            let k = others_same in
            omega arith

        second_sound : SoundQueue M.plain (flux2 M.plain c file q)
        second_sound = record {
          watches = record {
            once = second_once M.plain c file is q.watches fx op asks h.watches.once;
            whole = let a = fewer (λ w. not (has_knote w)) refl in let b = h.watches.whole in omega arith;
            few = let a = few in let b = h.watches.few in omega arith;
          };
          alive = let a = fewer (λ w. not (lives M.plain w.file)) (ap not (living_file (low_argument c 2) file hf)) in let b = h.alive in omega arith;
          found = second_lost M.plain c file is q.watches fx op asks (subst (λ x. NoneLost M.plain x q.watches) (ap (flux_name M.plain) flux ∙ ap (name_at (low_argument c 2)) hf) h.found);
        }

      pub sound_flux2 : SoundFiles (with_call calls s None) holding (record M { queues = with_place M.queues n (flux2 M.plain c file q) })
      sound_flux2 =
          let e = epoll_there calls M.plain M.queues snd.epolls n q snd.stand hq in
          sound_queue_set calls (with_call calls s None) holding M snd n q (flux2 M.plain c file q) hq (slice_set snd.epolls n (Some (controlled (control_of c) (new_interest M.plain c file) e.interests)))
          (flux2_all calls M.plain M.queues snd.epolls s c op n q e.interests snd.stand own asks hn hq e.here flux file hf)
          (length-set M.queues n (Some (flux2 M.plain c file q)) ∙ snd.rooms ∙ sym (length-set snd.epolls n (Some (controlled (control_of c) (new_interest M.plain c file) e.interests))))
          (flux2_flux calls M.plain M.queues s c n file q snd.fluxes hq flux)
          (second_sound e.interests (in_flux e.interests e.stands) (snd.each n q hq))

  -- ---- a look at a queue in no flux

  pub sound_look : q.flux ≡ None → (most : ℕ) → 1 ≤ length (reports (readiness M.plain) most q.watches) → SoundFiles calls holding (record M { queues = with_place M.queues n (after_scan M.plain most q) })
  sound_look free most some =
      let e = epoll_there calls M.plain M.queues snd.epolls n q snd.stand hq in
      let h = snd.each n q hq in
      let found : NoneLost M.plain None q.watches = subst (λ f. NoneLost M.plain (flux_name M.plain f) q.watches) free h.found in
      sound_queue_set calls calls holding M snd n q (after_scan M.plain most q) hq (slice_set snd.epolls n (Some (after_report (map pick_for (reports (readiness M.plain) most q.watches)) e.interests)))
      (look_all calls M.plain M.queues snd.epolls n most q e.interests snd.stand hq e.here free h.watches.once found some).1
      (length-set M.queues n (Some (after_scan M.plain most q)) ∙ snd.rooms ∙ sym (length-set snd.epolls n (Some (after_report (map pick_for (reports (readiness M.plain) most q.watches)) e.interests))))
      (λ t d is. other_flux M.plain M.queues n q (after_scan M.plain most q) hq free t d (snd.fluxes t d is))
      (record {
        watches = kept_scanned (readiness M.plain) most q.watches h.watches;
        alive = alive h;
        found = subst (λ f. NoneLost M.plain (flux_name M.plain f) (scanned (readiness M.plain) most q.watches)) (sym free) (scan_lost M.plain most q.watches (subst (λ f. AllWhole (flux_name M.plain f) q.watches) free (whole_at calls holding M snd n q hq)) found);
      })
    where
      alive : SoundQueue M.plain q → tally (λ w. not (lives M.plain w.file)) (scanned (readiness M.plain) most q.watches) ≡ 0
      alive h =
          let a = tally-append (λ w. not (lives M.plain w.file)) (without_first (is_reported (readiness M.plain)) most q.watches) (map told_watch (reports (readiness M.plain) most q.watches)) in
          let b = tally-map told_watch (λ w. not (lives M.plain w.file)) (reports (readiness M.plain) most q.watches) in
          let d = split_scan (readiness M.plain) (λ w. not (lives M.plain w.file)) most q.watches in
          let f = h.alive in
          omega arith
