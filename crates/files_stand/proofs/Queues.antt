-- A change of an interest and a look at a queue, in both machines, and the clause Files.
use Rattle.std.proofs.Common.{◌≡◌, ℕ, zero, suc, ◌≤◌, ◌<◌, Bool, true, false, not, ◌||◌, List, [], ◌∷◌, map, Option, Some, None, length, refl, sym, ap, ap₂, ◌∙◌, subst, arith}
use Rattle.std.specs.Prelude.{◌==◌, slice_set, slice_get, filter, is_some, take}
use Rattle.std.specs.List.{list_any}
use Rattle.std.specs.Option.{option_map}
use Rattle.std.proofs.lemmas.List.{length-set}
use Rattle.linux_abi.specs.declared.epoll.EpollOperation.{EpollOperation}
use Rattle.linux_abi.specs.declared.errno.LinuxErrno.{LinuxErrno}
use Rattle.linux_abi.specs.declared.errno.LinuxErrno.TheVariants as errno
use Rattle.lx_machine.specs.declared.files.Descriptor.{Descriptor}
use Rattle.kqueue_core.specs.Changes.{tally}
use Rattle.kqueue_core.specs.Queues.{Queue}
use Rattle.kqueue_core.specs.Reports.{is_reported, pick_of, reports}
use Rattle.kqueue_core.specs.Watches.{is_of, ident_of}
use Rattle.kqueue_core.specs.declared.knotes.Filter.{Filter}
use Rattle.kqueue_core.specs.declared.knotes.Watch.{Watch}
use Rattle.kqueue_laws.specs.Pairs.{is_lost}
use Rattle.lx_machine.specs.Calls.{first_refusal, low_argument}
use Rattle.lx_machine.specs.Descriptors.{answers}
use Rattle.lx_machine.specs.Epoll.{events, interests_of, is_answer, is_due, on_epoll}
use Rattle.lx_machine.specs.EpollCtl.{asked_of, descriptor_refusals, interest_refusals, or_else, control, control_of, control_refusal, controlled, epoll_ctl, epoll_ctl_unless, epoll_of, file_of, new_interest}
use Rattle.lx_machine.specs.Interests.{after_report}
use Rattle.lx_machine.specs.Lists.{at_place, with_place}
use Rattle.lx_machine.specs.declared.calls.LxCall.{LxCall}
use Rattle.lx_machine.specs.declared.files.Files.{Files}
use Rattle.lx_machine.specs.declared.files.Interest.{Interest}
use Rattle.lx_machine.specs.declared.label.Pick.{Pick}
use Rattle.open_files.specs.Plain.{plain_of, readiness}
use Rattle.bsd_files.specs.Queues.{after_scan, has_report, report_bytes}
use Rattle.bsd_files.specs.State.{FilesState}
use Rattle.files_stand.specs.Changes.{exclusive_refusal, flux1, flux1_refusal, flux2, knote_refusal}
use Rattle.files_stand.specs.FilesStand.{AllStand, FilesStand, PlaceStands, QueueStands}
use Rattle.files_stand.specs.Fluxes.{InFlux, with_call}
use Rattle.files_stand.specs.Same.{Same}
use Rattle.files_stand.specs.Steps.{pick_for}
use Rattle.files_stand.proofs.Fluxes.{flux1_flux, flux2_flux, other_flux}
use Rattle.files_stand.proofs.Readies.{answer_plain, any_due_plain, events_plain, told_plain}
use Rattle.files_stand.proofs.Scans.{can_answer, each_event}
use Rattle.files_stand.proofs.Wholes.{flux1_all, flux2_all, flux2_allowed, free_same, look_all, refusal_stands}
use Rattle.kqueue_laws.proofs.Scans.{split_scan}

-- ---- the epoll that a queue stands for

pub record Epoll (calls : ℕ → Option LxCall) (F : Files) (n : ℕ) (q : Queue) (epolls : List (Option (List Interest))) : Type 0 where
  pub interests : List Interest
  pub here : at_place epolls n ≡ Some interests
  pub stands : QueueStands calls F n q.flux interests q.watches

pub epoll_there : (calls : ℕ → Option LxCall) (F : Files) (qs : List (Option Queue)) (es : List (Option (List Interest))) (n : ℕ) (q : Queue) → AllStand calls F qs es → at_place qs n ≡ Some q → Epoll calls F n q es
epoll_there calls F qs es n q st hq = by (at_place es n) refl (subst (λ (o : Option Queue). PlaceStands calls F n o (at_place es n)) hq (st n))
  where
    by : (o : Option (List Interest)) → at_place es n ≡ o → PlaceStands calls F n (Some q) o → Epoll calls F n q es
    by None e h = absurd h
    by (Some is) e h = record { interests = is; here = e; stands = h }

module _ (calls : ℕ → Option LxCall) (M : FilesState) (L : Files) (st : FilesStand calls M L) (n : ℕ) (q : Queue) (hq : at_place M.queues n ≡ Some q) where
  there : Epoll calls M.plain n q L.epolls
  there = epoll_there calls M.plain M.queues L.epolls n q st.queues hq

  -- ---- a change of an interest

  module _ (c : LxCall) (op : EpollOperation) (asks : control_of c ≡ Some op) (hn : epoll_of M.plain (low_argument c 0) ≡ Some n) (file : ℕ) (hf : file_of M.plain (low_argument c 2) ≡ Some file) where
    -- the first entry is refused as the Linux machine refuses the change
    pub flux1_refused : q.flux ≡ None → control_refusal L c ≡ flux1_refusal M.plain c q.watches
    flux1_refused free =
        let e = there in
        refusal_stands L c n file op e.interests q.watches
        (sym (ap (λ (F : Files). epoll_of F (low_argument c 0)) st.plain) ∙ hn) (sym (ap (λ (F : Files). file_of F (low_argument c 2)) st.plain) ∙ hf) asks e.here
        (free_same calls M.plain M.queues L.epolls n q e.interests st.queues hq e.here free)
        ∙ sym (ap (λ (F : Files). flux1_refusal F c q.watches) st.plain)

    -- or changes nothing in the Linux machine, and the queue is in flux
    pub flux1_stands : (s : ℕ) → calls s ≡ None → q.flux ≡ None → tally (is_of file (low_argument c 2)) q.watches ≤ 1 → flux1_refusal M.plain c q.watches ≡ None
        → FilesStand (with_call calls s (Some c)) (record M { queues = with_place M.queues n (flux1 M.plain s c file q) }) L
    flux1_stands s idle free once goes = let e = there in record {
      plain = st.plain;
      queues = flux1_all calls M.plain M.queues L.epolls s c op n file q e.interests st.queues idle asks hn hf hq e.here free once goes;
      rooms = length-set M.queues n (Some (flux1 M.plain s c file q)) ∙ st.rooms;
      fluxes = flux1_flux calls M.plain M.queues s c n file q st.fluxes hn hq free;
    }

    module _ (s : ℕ) (own : calls s ≡ Some c) (flux : q.flux ≡ Some (record { slot = s; descriptor = low_argument c 2 })) where
      -- at the second entry nothing refuses the change any more
      pub flux2_goes : length q.watches ≤ 512 → control_refusal L c ≡ None
      flux2_goes room =
          let e = there in
          let h = subst (λ f. QueueStands calls M.plain n f e.interests q.watches) flux e.stands in
          let k : InFlux calls (plain_of L) n (record { slot = s; descriptor = low_argument c 2 }) e.interests q.watches = subst (λ (F : Files). InFlux calls F n (record { slot = s; descriptor = low_argument c 2 }) e.interests q.watches) st.plain h in
          let is_c : Some c ≡ Some k.call = sym own ∙ k.own in
          let same : c ≡ k.call = cc in
          ap (control_refusal L) same
          ∙ flux2_allowed calls L n (record { slot = s; descriptor = low_argument c 2 }) e.interests q.watches k op (sym (ap control_of same) ∙ asks) e.here room

      -- which is then done in both machines
      pub flux2_stands : FilesStand (with_call calls s None) (record M { queues = with_place M.queues n (flux2 M.plain c file q) }) (control L c (Some n) (Some file))
      flux2_stands = let e = there in record {
        plain = st.plain;
        queues = subst (λ (l : List (Option (List Interest))). AllStand (with_call calls s None) M.plain (slice_set M.queues n (Some (flux2 M.plain c file q))) l) (changed e.interests e.here)
            (flux2_all calls M.plain M.queues L.epolls s c op n q e.interests st.queues own asks hn hq e.here flux file hf);
        rooms = length-set M.queues n (Some (flux2 M.plain c file q)) ∙ st.rooms ∙ sym (length-set L.epolls n (option_map (controlled (control_of c) (new_interest L c file)) (at_place L.epolls n)));
        fluxes = flux2_flux calls M.plain M.queues s c n file q st.fluxes hq flux;
      }
        where
          new_same : new_interest M.plain c file ≡ new_interest L c file
          new_same =
              ap (λ (F : Files). new_interest F c file) st.plain
              ∙ ap (λ (r : ℕ). let i : Interest = record (new_interest L c file) { armed = not (r == 0) } in i) (told_plain L file (asked_of c))

          changed : (is : List Interest) → at_place L.epolls n ≡ Some is → slice_set L.epolls n (Some (controlled (control_of c) (new_interest M.plain c file) is)) ≡ slice_set L.epolls n (option_map (controlled (control_of c) (new_interest L c file)) (at_place L.epolls n))
          changed is h = ap₂ (λ (i : Interest) (o : Option (List Interest)). slice_set L.epolls n (option_map (controlled (control_of c) i) o)) new_same (sym h)

      -- and is what epoll_ctl does
      pub flux2_answers : length q.watches ≤ 512 → epoll_ctl L c ≡ answers (control L c (Some n) (Some file)) c 0
      flux2_answers room =
          ap (epoll_ctl_unless L c) (flux2_goes room)
          ∙ ap₂ (λ a b. answers (control L c a b) c 0) (sym (ap (λ (F : Files). epoll_of F (low_argument c 0)) st.plain) ∙ hn) (sym (ap (λ (F : Files). file_of F (low_argument c 2)) st.plain) ∙ hf)

  -- ---- a look at a queue in no flux

  module _ (free : q.flux ≡ None) (once : (f d : ℕ) → tally (is_of f d) q.watches ≤ 1) (found : tally (is_lost (readiness M.plain)) q.watches ≡ 0) where
    abbrev R : ℕ → Filter → ℕ
    R = readiness M.plain

    abbrev picks : ℕ → List Pick
    picks most = map pick_for (reports (readiness M.plain) most q.watches)

    before : (is : List Interest) → at_place L.epolls n ≡ Some is → Same None is q.watches
    before is h = free_same calls M.plain M.queues L.epolls n q is st.queues hq h free

    first_of : (p : Watch → Bool) (ws : List Watch) → is_some (option_map ident_of (slice_get (filter p ws) 0)) ≡ list_any p ws
    first_of p [] = refl
    first_of p (w ∷ ws) = by (first_of p ws) (p w) refl
      where
        by : is_some (option_map ident_of (slice_get (filter p ws) 0)) ≡ list_any p ws → (b : Bool) → p w ≡ b → is_some (option_map ident_of (slice_get (filter p (w ∷ ws)) 0)) ≡ list_any p (w ∷ ws)
        by again true e = rw e refl
        by again false e = rw e again

    -- the look waits in both machines, or in none
    pub look_waits : (is : List Interest) → at_place L.epolls n ≡ Some is → list_any (is_due L) is ≡ has_report M.plain q
    look_waits is h =
        sym (any_due_plain L is)
        ∙ sym (ap (λ (F : Files). list_any (is_due F) is) st.plain)
        ∙ can_answer M.plain is q.watches (before is h) once found
        ∙ sym (first_of (is_reported (readiness M.plain)) q.watches)

    module _ (most : ℕ) (some : 1 ≤ length (reports (readiness M.plain) most q.watches)) where
      -- what the scan reports is an answer of the Linux machine
      pub look_answers : (is : List Interest) → at_place L.epolls n ≡ Some is → is_answer L is most (picks most) ≡ true
      look_answers is h =
          sym (answer_plain L is most (picks most))
          ∙ sym (ap (λ (F : Files). is_answer F is most (picks most)) st.plain)
          ∙ (look_all calls M.plain M.queues L.epolls n most q is st.queues hq h free once found some).0

      sub : (p : Watch → Bool) → tally p (reports (readiness M.plain) most q.watches) ≤ tally p q.watches
      sub p = let a = split_scan (readiness M.plain) p most q.watches in omega arith

      -- with the same bytes
      pub look_bytes : (is : List Interest) → at_place L.epolls n ≡ Some is → events L is (picks most) ≡ report_bytes M.plain most q
      look_bytes is h =
          sym (events_plain L is (picks most))
          ∙ sym (ap (λ (F : Files). events F is (picks most)) st.plain)
          ∙ each_event M.plain is q.watches (before is h) once found (reports (readiness M.plain) most q.watches) sub

      -- and leaves what that answer leaves
      pub look_stands : FilesStand calls (record M { queues = with_place M.queues n (after_scan M.plain most q) }) (on_epoll L n (after_report (picks most)))
      look_stands = let e = there in record {
        plain = st.plain;
        queues = subst (λ (o : Option (List Interest)). AllStand calls M.plain (slice_set M.queues n (Some (after_scan M.plain most q))) (slice_set L.epolls n (option_map (after_report (picks most)) o))) (sym e.here)
            (look_all calls M.plain M.queues L.epolls n most q e.interests st.queues hq e.here free once found some).1;
        rooms = length-set M.queues n (Some (after_scan M.plain most q)) ∙ st.rooms ∙ sym (length-set L.epolls n (option_map (after_report (picks most)) (at_place L.epolls n)));
        fluxes = λ s d is. other_flux M.plain M.queues n q (after_scan M.plain most q) hq free s d (st.fluxes s d is);
      }

-- ---- the picks of a label

get_taken : {X : Type 0} (xs : List X) (most at : ℕ) → at < most → slice_get (take most xs) at ≡ slice_get xs at
get_taken xs zero at l = absurd (omega arith)
get_taken [] (suc most) at l = refl
get_taken (x ∷ xs) (suc most) zero l = refl
get_taken (x ∷ xs) (suc most) (suc at) l = get_taken xs most at (omega arith)

-- the pick at each place below the bound is the name of what a scan reports there
pub pick_reported : (R : ℕ → Filter → ℕ) (most at : ℕ) (ws : List Watch) → at < most → pick_of R at ws ≡ option_map ident_of (slice_get (reports R most ws) at)
pick_reported R most at ws l = ap (option_map ident_of) (sym (get_taken (filter (is_reported R) ws) most at l))

-- ---- what a change names

calm_by : (x y z w : Bool) → first_refusal ((not x, errno.EBADF) ∷ (not y, errno.EBADF) ∷ (z, errno.EINVAL) ∷ (w, errno.ELOOP) ∷ []) ≡ None → (y ≡ true) × (z ≡ false)
calm_by true true false w h = (refl, refl)
calm_by true true true w h = let k : Some errno.EINVAL ≡ None = h in absurd (cc)
calm_by true false z w h = let k : Some errno.EBADF ≡ None = h in absurd (cc)
calm_by false y z w h = let k : Some errno.EBADF ≡ None = h in absurd (cc)

pub record Named (F : Files) (c : LxCall) : Type 0 where
  pub place : ℕ
  pub is_place : epoll_of F (low_argument c 0) ≡ Some place
  pub file : ℕ
  pub is_file : file_of F (low_argument c 2) ≡ Some file

-- where its descriptors refuse nothing, it names an epoll and an open file
pub calm_named : (F : Files) (c : LxCall) → first_refusal (descriptor_refusals F c) ≡ None → Named F c
calm_named F c h = by (epoll_of F (low_argument c 0)) refl (at_place F.descriptors (low_argument c 2)) refl (calm_by _ _ _ _ h)
  where
    by : (e : Option ℕ) → epoll_of F (low_argument c 0) ≡ e → (o : Option Descriptor) → at_place F.descriptors (low_argument c 2) ≡ o
        → (is_some (at_place F.descriptors (low_argument c 2)) ≡ true) × ((not (is_some (epoll_of F (low_argument c 0))) || (low_argument c 0 == low_argument c 2)) ≡ false) → Named F c
    by None e o g k = let z : true ≡ false = sym (ap (λ (x : Option ℕ). not (is_some x) || (low_argument c 0 == low_argument c 2)) e) ∙ k.1 in absurd (cc)
    by (Some n) e None g k = let z : false ≡ true = sym (ap (λ (x : Option Descriptor). is_some x) g) ∙ k.0 in absurd (cc)
    by (Some n) e (Some d) g k = record { place = n; is_place = e; file = d.file; is_file = ap (option_map (λ (x : Descriptor). x.file)) g }

-- and else both machines refuse it with the same error
pub named_refused : (F : Files) (L : Files) (c : LxCall) (ws : List Watch) (e : LinuxErrno) → F ≡ plain_of L → first_refusal (descriptor_refusals F c) ≡ Some e → (control_refusal L c ≡ Some e) × (flux1_refusal F c ws ≡ Some e)
named_refused F L c ws e plain h = (
  ap (λ o. or_else o (first_refusal (interest_refusals (interests_of L (epoll_of L (low_argument c 0))) (file_of L (low_argument c 2)) c))) (sym (ap (λ (G : Files). first_refusal (descriptor_refusals G c)) plain) ∙ h),
  ap (λ o. or_else o (or_else (exclusive_refusal c) (knote_refusal c (file_of F (low_argument c 2)) ws))) h,
)
