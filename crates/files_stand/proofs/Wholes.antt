-- The entries on epolls, over all queues.
use Rattle.std.proofs.Common.{◌≡◌, ◌≢◌, ℕ, ◌+◌, ◌≤◌, Bool, true, false, ◌&&◌, List, map, Option, Some, None, length, refl, sym, ap, ◌∙◌, subst, arith, ◌⊎◌, inl, inr}
use Rattle.std.specs.Prelude.{◌==◌, nat_le, if◌then◌else◌, slice_set}
use Rattle.std.specs.Option.{option_map}
use Rattle.linux_abi.specs.declared.epoll.EpollOperation.TheVariants as operation
use Rattle.linux_abi.specs.declared.errno.LinuxErrno.TheVariants as errno
use Rattle.linux_abi.specs.declared.errno.LinuxErrno.{LinuxErrno}
use Rattle.linux_abi.specs.declared.epoll.EpollOperation.{EpollOperation}
use Rattle.kqueue_core.specs.declared.knotes.ChangeFault.{ChangeFault}
use Rattle.lx_machine.specs.Calls.{low_argument, first_refusal}
use Rattle.lx_machine.specs.Lists.{at_place}
use Rattle.lx_machine.specs.Interests.{after_report, is_named}
use Rattle.lx_machine.specs.declared.calls.LxCall.{LxCall}
use Rattle.lx_machine.specs.declared.files.Files.{Files}
use Rattle.lx_machine.specs.declared.files.Interest.{Interest}
use Rattle.linux_abi.specs.EpollBits.{is_exclusive}
use Rattle.lx_machine.specs.EpollCtl.{control_of, asked_of, control_refusal, descriptor_refusals, interest_refusals, or_else, epoll_of, file_of, new_interest, controlled}
use Rattle.lx_machine.specs.Epoll.{interests_of, interests_in, is_answer}
use Rattle.kqueue_core.specs.declared.knotes.Filter.TheVariants.{Read}
use Rattle.kqueue_core.specs.Changes.{tally, change_fault}
use Rattle.kqueue_core.specs.declared.knotes.Watch.{Watch}
use Rattle.kqueue_core.specs.declared.knotes.Flux.{Flux}
use Rattle.kqueue_core.specs.Queues.{Queue}
use Rattle.kqueue_core.specs.Watches.{is_of}
use Rattle.kqueue_core.specs.Reports.{scanned, reports}
use Rattle.open_files.specs.Plain.{readiness, plain_of}
use Rattle.files_stand.specs.Changes.{flags_of, flux1_refusal, flux1, flux2, exclusive_refusal, knote_refusal, fault_errno}
use Rattle.files_stand.specs.Steps.{pick_for}
use Rattle.files_stand.specs.Same.{Same}
use Rattle.files_stand.specs.Fluxes.{FluxStands, InFlux, with_call}
use Rattle.files_stand.specs.FilesStand.{QueueStands, PlaceStands, AllStand}
use Rattle.kqueue_laws.specs.Pairs.{is_lost}
use Rattle.kqueue_core.proofs.Tallies.{tally-split, tally-same, tally_all, none_tally, some_tally}
use Rattle.kqueue_laws.proofs.Changes.{and_true, eq_is}
use Rattle.files_stand.proofs.Firsts.{refusal_same, first_stands}
use Rattle.files_stand.proofs.Seconds.{second_stands}
use Rattle.files_stand.proofs.Scans.{answers, leaves}
use Rattle.files_stand.proofs.Places.{same_or_not, set_here, set_other, set_back}

-- ---- Flux1 that is refused

pub refusal_stands : (L : Files) (c : LxCall) (n file : ℕ) (op : EpollOperation) (is : List Interest) (ws : List Watch)
    → epoll_of L (low_argument c 0) ≡ Some n → file_of L (low_argument c 2) ≡ Some file → control_of c ≡ Some op → at_place L.epolls n ≡ Some is → Same None is ws
    → control_refusal L c ≡ flux1_refusal (plain_of L) c ws
refusal_stands L c n file op is ws queue names asks place st =
    ap (or_else (first_refusal (descriptor_refusals L c)))
    (ap (λ is. first_refusal (interest_refusals is (file_of L (low_argument c 2)) c)) (ap (interests_of L) queue ∙ ap interests_in place)
    ∙ ap (λ o. first_refusal (interest_refusals is o c)) names
    ∙ refusal_same c file is ws st op asks
    ∙ sym (ap (λ o. or_else (exclusive_refusal c) (knote_refusal c o ws)) names))

-- ---- places

pub place_at : (calls : ℕ → Option LxCall) (F : Files) (n : ℕ) (q q' : Option Queue) (is is' : Option (List Interest)) → q' ≡ q → is' ≡ is → PlaceStands calls F n q is → PlaceStands calls F n q' is'
place_at calls F n q q' is is' e f st = rw (e, f) st

-- one queue changes, with the calls between two entries
pub one_stands : (calls calls' : ℕ → Option LxCall) (F : Files) (qs : List (Option Queue)) (es : List (Option (List Interest))) (n : ℕ) (q q' : Queue) (is is' : List Interest)
    → at_place qs n ≡ Some q → at_place es n ≡ Some is
    → AllStand calls F qs es
    → ((m : ℕ) (flux : Flux) (js : List Interest) (ws : List Watch) → m ≢ n → InFlux calls F m flux js ws → InFlux calls' F m flux js ws)
    → QueueStands calls' F n q'.flux is' q'.watches
    → AllStand calls' F (slice_set qs n (Some q')) (slice_set es n (Some is'))
one_stands calls calls' F qs es n q q' is is' hq hi st without_first new m = by (same_or_not n m)
  where
    queue : (flux : Option Flux) (js : List Interest) (ws : List Watch) → m ≢ n → QueueStands calls F m flux js ws → QueueStands calls' F m flux js ws
    queue None js ws ne h = h
    queue (Some flux) js ws ne h = without_first m flux js ws ne h

    place : (p : Option Queue) (js : Option (List Interest)) → m ≢ n → PlaceStands calls F m p js → PlaceStands calls' F m p js
    place None None ne h = tt
    place (Some p) (Some js) ne h = queue p.flux js p.watches ne h
    place None (Some js) ne h = h
    place (Some p) None ne h = h

    here : (k : ℕ) → k ≡ n → PlaceStands calls' F k (at_place (slice_set qs n (Some q')) k) (at_place (slice_set es n (Some is')) k)
    here k e = rw e (place_at calls' F n (Some q') _ (Some is') _ (set_here qs n (Some q') q hq) (set_here es n (Some is') is hi) new)

    by : (m ≡ n) ⊎ (m ≢ n) → PlaceStands calls' F m (at_place (slice_set qs n (Some q')) m) (at_place (slice_set es n (Some is')) m)
    by (inl e) = here m e
    by (inr ne) = place_at calls' F m _ _ _ _ (set_other qs n m (Some q') ne) (set_other es n m (Some is') ne) (place (at_place qs m) (at_place es m) ne (st m))

first_none : (o p : Option LinuxErrno) → or_else o p ≡ None → (o ≡ None) × (p ≡ None)
first_none None p h = (refl, h)
first_none (Some e) p h = let z : Some e ≡ None = h in absurd (cc)

none_mapped : (o : Option ChangeFault) → option_map fault_errno o ≡ None → o ≡ None
none_mapped None h = refl
none_mapped (Some x) h = let z : Some (fault_errno x) ≡ None = h in absurd (cc)

-- the queue doesn't refuse the change of the Read knote
pub no_fault : (F : Files) (c : LxCall) (file : ℕ) (ws : List Watch) → file_of F (low_argument c 2) ≡ Some file → flux1_refusal F c ws ≡ None → change_fault file (low_argument c 2) Read (flags_of (control_of c) (asked_of c)) ws ≡ None
no_fault F c file ws hf goes =
    let a = first_none (first_refusal (descriptor_refusals F c)) (or_else (exclusive_refusal c) (knote_refusal c (file_of F (low_argument c 2)) ws)) goes in
    let b = first_none (exclusive_refusal c) (knote_refusal c (file_of F (low_argument c 2)) ws) a.1 in
    none_mapped (change_fault file (low_argument c 2) Read (flags_of (control_of c) (asked_of c)) ws) (sym (ap (λ o. knote_refusal c o ws) hf) ∙ b.1)

-- ---- Flux1 that goes on

pub flux1_all : (calls : ℕ → Option LxCall) (F : Files) (qs : List (Option Queue)) (es : List (Option (List Interest))) (s : ℕ) (c : LxCall) (op : EpollOperation) (n file : ℕ) (q : Queue) (is : List Interest)
    → AllStand calls F qs es → calls s ≡ None → control_of c ≡ Some op → epoll_of F (low_argument c 0) ≡ Some n → file_of F (low_argument c 2) ≡ Some file
    → at_place qs n ≡ Some q → at_place es n ≡ Some is → q.flux ≡ None → tally (is_of file (low_argument c 2)) q.watches ≤ 1
    → flux1_refusal F c q.watches ≡ None
    → AllStand (with_call calls s (Some c)) F (slice_set qs n (Some (flux1 F s c file q))) es
flux1_all calls F qs es s c op n file q is st idle asks hn hf hq hi free once goes =
    subst (λ (l : List (Option (List Interest))). AllStand (with_call calls s (Some c)) F (slice_set qs n (Some (flux1 F s c file q))) l) (set_back es n is hi)
    (one_stands calls (with_call calls s (Some c)) F qs es n q (flux1 F s c file q) is is hq hi st without_first
    (record { call = c; own = own s refl; on = refl; place = hn; file = file; open_file = hf; calm = (first_none _ _ goes).0; shared = (first_none _ _ (first_none _ _ goes).1).0; stands = first_stands F c file is q.watches before op asks once (no_fault F c file q.watches hf goes) }))
  where
    before : Same None is q.watches
    before = let h : PlaceStands calls F n (Some q) (Some is) = place_at calls F n _ _ _ _ (sym hq) (sym hi) (st n) in subst (λ f. QueueStands calls F n f is q.watches) free h

    own : (k : ℕ) → k ≡ s → with_call calls s (Some c) k ≡ Some c
    own k e = let h : (k == s) ≡ true = grind arith in rw h refl

    kept : (k : ℕ) (d : LxCall) → calls k ≡ Some d → with_call calls s (Some c) k ≡ Some d
    kept k d h = by (k == s) refl
      where
        by : (b : Bool) → (k == s) ≡ b → with_call calls s (Some c) k ≡ Some d
        by true e = let z : calls s ≡ Some d = ap calls (sym (eq_is k s e)) ∙ h in absurd (cc)
        by false e = rw e h

    without_first : (m : ℕ) (flux : Flux) (js : List Interest) (ws : List Watch) → m ≢ n → InFlux calls F m flux js ws → InFlux (with_call calls s (Some c)) F m flux js ws
    without_first m flux js ws ne h = record { call = h.call; own = kept flux.slot h.call h.own; on = h.on; place = h.place; file = h.file; open_file = h.open_file; calm = h.calm; shared = h.shared; stands = h.stands }

-- ---- Flux2

pub flux2_all : (calls : ℕ → Option LxCall) (F : Files) (qs : List (Option Queue)) (es : List (Option (List Interest))) (s : ℕ) (c : LxCall) (op : EpollOperation) (n : ℕ) (q : Queue) (is : List Interest)
    → AllStand calls F qs es → calls s ≡ Some c → control_of c ≡ Some op → epoll_of F (low_argument c 0) ≡ Some n
    → at_place qs n ≡ Some q → at_place es n ≡ Some is → q.flux ≡ Some (record { slot = s; descriptor = low_argument c 2 })
    → (file : ℕ) → file_of F (low_argument c 2) ≡ Some file
    → AllStand (with_call calls s None) F (slice_set qs n (Some (flux2 F c file q))) (slice_set es n (Some (controlled (control_of c) (new_interest F c file) is)))
flux2_all calls F qs es s c op n q is st hs asks hn hq hi hflux file hf =
    one_stands calls (with_call calls s None) F qs es n q (flux2 F c file q) is (controlled (control_of c) (new_interest F c file) is) hq hi st without_first
    (second_stands F c file is q.watches (named h.call (sym is_c) h.file file_is h.stands) op asks)
  where
    flux : Flux
    flux = record { slot = s; descriptor = low_argument c 2 }

    h : InFlux calls F n (record { slot = s; descriptor = low_argument c 2 }) is q.watches
    h = let k : PlaceStands calls F n (Some q) (Some is) = place_at calls F n _ _ _ _ (sym hq) (sym hi) (st n) in subst (λ f. QueueStands calls F n f is q.watches) hflux k

    is_c : c ≡ h.call
    is_c = let k : Some c ≡ Some h.call = sym hs ∙ h.own in cc

    file_is : h.file ≡ file
    file_is = let k : Some h.file ≡ Some file = sym h.open_file ∙ ap (λ (d : LxCall). file_of F (low_argument d 2)) (sym is_c) ∙ hf in cc

    named : (d : LxCall) → d ≡ c → (f : ℕ) → f ≡ file → FluxStands d (record { file = f; descriptor = low_argument d 2 }) is q.watches → FluxStands c (record { file = file; descriptor = low_argument c 2 }) is q.watches
    named d e f g k = let k' = subst (λ (z : ℕ). FluxStands d (record { file = z; descriptor = low_argument d 2 }) is q.watches) g k in subst (λ (z : LxCall). FluxStands z (record { file = file; descriptor = low_argument z 2 }) is q.watches) e k'

    without_first : (m : ℕ) (fl : Flux) (js : List Interest) (ws : List Watch) → m ≢ n → InFlux calls F m fl js ws → InFlux (with_call calls s None) F m fl js ws
    without_first m fl js ws ne k = record { call = k.call; own = kept (fl.slot == s) refl; on = k.on; place = k.place; file = k.file; open_file = k.open_file; calm = k.calm; shared = k.shared; stands = k.stands }
      where
        kept : (b : Bool) → (fl.slot == s) ≡ b → with_call calls s None fl.slot ≡ Some k.call
        kept true e =
            let i : Some k.call ≡ Some c = sym k.own ∙ ap calls (eq_is _ _ e) ∙ hs in
            let j : k.call ≡ c = cc in
            let l : Some m ≡ Some n = sym k.place ∙ ap (λ (d : LxCall). epoll_of F (low_argument d 0)) j ∙ hn in
            absurd (ne (cc))
        kept false e = rw e k.own

-- the Linux machine refuses nothing at Flux2: what Flux1 has found still holds
pub flux2_allowed : (calls : ℕ → Option LxCall) (L : Files) (n : ℕ) (flux : Flux) (is : List Interest) (ws : List Watch) (h : InFlux calls (plain_of L) n flux is ws) (op : EpollOperation) → control_of h.call ≡ Some op
    → at_place L.epolls n ≡ Some is → length ws ≤ 512 → control_refusal L h.call ≡ None
flux2_allowed calls L n flux is ws h op asks place room =
    ap (λ o. or_else o (first_refusal (interest_refusals (interests_of L (epoll_of L (low_argument h.call 0))) (file_of L (low_argument h.call 2)) h.call))) h.calm
    ∙ ap (λ is. first_refusal (interest_refusals is (file_of L (low_argument h.call 2)) h.call)) (ap (interests_of L) h.place ∙ ap interests_in place)
    ∙ ap (λ o. first_refusal (interest_refusals is o h.call)) h.open_file
    ∙ by op asks
  where
    c : LxCall
    c = h.call

    not_exclusive : is_exclusive (asked_of h.call) ≡ false
    not_exclusive = of (is_exclusive (asked_of h.call)) h.shared
      where
        of : (b : Bool) → (if b then Some errno.EINVAL else None) ≡ None → b ≡ false
        of true e = let z : Some errno.EINVAL ≡ None = e in absurd (cc)
        of false e = refl

    lengths : length is + tally (is_of h.file (low_argument h.call 2)) ws ≡ length ws + tally (is_named h.file (low_argument h.call 2)) is
    lengths =
        let a = tally-split (is_named h.file (low_argument h.call 2)) (λ i. true) is in
        let b = tally-split (is_of h.file (low_argument h.call 2)) (λ w. true) ws in
        let d = tally_all is in
        let e = tally_all ws in
        let f = tally-same (λ i. is_named h.file (low_argument h.call 2) i && true) (is_named h.file (low_argument h.call 2)) (λ i. and_true _) is in
        let g = tally-same (λ w. is_of h.file (low_argument h.call 2) w && true) (is_of h.file (low_argument h.call 2)) (λ w. and_true _) ws in
        let s = h.stands.same (λ f d o. true) in
        omega arith

    by : (op : EpollOperation) → control_of h.call ≡ Some op → first_refusal (interest_refusals is (Some h.file) h.call) ≡ None
    by operation.Add e =
        let l = rw e at h.stands.linux in
        let none = none_tally (is_named h.file (low_argument h.call 2)) is l in
        let few : nat_le 512 (length is) ≡ false = few_of (let k = lengths in let w = h.stands.watch in omega arith) in
        rw (e, not_exclusive, none, few) refl
      where
        few_of : length is + 1 ≤ 512 → nat_le 512 (length is) ≡ false
        few_of k = grind arith
    by operation.Change e =
        let l = rw e at h.stands.linux in
        let some = some_tally (is_named h.file (low_argument h.call 2)) is (omega arith) in
        rw (e, not_exclusive, some) refl
    by operation.Delete e =
        let l = rw e at h.stands.linux in
        let some = some_tally (is_named h.file (low_argument h.call 2)) is (omega arith) in
        rw (e, not_exclusive, some) refl

-- ---- Look on an epoll: the scan, before the hold is given back

pub look_all : (calls : ℕ → Option LxCall) (F : Files) (qs : List (Option Queue)) (es : List (Option (List Interest))) (n most : ℕ) (q : Queue) (is : List Interest)
    → AllStand calls F qs es → at_place qs n ≡ Some q → at_place es n ≡ Some is → q.flux ≡ None
    → ((f d : ℕ) → tally (is_of f d) q.watches ≤ 1) → tally (is_lost (readiness F)) q.watches ≡ 0
    → 1 ≤ length (reports (readiness F) most q.watches)
    → (is_answer F is most (map pick_for (reports (readiness F) most q.watches)) ≡ true)
    × AllStand calls F (slice_set qs n (Some (record q { watches = scanned (readiness F) most q.watches }))) (slice_set es n (Some (after_report (map pick_for (reports (readiness F) most q.watches)) is)))
look_all calls F qs es n most q is st hq hi free once kept some = (
  answers F is q.watches before once kept most some,
  one_stands calls calls F qs es n q (record q { watches = scanned (readiness F) most q.watches }) is (after_report (map pick_for (reports (readiness F) most q.watches)) is) hq hi st (λ m flux js ws ne h. h)
      (subst (λ f. QueueStands calls F n f (after_report (map pick_for (reports (readiness F) most q.watches)) is) (scanned (readiness F) most q.watches)) (sym free) (leaves F is q.watches before once kept most)),
)
  where
    before : Same None is q.watches
    before = let h : PlaceStands calls F n (Some q) (Some is) = place_at calls F n _ _ _ _ (sym hq) (sym hi) (st n) in subst (λ f. QueueStands calls F n f is q.watches) free h

-- ---- a queue in no flux

module _ (calls : ℕ → Option LxCall) (F : Files) (qs : List (Option Queue)) (es : List (Option (List Interest))) (n : ℕ) (q : Queue) (is : List Interest) where
  pub free_same : AllStand calls F qs es → at_place qs n ≡ Some q → at_place es n ≡ Some is → q.flux ≡ None → Same None is q.watches
  free_same st hq hi free = let h : PlaceStands calls F n (Some q) (Some is) = place_at calls F n _ _ _ _ (sym hq) (sym hi) (st n) in subst (λ f. QueueStands calls F n f is q.watches) free h
