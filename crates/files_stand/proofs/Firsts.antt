-- Flux1: refused as the Linux machine refuses, or the Read knote is changed and the queue is in flux.
use Rattle.std.proofs.Common.{◌≡◌, ℕ, ◌+◌, ◌≤◌, Bool, true, false, not, ◌||◌, ◌&&◌, List, [], ◌∷◌, ◌++◌, map, Option, Some, None, length, refl, sym, ap, ◌∙◌, arith}
use Rattle.std.specs.Prelude.{◌==◌, nat_le, filter, if◌then◌else◌, is_some}
use Rattle.std.specs.List.{list_any}
use Rattle.std.specs.Option.{option_map}
use Rattle.linux_abi.specs.declared.errno.LinuxErrno.TheVariants as errno
use Rattle.linux_abi.specs.declared.epoll.EpollOperation.TheVariants as operation
use Rattle.kqueue_core.specs.declared.knotes.ChangeFault.TheVariants as fault
use Rattle.linux_abi.specs.declared.epoll.EpollOperation.{EpollOperation}
use Rattle.lx_machine.specs.Calls.{low_argument, first_refusal}
use Rattle.lx_machine.specs.Interests.{is_named, stands}
use Rattle.lx_machine.specs.declared.calls.LxCall.{LxCall}
use Rattle.lx_machine.specs.declared.files.Files.{Files}
use Rattle.lx_machine.specs.declared.files.Interest.{Interest}
use Rattle.lx_machine.specs.EpollCtl.{control_of, asked_of, data_of, is_add, interest_refusals, or_else}
use Rattle.linux_abi.specs.EpollBits.{is_exclusive}
use Rattle.kqueue_core.specs.declared.knotes.Filter.TheVariants.{Read}
use Rattle.kqueue_core.specs.Changes.{tally, change_fault, has_filter, stays}
use Rattle.kqueue_core.specs.declared.knotes.Knote.{Knote}
use Rattle.kqueue_core.specs.declared.knotes.Watch.{Watch}
use Rattle.kqueue_core.specs.Watches.{is_of, fresh, changed_watch, has_knote}
use Rattle.kqueue_core.specs.Knotes.{remade, made}
use Rattle.kqueue_laws.specs.Pairs.{kept_flags, edge_bit, one_shot_bit, same, knote_of}
use Rattle.files_stand.specs.Changes.{flags_of, fault_errno, exclusive_refusal, half_changed, is_ready}
use Rattle.files_stand.specs.Same.{Same, Name, is_kept, stood_for, stood_by}
use Rattle.files_stand.specs.Fluxes.{FluxStands, is_asked_by, read_stands, is_in_flux_for}
use Rattle.kqueue_core.proofs.Tallies.{tally-append, tally-same, tally_among, tally_none, none_tally, tally_some, tally_all, tally_within, any_same}
use Rattle.files_stand.proofs.Arms.{with_kept}
use Rattle.kqueue_laws.proofs.Flags.{adds_add, adds_change, made_add, remade_change}
use Rattle.kqueue_laws.proofs.Pairs.{same_self, watch_with}
use Rattle.kqueue_laws.proofs.Changes.{eq_self, and_true, and_false, apart_changed, named_changed}

module _ (file descriptor : ℕ) (is : List Interest) (ws : List Watch) (st : Same None is ws) where
  pub named_count : tally (is_named file descriptor) is ≡ tally (is_of file descriptor) ws
  named_count = st (λ f d o. (f == file) && (d == descriptor))

  pub whole_named : tally (λ w. is_of file descriptor w && is_some (stood_for w)) ws ≡ tally (is_of file descriptor) ws
  whole_named =
      sym (st (λ f d o. ((f == file) && (d == descriptor)) && is_some o))
      ∙ tally-same (λ (i : Interest). is_named file descriptor i && true) (is_named file descriptor) (λ i. and_true (is_named file descriptor i)) is
      ∙ named_count

  pub counts : length is ≡ length ws
  counts = sym (tally_all is) ∙ st (λ f d o. true) ∙ tally_all ws

  has_read : (b : Bool) (w : Watch) (r k : Option Knote) → ((b && is_some (stood_by w.file w.descriptor r k)) && is_some r) ≡ (b && is_some (stood_by w.file w.descriptor r k))
  has_read b w None k = and_false (b && false) ∙ sym (and_false b)
  has_read b w (Some r) k = and_true _

  pub read_count : tally (has_filter file descriptor Read) ws ≡ tally (is_of file descriptor) ws
  read_count =
      tally_among (is_of file descriptor) (λ w. is_some (stood_for w)) (λ w. is_some w.read) ws whole_named
      ∙ tally-same _ _ (λ w. has_read (is_of file descriptor w) w w.read w.write) ws
      ∙ whole_named

  pub stood_any : list_any (has_filter file descriptor Read) ws ≡ stands file descriptor is
  stood_any = any_same (has_filter file descriptor Read) (is_named file descriptor) ws is (read_count ∙ sym named_count)

  pub named_any : list_any (is_of file descriptor) ws ≡ stands file descriptor is
  named_any = any_same (is_of file descriptor) (is_named file descriptor) ws is (sym named_count)

-- ---- refusals

adding : (exclusive stood full : Bool) → first_refusal ((exclusive, errno.EINVAL) ∷ (stood, errno.EEXIST) ∷ (full, errno.ENOSPC) ∷ (false, errno.ENOENT) ∷ [])
    ≡ or_else (if exclusive then Some errno.EINVAL else None) (option_map fault_errno (if stood then Some fault.Exists else (if not stood && full then Some fault.Full else None)))
adding true stood full = refl
adding false true full = refl
adding false false true = refl
adding false false false = refl

missing : (exclusive stood : Bool) → first_refusal ((exclusive, errno.EINVAL) ∷ (false, errno.EEXIST) ∷ (false, errno.ENOSPC) ∷ (not stood, errno.ENOENT) ∷ [])
    ≡ or_else (if exclusive then Some errno.EINVAL else None) (option_map fault_errno (if stood then None else Some fault.Missing))
missing true stood = refl
missing false true = refl
missing false false = refl

module _ (c : LxCall) (file : ℕ) (is : List Interest) (ws : List Watch) (st : Same None is ws) where
  abbrev fd : ℕ
  fd = low_argument c 2

  pub refusal_same : (op : EpollOperation) → control_of c ≡ Some op → first_refusal (interest_refusals is (Some file) c) ≡ or_else (exclusive_refusal c) (option_map fault_errno (change_fault file fd Read (flags_of (control_of c) (asked_of c)) ws))
  refusal_same operation.Add e = rw (e, adds_add (asked_of c), stood_any file fd is ws st, named_any file fd is ws st, sym (counts file fd is ws st)) (adding (is_exclusive (asked_of c)) (stands file fd is) (nat_le 512 (length is)))
  refusal_same operation.Change e = rw (e, adds_change (asked_of c), stood_any file fd is ws st) (missing (is_exclusive (asked_of c)) (stands file fd is))
  refusal_same operation.Delete e = rw (e, stood_any file fd is ws st) (missing (is_exclusive (asked_of c)) (stands file fd is))

-- ---- the change of the Read knote

tally_less : {X : Type 0} (m r : X → Bool) (xs : List X) → tally (λ x. m x && r x) xs ≤ tally m xs
tally_less m r xs = tally_within _ m (λ x h. (let e = and_first (m x) (r x) h in e)) xs
  where
    and_first : (b z : Bool) → (b && z) ≡ true → b ≡ true
    and_first true z h = refl
    and_first false z h = h

one_stands : (file descriptor : ℕ) (is : List Interest) (ws : List Watch) (st : Same None is ws) → tally (is_of file descriptor) ws ≤ 1 → (if list_any (has_filter file descriptor Read) ws then None else Some fault.Missing) ≡ None → tally (is_of file descriptor) ws ≡ 1
one_stands file descriptor is ws st once h = by (list_any (has_filter file descriptor Read) ws) refl
  where
    by : (b : Bool) → list_any (has_filter file descriptor Read) ws ≡ b → tally (is_of file descriptor) ws ≡ 1
    by true i = let k = tally_some (has_filter file descriptor Read) ws i in let z = read_count file descriptor is ws st in omega arith
    by false i = let k = rw i at h in let z : Some fault.Missing ≡ None = k in absurd (cc)

or_is_true : (b : Bool) → (b || true) ≡ true
or_is_true true = refl
or_is_true false = refl

-- the one watch of a name, whose knotes are a pair, after a change of its Read knote
pub read_changed : (file descriptor : ℕ) (is : List Interest) (ws : List Watch) (st : Same None is ws) (flags asked user : ℕ) (ready : Bool) (t : Watch → Bool)
    → ((f d : ℕ) (r k : Knote) → (has_knote (watch_with f d (remade flags asked user ready (Some r)) (Some k)) && t (watch_with f d (remade flags asked user ready (Some r)) (Some k))) ≡ true)
    → tally (λ w. is_of file descriptor w && t w) (filter (stays file descriptor) (map (changed_watch file descriptor Read flags asked user ready) ws)) ≡ tally (is_of file descriptor) ws
read_changed file descriptor is ws st flags asked user ready t h =
    named_changed file descriptor Read flags asked user ready t ws
    ∙ tally_among (is_of file descriptor) (λ w. is_some (stood_for w)) (λ w. has_knote (record w { read = remade flags asked user ready w.read }) && t (record w { read = remade flags asked user ready w.read })) ws (whole_named file descriptor is ws st)
    ∙ tally-same _ _ (λ w. point (is_of file descriptor w) w.file w.descriptor w.read w.write) ws
    ∙ whole_named file descriptor is ws st
  where
    fail : (b z : Bool) → ((b && false) && z) ≡ (b && false)
    fail true z = refl
    fail false z = refl

    pass : (b z : Bool) → z ≡ true → (b && z) ≡ b
    pass b z e = rw e (and_true b)

    point : (b : Bool) (f d : ℕ) (r k : Option Knote) → ((b && is_some (stood_by f d r k)) && (has_knote (watch_with f d (remade flags asked user ready r) k) && t (watch_with f d (remade flags asked user ready r) k))) ≡ (b && is_some (stood_by f d r k))
    point b f d None k = fail b _
    point b f d (Some r) None = fail b _
    point b f d (Some r) (Some k) = pass _ _ (h f d r k)

module _ (F : Files) (c : LxCall) (file : ℕ) (is : List Interest) (ws : List Watch) (st : Same None is ws) where
  abbrev at : ℕ
  at = low_argument c 2

  abbrev x : Name
  x = record { file = file; descriptor = low_argument c 2 }

  abbrev a : ℕ
  a = asked_of c

  abbrev ready_now : Bool
  ready_now = is_ready F file Read (asked_of c)

  abbrev added : Watch
  added = fresh file (low_argument c 2) Read (made (1 + kept_flags (asked_of c)) (asked_of c) (data_of c) (is_ready F file Read (asked_of c)) true)

  asked_reads : is_asked_by c (knote_of (asked_of c) (data_of c) true ready_now) ≡ true
  asked_reads = rw (eq_self (asked_of c), eq_self (data_of c), same_self (edge_bit (asked_of c)), same_self (one_shot_bit (asked_of c))) refl

  own_name : is_of file at added ≡ true
  own_name = rw (eq_self file, eq_self (low_argument c 2)) refl

  own_flux : control_of c ≡ Some operation.Add → is_in_flux_for c added ≡ true
  own_flux e = ap (λ (k : Knote). read_stands c (Some k) && same false (not (is_add (control_of c)))) (made_add (asked_of c) (data_of c) ready_now) ∙ rw (e, asked_reads) refl

  -- an add
  pub first_added : control_of c ≡ Some operation.Add → tally (is_of file at) ws ≡ 0 → FluxStands c x is (ws ++ added ∷ [])
  first_added e none = record {
    same = λ p. st (with_kept (Some x) p) ∙ more p;
    linux = rw e (named_count file at is ws st ∙ none);
    watch = tally-append (is_of file at) ws (added ∷ []) ∙ rw (none, own_name) refl;
    asked = tally-append (λ w. is_of file at w && is_in_flux_for c w) ws (added ∷ []) ∙ rw (nobody, own_name, own_flux e) refl;
  }
    where
      nobody : tally (λ w. is_of file at w && is_in_flux_for c w) ws ≡ 0
      nobody = let z = tally_less (is_of file at) (is_in_flux_for c) ws in omega arith

      more : (p : ℕ → ℕ → Option Interest → Bool) → tally (λ w. is_kept (Some x) w.file w.descriptor && p w.file w.descriptor (stood_for w)) ws ≡ tally (λ w. is_kept (Some x) w.file w.descriptor && p w.file w.descriptor (stood_for w)) (ws ++ added ∷ [])
      more p =
          let s = tally-append (λ w. is_kept (Some x) w.file w.descriptor && p w.file w.descriptor (stood_for w)) ws (added ∷ []) in
          let z : tally (λ w. is_kept (Some x) w.file w.descriptor && p w.file w.descriptor (stood_for w)) (added ∷ []) ≡ 0 = rw own_name refl in
          omega arith

  -- a change
  pub first_changed : control_of c ≡ Some operation.Change → tally (is_of file at) ws ≡ 1 → FluxStands c x is (filter (stays file at) (map (changed_watch file at Read (4 + kept_flags a) a (data_of c) ready_now) ws))
  first_changed e one = record {
    same = λ p. st (with_kept (Some x) p) ∙ sym (apart_changed file at Read (4 + kept_flags a) a (data_of c) ready_now (λ w. p w.file w.descriptor (stood_for w)) ws);
    linux = rw e (named_count file at is ws st ∙ one);
    watch = sym (tally-same (λ w. is_of file at w && true) (is_of file at) (λ w. and_true (is_of file at w)) _) ∙ read_changed file at is ws st (4 + kept_flags a) a (data_of c) ready_now (λ w. true) (λ f d r k. rw (remade_change a (data_of c) ready_now r) refl) ∙ one;
    asked = read_changed file at is ws st (4 + kept_flags a) a (data_of c) ready_now (is_in_flux_for c) (λ f d r k. rw (remade_change a (data_of c) ready_now r, e, asked_reads) refl) ∙ one;
  }

  -- a delete
  pub first_deleted : control_of c ≡ Some operation.Delete → tally (is_of file at) ws ≡ 1 → FluxStands c x is (filter (stays file at) (map (changed_watch file at Read 2 a (data_of c) ready_now) ws))
  first_deleted e one = record {
    same = λ p. st (with_kept (Some x) p) ∙ sym (apart_changed file at Read 2 a (data_of c) ready_now (λ w. p w.file w.descriptor (stood_for w)) ws);
    linux = rw e (named_count file at is ws st ∙ one);
    watch = sym (tally-same (λ w. is_of file at w && true) (is_of file at) (λ w. and_true (is_of file at w)) _) ∙ read_changed file at is ws st 2 a (data_of c) ready_now (λ w. true) (λ f d r k. refl) ∙ one;
    asked = read_changed file at is ws st 2 a (data_of c) ready_now (is_in_flux_for c) (λ f d r k. rw e refl) ∙ one;
  }

  -- Flux1 that isn't refused
  pub first_stands : (op : EpollOperation) → control_of c ≡ Some op → tally (is_of file at) ws ≤ 1 → change_fault file at Read (flags_of (control_of c) a) ws ≡ None → FluxStands c x is (half_changed F c file Read ws)
  first_stands operation.Add e once free =
      let free' = rw (e, adds_add a) at free in
      let none = none_stands (list_any (has_filter file at Read) ws) refl free' in
      let zero = tally_none (has_filter file at Read) ws none in
      let none' = none_tally (is_of file at) ws (sym (read_count file at is ws st) ∙ zero) in
      rw (e, adds_add a, none') (first_added e (sym (read_count file at is ws st) ∙ zero))
    where
      none_stands : (b : Bool) → list_any (has_filter file at Read) ws ≡ b → (if list_any (has_filter file at Read) ws then Some fault.Exists else (if not (list_any (is_of file at) ws) && nat_le 512 (length ws) then Some fault.Full else None)) ≡ None → list_any (has_filter file at Read) ws ≡ false
      none_stands true i h = let k = rw i at h in cc
      none_stands false i h = i
  first_stands operation.Change e once free =
      let free' = rw (e, adds_change a) at free in
      rw (e, adds_change a) (first_changed e (one_stands file at is ws st once free'))
  first_stands operation.Delete e once free =
      let free' = rw e at free in
      rw e (first_deleted e (one_stands file at is ws st once free'))
