-- A scan reports an answer of the Linux machine, and leaves what that answer leaves.
use Rattle.std.proofs.Common.{◌≡◌, ℕ, suc, ◌+◌, ◌<◌, ◌≤◌, Bool, true, false, not, ◌||◌, ◌&&◌, List, [], ◌∷◌, ◌++◌, map, Option, Some, None, length, refl, sym, ap, ap₂, ◌∙◌, arith}
use Rattle.std.specs.Prelude.{◌==◌, nat_lt, nat_le, if◌then◌else◌, is_some, flat_map}
use Rattle.std.specs.List.{list_any}
use Rattle.std.specs.Option.{option_map}
use Rattle.std.proofs.lemmas.Grind.{common_steps}
use Rattle.places.specs.Places.{bytes_of}
use Rattle.lx_machine.specs.Interests.{is_named, is_picked, if_reported, after_report, reported_once}
use Rattle.lx_machine.specs.declared.files.Files.{Files}
use Rattle.lx_machine.specs.declared.files.Interest.{Interest}
use Rattle.lx_machine.specs.declared.label.Pick.{Pick}
use Rattle.lx_machine.specs.Epoll.{is_due, is_due_interest, are_due, are_distinct, is_same, is_left, is_answer, named, event_of, events, told}
use Rattle.kqueue_core.specs.declared.knotes.Filter.{Filter}
use Rattle.kqueue_core.specs.Changes.{tally}
use Rattle.kqueue_core.specs.declared.knotes.Knote.{Knote}
use Rattle.kqueue_core.specs.declared.knotes.Watch.{Watch}
use Rattle.kqueue_core.specs.Watches.{is_of, told_watch, user_of}
use Rattle.bsd_files.specs.Queues.{event_bytes}
use Rattle.kqueue_core.specs.Reports.{event_of as event_by, is_reported, reports, without_first, scanned, watch_bits}
use Rattle.kqueue_core.specs.Knotes.{told_knote}
use Rattle.open_files.specs.Plain.{readiness}
use Rattle.files_stand.specs.Steps.{pick_for}
use Rattle.files_stand.specs.Same.{Same, seen, stood_for, stood_by}
use Rattle.kqueue_laws.specs.Pairs.{is_lost}
use Rattle.kqueue_core.proofs.Tallies.{tally-append, tally-map, tally-same, tally_and, none_tally, tally_within, tally_false, any_same}
use Rattle.kqueue_laws.proofs.Changes.{eq_is, both_true}
use Rattle.kqueue_laws.proofs.Pairs.{IsWhole}
use Rattle.files_stand.proofs.Pairs.{whole_stood, passes, due_whole, seen_due, told_whole, seen_once, stood_pair, pair_told}
use Rattle.kqueue_laws.proofs.Scans.{split_scan, few, all_reported, none_left, eq_flip, is_among, own_name, not_among, each_among}

-- ---- names

same_name : (w : Watch) (ys : List Watch) → list_any (is_same (pick_for w)) (map pick_for ys) ≡ is_among ys w.file w.descriptor
same_name w [] = refl
same_name w (y ∷ ys) = ap₂ (λ b z. b || z) (ap₂ (λ b z. b && z) (eq_flip w.file y.file) (eq_flip w.descriptor y.descriptor)) (same_name w ys)

pub picked_name : (i : Interest) (rs : List Watch) → is_picked (map pick_for rs) i ≡ is_among rs i.file i.descriptor
picked_name i [] = refl
picked_name i (r ∷ rs) = ap₂ (λ b z. b || z) (ap₂ (λ b z. b && z) (eq_flip i.file r.file) (eq_flip i.descriptor r.descriptor)) (picked_name i rs)

-- picks of watches of which no two have one name
pub distinct : (ys : List Watch) → ((f d : ℕ) → tally (is_of f d) ys ≤ 1) → are_distinct (map pick_for ys) ≡ true
distinct [] h = refl
distinct (w ∷ ys) h =
    let a = distinct ys (λ f d. less f d) in
    let none = none_tally (is_of w.file w.descriptor) ys (zero_of (own_name w) (h w.file w.descriptor)) in
    rw (same_name w ys, none) a
  where
    less : (f d : ℕ) → tally (is_of f d) ys ≤ 1
    less f d = let z = h f d in grind (arith, common_steps)

    zero_of : is_of w.file w.descriptor w ≡ true → tally (is_of w.file w.descriptor) (w ∷ ys) ≤ 1 → tally (is_of w.file w.descriptor) ys ≡ 0
    zero_of k z = let y : 1 + tally (is_of w.file w.descriptor) ys ≤ 1 = rw k at z in omega arith

-- the interest that a pick names
pub named_passes : (t : Interest → Bool) (p : Pick) (is : List Interest) → tally (is_named p.file p.descriptor) is ≤ 1 → 1 ≤ tally (λ i. is_named p.file p.descriptor i && t i) is → passes t (named is p) ≡ true
named_passes t p [] h k = absurd (omega arith)
named_passes t p (i ∷ is) h k = by (named_passes t p is) (is_named p.file p.descriptor i) refl (t i) refl
  where
    less : tally (λ i. is_named p.file p.descriptor i && t i) is ≤ tally (is_named p.file p.descriptor) is
    less = tally_within _ (is_named p.file p.descriptor) (λ j e. (both_true _ _ e).0) is

    by : (tally (is_named p.file p.descriptor) is ≤ 1 → 1 ≤ tally (λ i. is_named p.file p.descriptor i && t i) is → passes t (named is p) ≡ true) → (b : Bool) → is_named p.file p.descriptor i ≡ b → (c : Bool) → t i ≡ c → passes t (if is_named p.file p.descriptor i then Some i else named is p) ≡ true
    by again true e true f = rw e f
    by again true e false f =
        let h' : 1 + tally (is_named p.file p.descriptor) is ≤ 1 = rw e at h in
        let k' : 1 ≤ 0 + tally (λ i. is_named p.file p.descriptor i && t i) is = rw (e, f) at k in
        let l = less in
        absurd (omega arith)
    by again false e c f =
        let h' : 0 + tally (is_named p.file p.descriptor) is ≤ 1 = rw e at h in
        let k' : 1 ≤ 0 + tally (λ i. is_named p.file p.descriptor i && t i) is = rw e at k in
        rw e (again (omega arith) (omega arith))

module _ (F : Files) (is : List Interest) (ws : List Watch) (st : Same None is ws) (once : (f d : ℕ) → tally (is_of f d) ws ≤ 1) (kept : tally (is_lost (readiness F)) ws ≡ 0) where
  abbrev R : ℕ → Filter → ℕ
  R = readiness F

  -- a test of interests is one of watches
  pub through : (t : ℕ → ℕ → Interest → Bool) → ((i : Interest) (f d : ℕ) → t f d (seen i) ≡ t f d i) → tally (λ i. t i.file i.descriptor i) is ≡ tally (λ w. passes (t w.file w.descriptor) (stood_for w)) ws
  through t h = sym (tally-same _ _ (λ i. h i i.file i.descriptor) is) ∙ st (λ f d o. passes (t f d) o)

  pub names : (f d : ℕ) → tally (is_named f d) is ≡ tally (is_of f d) ws
  names f d = st (λ g e o. (g == f) && (e == d))

  all_whole : tally (λ w. not (is_some (stood_for w))) ws ≡ 0
  all_whole = sym (st (λ f d o. not (is_some o))) ∙ tally_false is

  -- a watch stands for a due interest exactly where it is reported
  due_point : (b l : Bool) (f d : ℕ) (r k : Option Knote) → is_some (stood_by f d r k) ≡ b → is_lost R (record { file = f; descriptor = d; read = r; write = k }) ≡ l
      → (not l && (b && is_reported R (record { file = f; descriptor = d; read = r; write = k }))) ≡ (not l && (b && passes (is_due F) (stood_by f d r k)))
  due_point false l f d r k e g = refl
  due_point true true f d r k e g = refl
  due_point true false f d r k e g = let h = due_whole F f d r k (whole_stood f d r k e) in let h' = rw g at h in sym h' ∙ and_true' _
    where
      and_true' : (b : Bool) → (b && true) ≡ b
      and_true' true = refl
      and_true' false = refl

  -- for watches of which each stands in the queue
  module _ (ys : List Watch) (sub : (q : Watch → Bool) → tally q ys ≤ tally q ws) where
    whole_ys : tally (λ w. not (is_some (stood_for w))) ys ≡ 0
    whole_ys = let a = sub (λ w. not (is_some (stood_for w))) in let b = all_whole in omega arith

    kept_ys : tally (λ w. not (not (is_lost R w))) ys ≡ 0
    kept_ys = let a = sub (is_lost R) in tally-same (λ w. not (not (is_lost R w))) (is_lost R) (λ w. twice (is_lost R w)) ys ∙ omega arith
      where
        twice : (b : Bool) → not (not b) ≡ b
        twice true = refl
        twice false = refl

    pub due_count : (q : Watch → Bool) → tally (λ w. is_reported R w && q w) ys ≡ tally (λ w. passes (is_due F) (stood_for w) && q w) ys
    due_count q =
        sym (tally_and (λ w. not (is_lost R w)) (λ w. is_reported R w && q w) ys kept_ys)
        ∙ sym (tally_and (λ w. is_some (stood_for w)) (λ w. not (is_lost R w) && (is_reported R w && q w)) ys whole_ys)
        ∙ tally-same _ _ (λ w. same_and (not (is_lost R w)) (is_some (stood_for w)) (is_reported R w) (passes (is_due F) (stood_for w)) (q w) (due_point _ _ w.file w.descriptor w.read w.write refl refl)) ys
        ∙ tally_and (λ w. is_some (stood_for w)) (λ w. not (is_lost R w) && (passes (is_due F) (stood_for w) && q w)) ys whole_ys
        ∙ tally_and (λ w. not (is_lost R w)) (λ w. passes (is_due F) (stood_for w) && q w) ys kept_ys
      where
        same_and : (n b r p z : Bool) → (n && (b && r)) ≡ (n && (b && p)) → (b && (n && (r && z))) ≡ (b && (n && (p && z)))
        same_and true true r p z h = ap (λ y. y && z) h
        same_and true false r p z h = refl
        same_and false true r p z h = refl
        same_and false false r p z h = refl

  -- ---- one watch of the queue

  abbrev IsIn : Watch → Type 0
  IsIn w = (q : Watch → Bool) → q w ≡ true → 1 ≤ tally q ws

  in_whole : (w : Watch) → IsIn w → (b : Bool) → is_some (stood_for w) ≡ b → b ≡ true
  in_whole w h true e = refl
  in_whole w h false e = let k = h (λ v. not (is_some (stood_for v))) (rw e refl) in let z = all_whole in absurd (omega arith)

  in_kept : (w : Watch) → IsIn w → (b : Bool) → is_lost R w ≡ b → b ≡ false
  in_kept w h false e = refl
  in_kept w h true e = let k = h (is_lost R) e in absurd (omega arith)

  in_due : (w : Watch) → IsIn w → is_reported R w ≡ true → passes (is_due F) (stood_for w) ≡ true
  in_due w h e =
      let a = in_whole w h _ refl in
      let l = in_kept w h _ refl in
      let k = due_point true false w.file w.descriptor w.read w.write a l in
      sym k ∙ e

  -- what its interest passes in the Linux machine
  looked : (w : Watch) → IsIn w → (t : Option Interest → Bool) → t (stood_for w) ≡ true → passes (λ i. t (Some (seen i))) (named is (pick_for w)) ≡ true
  looked w h t e =
      named_passes (λ i. t (Some (seen i))) (pick_for w) is (let a = names w.file w.descriptor in let b = once w.file w.descriptor in omega arith)
      (let a = st (λ f d o. ((f == w.file) && (d == w.descriptor)) && t o) in
      let b = h (λ v. is_of w.file w.descriptor v && t (stood_for v)) (rw (own_name w, e) refl) in omega arith)

  due_named : (o : Option Interest) → passes (λ i. passes (is_due F) (Some (seen i))) o ≡ is_due_interest F o
  due_named None = refl
  due_named (Some i) = seen_due F i

  abbrev bytes_by : ℕ → ℕ → List ℕ
  bytes_by bits user = bytes_of bits 4 ++ bytes_of 0 4 ++ bytes_of user 8

  abbrev is_event : ℕ → ℕ → Interest → Bool
  is_event bits user i = (told F i.file i.asked == bits) && (i.«data» == user)

  event_named : (bits user : ℕ) (o : Option Interest) → passes (λ i. passes (is_event bits user) (Some (seen i))) o ≡ true → event_of F o ≡ bytes_by bits user
  event_named bits user None h = let z : false ≡ true = h in absurd (cc)
  event_named bits user (Some i) h = let k = both_true _ _ h in ap₂ bytes_by (eq_is _ _ k.0) (eq_is _ _ k.1)

  event_point : (f d : ℕ) (r k : Option Knote) → IsWhole r k → passes (is_event (watch_bits R (record { file = f; descriptor = d; read = r; write = k })) (user_of (record { file = f; descriptor = d; read = r; write = k }))) (stood_by f d r k) ≡ true
  event_point f d r k h = rw (h.read, h.write) (rw (stood_pair f d h.asked h.user h.enabled h.reads h.writes, pair_told F f d h.asked h.user h.enabled h.reads h.writes) (both_same (told F f h.asked) h.user))
    where
      both_same : (n m : ℕ) → ((n == n) && (m == m)) ≡ true
      both_same n m = grind arith

  -- the event is that of the interest
  pub event_is : (w : Watch) → IsIn w → event_of F (named is (pick_for w)) ≡ bytes_by (watch_bits R w) (user_of w)
  event_is w h = event_named _ _ (named is (pick_for w)) (looked w h (passes (is_event (watch_bits R w) (user_of w))) (event_point w.file w.descriptor w.read w.write (whole_stood w.file w.descriptor w.read w.write (in_whole w h _ refl))))

  abbrev scan_bytes : List Watch → List ℕ
  scan_bytes ys = flat_map event_bytes (map (event_by (readiness F)) ys)

  head_true : (q : Watch → Bool) (w : Watch) (ys : List Watch) → tally (λ v. not (q v)) (w ∷ ys) ≡ 0 → q w ≡ true
  head_true q w ys h = by (q w) refl
    where
      by : (b : Bool) → q w ≡ b → q w ≡ true
      by true e = e
      by false e = let k : 1 + tally (λ v. not (q v)) ys ≡ 0 = rw e at h in absurd (omega arith)

  tail_zero : (q : Watch → Bool) (w : Watch) (ys : List Watch) → tally q (w ∷ ys) ≡ 0 → tally q ys ≡ 0
  tail_zero q w ys h = grind (arith, common_steps)

  tail_sub : (w : Watch) (ys : List Watch) (q : Watch → Bool) → tally q (w ∷ ys) ≤ tally q ws → tally q ys ≤ tally q ws
  tail_sub w ys q h = grind (arith, common_steps)

  head_in : (w : Watch) (ys : List Watch) → ((q : Watch → Bool) → tally q (w ∷ ys) ≤ tally q ws) → IsIn w
  head_in w ys sub q e = let h = sub q in let k : 1 + tally q ys ≤ tally q ws = rw e at h in omega arith

  -- each is due, and the events are those of the Linux machine
  pub each_due : (ys : List Watch) → ((q : Watch → Bool) → tally q ys ≤ tally q ws) → tally (λ w. not (is_reported R w)) ys ≡ 0 → are_due F is (map pick_for ys) ≡ true
  each_due [] sub h = refl
  each_due (w ∷ ys) sub h =
      let a = each_due ys (λ q. tail_sub w ys q (sub q)) (tail_zero (λ v. not (is_reported R v)) w ys h) in
      let i = head_in w ys sub in
      let d = sym (due_named (named is (pick_for w))) ∙ looked w i (passes (is_due F)) (in_due w i (head_true (is_reported R) w ys h)) in
      rw d a

  pub each_event : (ys : List Watch) → ((q : Watch → Bool) → tally q ys ≤ tally q ws) → events F is (map pick_for ys) ≡ scan_bytes ys
  each_event [] sub = refl
  each_event (w ∷ ys) sub = ap₂ (λ (a b : List ℕ). a ++ b) (event_is w (head_in w ys sub)) (each_event ys (λ q. tail_sub w ys q (sub q)))

  -- ---- the whole scan

  module _ (most : ℕ) where
    abbrev rs : List Watch
    rs = reports R most ws

    abbrev os : List Watch
    os = without_first (is_reported R) most ws

    abbrev picks : List Pick
    picks = map pick_for (reports R most ws)

    sub_rs : (q : Watch → Bool) → tally q rs ≤ tally q ws
    sub_rs q = let a = split_scan R q most ws in omega arith

    sub_os : (q : Watch → Bool) → tally q os ≤ tally q ws
    sub_os q = let a = split_scan R q most ws in omega arith

    once_rs : (f d : ℕ) → tally (is_of f d) rs ≤ 1
    once_rs f d = let a = sub_rs (is_of f d) in let b = once f d in omega arith

    apart : (f d : ℕ) → tally (is_of f d) os + tally (is_of f d) rs ≤ 1
    apart f d = let a = split_scan R (is_of f d) most ws in let b = once f d in omega arith

    rs_among : tally (λ w. not (is_among rs w.file w.descriptor)) rs ≡ 0
    rs_among = each_among rs rs (λ f d. omega arith)

    os_among : tally (λ w. is_among rs w.file w.descriptor) os ≡ 0
    os_among = not_among rs os apart

    map_length : (ys : List Watch) → length (map pick_for ys) ≡ length ys
    map_length [] = refl
    map_length (y ∷ ys) = ap suc (map_length ys)

    left_same : (i : Interest) → is_left F picks i ≡ (passes (is_due F) (Some (seen i)) && not (is_among rs i.file i.descriptor))
    left_same i = ap₂ (λ b z. b && not z) (sym (seen_due F i)) (picked_name i rs)

    -- where fewer than `most` are reported, none that is due is left
    none_due_left : length rs < most → list_any (is_left F picks) is ≡ false
    none_due_left h =
        none_tally (is_left F picks) is
        (tally-same (is_left F picks) (λ i. passes (is_due F) (Some (seen i)) && not (is_among rs i.file i.descriptor)) left_same is
        ∙ st (λ f d o. passes (is_due F) o && not (is_among rs f d))
        ∙ sym (due_count ws (λ q. omega arith) (λ w. not (is_among rs w.file w.descriptor)))
        ∙ (let s = split_scan R (λ w. is_reported R w && not (is_among rs w.file w.descriptor)) most ws in
        let a = tally_within (λ w. is_reported R w && not (is_among rs w.file w.descriptor)) (λ w. not (is_among rs w.file w.descriptor)) (λ w e. (both_true _ _ e).1) rs in
        let b = tally_within (λ w. is_reported R w && not (is_among rs w.file w.descriptor)) (is_reported R) (λ w e. (both_true _ _ e).0) os in
        let c = none_left R most ws h in
        let k = rs_among in
        omega arith))

    left_or_full : ((length rs == most) || not (list_any (is_left F picks) is)) ≡ true
    left_or_full = by (length rs == most) refl
      where
        by : (b : Bool) → (length rs == most) ≡ b → ((length rs == most) || not (list_any (is_left F picks) is)) ≡ true
        by true e = rw e refl
        by false e = let n = none_due_left (less (few R most ws) e) in rw (e, n) refl
          where
            less : length rs ≤ most → (length rs == most) ≡ false → length rs < most
            less a b = grind arith

    within_most : nat_le (length rs) most ≡ true
    within_most = let a = few R most ws in grind arith

    pub answers : 1 ≤ length rs → is_answer F is most picks ≡ true
    answers h =
        let some : nat_lt 0 (length rs) ≡ true = grind arith in
        rw (map_length rs, some, within_most, distinct rs once_rs, each_due rs sub_rs (all_reported R most ws)) left_or_full

    -- what is left of the interests and of the watches
    abbrev then_p : (ℕ → ℕ → Option Interest → Bool) → ℕ → ℕ → Option Interest → Bool
    then_p p f d o = if is_among rs f d then p f d (option_map reported_once o) else p f d o

    once_point : (b : Bool) (p : ℕ → ℕ → Option Interest → Bool) (i : Interest) → let j : Interest = if b then reported_once i else i in p j.file j.descriptor (Some (seen j)) ≡ (if b then p i.file i.descriptor (option_map reported_once (Some (seen i))) else p i.file i.descriptor (Some (seen i)))
    once_point true p i = ap (λ (j : Interest). p i.file i.descriptor (Some j)) (seen_once i)
    once_point false p i = refl

    told_point : (b : Bool) (p : ℕ → ℕ → Option Interest → Bool) (f d : ℕ) (r k : Option Knote) → is_some (stood_by f d r k) ≡ b → (b && p f d (option_map reported_once (stood_by f d r k))) ≡ (b && p f d (stood_by f d (told_knote r) (told_knote k)))
    told_point false p f d r k e = refl
    told_point true p f d r k e = ap (p f d) (sym (told_whole f d r k (whole_stood f d r k e)))

    pub leaves : Same None (after_report picks is) (scanned R most ws)
    leaves p =
        tally-map (if_reported picks) (λ i. p i.file i.descriptor (Some (seen i))) is
        ∙ tally-same _ (λ i. then_p p i.file i.descriptor (Some (seen i))) (λ i. once_point (is_picked picks i) p i ∙ ap (λ b. if b then p i.file i.descriptor (option_map reported_once (Some (seen i))) else p i.file i.descriptor (Some (seen i))) (picked_name i rs)) is
        ∙ st (then_p p)
        ∙ sym (split_scan R (λ w. then_p p w.file w.descriptor (stood_for w)) most ws)
        ∙ ap₂ (λ (a b : ℕ). a + b) others_same reports_same
        ∙ sym (tally-append (λ w. p w.file w.descriptor (stood_for w)) os (map told_watch rs))
      where
        others_same : tally (λ w. then_p p w.file w.descriptor (stood_for w)) os ≡ tally (λ w. p w.file w.descriptor (stood_for w)) os
        others_same =
            sym (tally_and (λ w. not (is_among rs w.file w.descriptor)) (λ w. then_p p w.file w.descriptor (stood_for w)) os (tally-same _ (λ w. is_among rs w.file w.descriptor) (λ w. twice (is_among rs w.file w.descriptor)) os ∙ os_among))
            ∙ tally-same _ _ (λ w. not_then (is_among rs w.file w.descriptor) _ _) os
            ∙ tally_and (λ w. not (is_among rs w.file w.descriptor)) (λ w. p w.file w.descriptor (stood_for w)) os (tally-same _ (λ w. is_among rs w.file w.descriptor) (λ w. twice (is_among rs w.file w.descriptor)) os ∙ os_among)
          where
            twice : (b : Bool) → not (not b) ≡ b
            twice true = refl
            twice false = refl

            not_then : (b x y : Bool) → (not b && (if b then x else y)) ≡ (not b && y)
            not_then true x y = refl
            not_then false x y = refl

        reports_same : tally (λ w. then_p p w.file w.descriptor (stood_for w)) rs ≡ tally (λ w. p w.file w.descriptor (stood_for w)) (map told_watch rs)
        reports_same =
            sym (tally_and (λ w. is_among rs w.file w.descriptor) (λ w. then_p p w.file w.descriptor (stood_for w)) rs rs_among)
            ∙ tally-same _ _ (λ w. then_is (is_among rs w.file w.descriptor) _ _) rs
            ∙ tally_and (λ w. is_among rs w.file w.descriptor) (λ w. p w.file w.descriptor (option_map reported_once (stood_for w))) rs rs_among
            ∙ sym (tally_and (λ w. is_some (stood_for w)) (λ w. p w.file w.descriptor (option_map reported_once (stood_for w))) rs (whole_ys rs sub_rs))
            ∙ tally-same _ _ (λ w. told_point _ p w.file w.descriptor w.read w.write refl) rs
            ∙ tally_and (λ w. is_some (stood_for w)) (λ w. p w.file w.descriptor (stood_for (told_watch w))) rs (whole_ys rs sub_rs)
            ∙ sym (tally-map told_watch (λ w. p w.file w.descriptor (stood_for w)) rs)
          where
            then_is : (b x y : Bool) → (b && (if b then x else y)) ≡ (b && x)
            then_is true x y = refl
            then_is false x y = refl

  -- the wait goes on in both machines, or in neither
  pub can_answer : list_any (is_due F) is ≡ list_any (is_reported R) ws
  can_answer = any_same (is_due F) (is_reported R) is ws
      (sym (tally-same (λ i. passes (is_due F) (Some (seen i))) (is_due F) (seen_due F) is)
      ∙ st (λ f d o. passes (is_due F) o)
      ∙ sym (tally-same (λ w. passes (is_due F) (stood_for w) && true) (λ w. passes (is_due F) (stood_for w)) (λ w. and_true' (passes (is_due F) (stood_for w))) ws)
      ∙ sym (due_count ws (λ q. omega arith) (λ w. true))
      ∙ tally-same (λ w. is_reported R w && true) (is_reported R) (λ w. and_true' (is_reported R w)) ws)
    where
      and_true' : (b : Bool) → (b && true) ≡ b
      and_true' true = refl
      and_true' false = refl
