-- The Linux machine's queue of waits for locks, as these queue, get their locks and end.
use Rattle.std.proofs.Common.{◌≡◌, ◌≢◌, ℕ, Bool, true, false, not, List, [], ◌∷◌, ◌++◌, map, Option, Some, None, refl, sym, ap, ◌∙◌, arith, ◌⊎◌, inl, inr, subst}
use Rattle.std.specs.Prelude.{◌==◌, find, is_some}
use Rattle.std.specs.List.{AllByRecursion, filter, list_any}
use Rattle.std.proofs.lemmas.Grind.{common_steps}
use Rattle.std.proofs.lemmas.List.{append-nil, map-append}
use Rattle.std.proofs.lemmas.List.Elements.{filter-append, recursion_from_All}
use Rattle.umtx_queue.specs.declared.pi.PiWaiter.{PiWaiter}
use Rattle.umtx_queue.specs.Lists.{first_of, without_first}
use Rattle.umtx_queue.specs.PiLines.{PiLine, pi_first_of, pi_handed, pi_has_key, pi_is_of, pi_is_queued, pi_joined, pi_removed}
use Rattle.umtx_queue.proofs.NoteMaps.{same_number}
use Rattle.umtx_queue.proofs.PiLaws.{tells_of_first}
use Rattle.umtx_queue.proofs.Tallies.{Each-filter}
use Rattle.lx_machine.specs.declared.threads.PiWaiter.{PiWaiter as LxPiWaiter}
use Rattle.lx_machine.specs.PiQueue.{first_pi, has_pi_at, is_pi_at, is_pi_queued, is_pi_thread, without_first_pi, without_pi_of}
use Rattle.places.specs.Places.{chain}
use Rattle.chains_stand.specs.Locks.{FitsPiSleeper, LocksLead, PiSleeper, sleeper_of}
use Rattle.chains_stand.specs.Queues.{linux_pi_waiter, PiQueueStands}
use Rattle.chains_stand.proofs.Lists.{all_pass, filter-absent, filter-both, filter-without_first_apart, is_other, is_same, same_or_not, without_is}
use Rattle.chains_stand.proofs.Numbers.{at_other, at_same}
use Rattle.chains_stand.proofs.Cuts.{filter-shown, none_in_queue, queue_cut, same_any, same_first, some_in_queue, Within}
use Rattle.chains_stand.proofs.Locks.{hand_at, pi_join_at, pi_remove_at}

same_pi_address : (a : ℕ) (w : PiWaiter) → is_pi_at a (linux_pi_waiter w) ≡ pi_has_key a w
same_pi_address a w = refl

own_pi_address : (w : LxPiWaiter) → is_pi_at w.address w ≡ true
own_pi_address w = is_same w.address w.address refl

own_pi_key : (w : PiWaiter) → pi_has_key w.key w ≡ true
own_pi_key w = is_same w.key w.key refl

within_pi_address : (a : ℕ) → Within (is_pi_at a) (is_pi_at a)
within_pi_address a w h = h

pi_elsewhere : (a b : ℕ) → b ≢ a → (w : LxPiWaiter) → is_pi_at a w ≡ true → is_pi_at b w ≡ false
pi_elsewhere a b ne w h = is_other w.address b (λ e. ne (sym e ∙ same_number w.address a h))

-- ---- the first that passes

find_first : {X : Type 0} (p : X → Bool) (xs : List X) (x : X) → first_of p 1 xs ≡ x ∷ [] → find p xs ≡ Some x
find_first p [] x e = absurd (let z : ⊥ = cc in z)
find_first p (y ∷ xs) x e = let ih = find_first p xs x in grind (arith, common_steps)

find_none : {X : Type 0} (p : X → Bool) (xs : List X) → list_any p xs ≡ false → find p xs ≡ None
find_none p [] h = refl
find_none p (y ∷ xs) h = let ih = find_none p xs in grind (arith, common_steps)

any-filter_own : {X : Type 0} (p : X → Bool) (xs : List X) → list_any p (filter p xs) ≡ list_any p xs
any-filter_own p [] = refl
any-filter_own p (x ∷ xs) = let ih = any-filter_own p xs in grind (arith, common_steps)

any-shown : (a : ℕ) (ws : List PiWaiter) → list_any (is_pi_at a) (map linux_pi_waiter ws) ≡ list_any (pi_has_key a) ws
any-shown a [] = refl
any-shown a (w ∷ ws) = let ih = any-shown a ws in grind (arith, common_steps)

module _ (V : ℕ → PiLine) (q : List LxPiWaiter) (st : PiQueueStands V q) where
  -- some thread waits for the lock on both sides
  pub pi_there : (a : ℕ) → has_pi_at a q ≡ list_any (pi_has_key a) (V (chain a)).waiters
  pi_there a =
      sym (any-filter_own (is_pi_at a) q) ∙ ap (list_any (is_pi_at a)) (st.at a) ∙ any-shown a (filter (pi_has_key a) (V (chain a)).waiters)
      ∙ any-filter_own (pi_has_key a) (V (chain a)).waiters

  -- ---- a wait queues

  pub pi_insert_stands : (w : PiWaiter) → PiQueueStands (pi_join_at V w) (q ++ linux_pi_waiter w ∷ [])
  pi_insert_stands w = record {
    at = λ a.
        filter-append (is_pi_at a) q (linux_pi_waiter w ∷ [])
        ∙ ap (λ l. l ++ filter (is_pi_at a) (linux_pi_waiter w ∷ [])) (st.at a)
        ∙ ap (λ l. map linux_pi_waiter (filter (pi_has_key a) (V (chain a)).waiters) ++ l) (filter-shown linux_pi_waiter is_pi_at pi_has_key same_pi_address a (w ∷ []))
        ∙ queue_by a (same_or_not (chain w.key) (chain a));
  }
    where
      alone : (a : ℕ) → a ≢ w.key → filter (pi_has_key a) (w ∷ []) ≡ []
      alone a ne = let e = is_other w.key a (λ f. ne (sym f)) in grind (arith, common_steps)

      queue_by : (a : ℕ) → (chain a ≡ chain w.key) ⊎ (chain a ≢ chain w.key) → map linux_pi_waiter (filter (pi_has_key a) (V (chain a)).waiters) ++ map linux_pi_waiter (filter (pi_has_key a) (w ∷ [])) ≡ map linux_pi_waiter (filter (pi_has_key a) (pi_join_at V w (chain a)).waiters)
      queue_by a (inl e) =
          sym (map-append linux_pi_waiter (filter (pi_has_key a) (V (chain a)).waiters) (filter (pi_has_key a) (w ∷ [])))
          ∙ ap (map linux_pi_waiter) (sym (filter-append (pi_has_key a) (V (chain a)).waiters (w ∷ [])))
          ∙ ap (λ (l : PiLine). map linux_pi_waiter (filter (pi_has_key a) l.waiters)) (sym (at_same (chain w.key) (λ l. pi_joined l w) V (chain a) e))
      queue_by a (inr ne) =
          ap (λ l. map linux_pi_waiter (filter (pi_has_key a) (V (chain a)).waiters) ++ map linux_pi_waiter l) (alone a (λ e. ne (ap chain e)))
          ∙ append-nil (map linux_pi_waiter (filter (pi_has_key a) (V (chain a)).waiters))
          ∙ ap (λ (l : PiLine). map linux_pi_waiter (filter (pi_has_key a) l.waiters)) (sym (at_other (chain w.key) (λ l. pi_joined l w) V (chain a) ne))

  -- ---- a lock is handed over

  pub hand_stands : (a : ℕ) → PiQueueStands (hand_at V a) (without_first_pi a q)
  hand_stands a = record { at = λ x. ap (filter (is_pi_at x)) (without_is 1 (is_pi_at a) q) ∙ queue_by x (same_or_not (chain a) (chain x)) }
    where
      queue_by : (x : ℕ) → (chain x ≡ chain a) ⊎ (chain x ≢ chain a) → filter (is_pi_at x) (without_first (is_pi_at a) 1 q) ≡ map linux_pi_waiter (filter (pi_has_key x) (hand_at V a (chain x)).waiters)
      queue_by x (inl e) =
          queue_cut linux_pi_waiter is_pi_at pi_has_key same_pi_address (is_pi_at a) a x (within_pi_address a) (pi_elsewhere a x) 1 q (V (chain a)).waiters (st.at a) (st.at x ∙ ap (λ c. map linux_pi_waiter (filter (pi_has_key x) (V c).waiters)) e)
          ∙ ap (λ (l : PiLine). map linux_pi_waiter (filter (pi_has_key x) l.waiters)) (ap (λ c. pi_handed (V c) a) (sym e) ∙ sym (at_same (chain a) (λ l. pi_handed l a) V (chain x) e))
      queue_by x (inr ne) =
          filter-without_first_apart (is_pi_at a) (is_pi_at x) (pi_elsewhere a x (λ e. ne (ap chain e))) 1 q
          ∙ st.at x ∙ ap (λ (l : PiLine). map linux_pi_waiter (filter (pi_has_key x) l.waiters)) (sym (at_other (chain a) (λ l. pi_handed l a) V (chain x) ne))

-- ---- the first that waits for a lock, as its chain tells

pub record FirstIs (a : ℕ) (q : List LxPiWaiter) (tid : ℕ) (more : Bool) : Type 0 where
  pub first : first_pi a q ≡ Some (record { tid = tid; address = a })
  pub others : has_pi_at a (without_first_pi a q) ≡ more

module _ (V : ℕ → PiLine) (q : List LxPiWaiter) (st : PiQueueStands V q) (a : ℕ) where
  pub first_is_none : pi_first_of a (V (chain a)).waiters ≡ None → (first_pi a q ≡ None) × (has_pi_at a q ≡ false)
  first_is_none h =
      let there : list_any (pi_has_key a) (V (chain a)).waiters ≡ false = sym (tells_of_first a (V (chain a)).waiters).there ∙ ap is_some h in
      let none : has_pi_at a q ≡ false = pi_there V q st a ∙ there in
      (find_none (is_pi_at a) q none, none)

  pub first_is_some : (tid : ℕ) (more : Bool) → pi_first_of a (V (chain a)).waiters ≡ Some (tid, more) → FirstIs a q tid more
  first_is_some tid more h =
      let r = (tells_of_first a (V (chain a)).waiters).hands tid more h in
      let f : first_of (is_pi_at a) 1 q ≡ linux_pi_waiter r.w ∷ [] = same_first linux_pi_waiter is_pi_at pi_has_key same_pi_address (is_pi_at a) a (within_pi_address a) 1 q (V (chain a)).waiters (st.at a) ∙ ap (map linux_pi_waiter) r.first in
      let g : find (is_pi_at a) q ≡ Some (linux_pi_waiter r.w) = find_first (is_pi_at a) q (linux_pi_waiter r.w) f in
      let k : r.w.key ≡ a = its_key r.w r.first in
      record {
        first = g ∙ ap {B = Option LxPiWaiter} (λ t. Some (record { tid = t; address = r.w.key })) r.its_tid ∙ ap {B = Option LxPiWaiter} (λ z. Some (record { tid = tid; address = z })) k;
        others = pi_there (hand_at V a) (without_first_pi a q) (hand_stands V q st a) a ∙ ap (λ (l : PiLine). list_any (pi_has_key a) l.waiters) (at_same (chain a) (λ l. pi_handed l a) V (chain a) refl) ∙ r.others;
      }
    where
      its_key : (w : PiWaiter) → first_of (pi_has_key a) 1 (V (chain a)).waiters ≡ w ∷ [] → w.key ≡ a
      its_key w e = same_number w.key a (subst (λ (l : List PiWaiter). AllByRecursion (λ x. pi_has_key a x ≡ true) l) e (recursion_from_All (λ x. pi_has_key a x ≡ true) (first_of (pi_has_key a) 1 (V (chain a)).waiters) (all_pass (pi_has_key a) 1 (V (chain a)).waiters))).0

-- ---- the waits of a thread, where no other that waits has its tid

module _ (sleepers : ℕ → Option PiSleeper) (V : ℕ → PiLine) (locks : LocksLead sleepers V) (q : List LxPiWaiter) (st : PiQueueStands V q) (s tid : ℕ) (own : (g : PiSleeper) → sleepers s ≡ Some g → g.tid ≡ tid) (apart : (x : ℕ) (g : PiSleeper) → x ≢ s → sleepers x ≡ Some g → g.tid ≢ tid) where
  -- a waiter is of the tid exactly where it is of the slot
  same_pi_thread : (w : PiWaiter) → FitsPiSleeper sleepers w → is_pi_thread tid (linux_pi_waiter w) ≡ pi_is_of s w
  same_pi_thread w fits = by (same_or_not s w.slot)
    where
      by : (w.slot ≡ s) ⊎ (w.slot ≢ s) → (w.tid == tid) ≡ (w.slot == s)
      by (inl e) = is_same w.tid tid (own (sleeper_of w) (ap sleepers (sym e) ∙ fits)) ∙ sym (is_same w.slot s e)
      by (inr ne) = is_other w.tid tid (apart w.slot (sleeper_of w) ne fits) ∙ sym (is_other w.slot s ne)

  each_fits : (c : ℕ) → AllByRecursion (FitsPiSleeper sleepers) (V c).waiters
  each_fits c = recursion_from_All (FitsPiSleeper sleepers) (V c).waiters (locks.fit c)

  thread_any : (c : ℕ) → list_any (λ w. is_pi_thread tid (linux_pi_waiter w)) (V c).waiters ≡ pi_is_queued s (V c).waiters
  thread_any c = same_any (λ w. is_pi_thread tid (linux_pi_waiter w)) (pi_is_of s) (FitsPiSleeper sleepers) same_pi_thread (V c).waiters (each_fits c)

  pub pi_not_queued : ((c : ℕ) → pi_is_queued s (V c).waiters ≡ false) → is_pi_queued tid q ≡ false
  pi_not_queued none = none_in_queue linux_pi_waiter is_pi_at (λ w. w.address) own_pi_address pi_has_key (λ w. w.key) own_pi_key (λ c. (V c).waiters) q st.at (is_pi_thread tid) (λ c. thread_any c ∙ none c)

  pub pi_slot_is_queued : (c : ℕ) → pi_is_queued s (V c).waiters ≡ true → is_pi_queued tid q ≡ true
  pi_slot_is_queued c h = some_in_queue linux_pi_waiter is_pi_at (λ w. w.address) own_pi_address pi_has_key (λ w. w.key) own_pi_key (λ c. (V c).waiters) q st.at (is_pi_thread tid) locks.keys c (thread_any c ∙ h)

  without_waiters : (ws : List PiWaiter) → AllByRecursion (FitsPiSleeper sleepers) ws → without_pi_of tid (map linux_pi_waiter ws) ≡ map linux_pi_waiter (filter (λ w. not (pi_is_of s w)) ws)
  without_waiters [] e = refl
  without_waiters (w ∷ ws) e = let ih = without_waiters ws e.1 in let h = same_pi_thread w e.0 in grind (arith, common_steps)

  pub pi_leave_stands : (at : ℕ) → ((c : ℕ) → c ≢ chain at → pi_is_queued s (V c).waiters ≡ false) → PiQueueStands (pi_remove_at V at s) (without_pi_of tid q)
  pi_leave_stands at absent = record { at = λ a. queue_by a (same_or_not (chain at) (chain a)) }
    where
      gone : (a : ℕ) → filter (is_pi_at a) (without_pi_of tid q) ≡ map linux_pi_waiter (filter (pi_has_key a) (filter (λ w. not (pi_is_of s w)) (V (chain a)).waiters))
      gone a =
          filter-both (is_pi_at a) (λ w. not (is_pi_thread tid w)) q
          ∙ ap (without_pi_of tid) (st.at a)
          ∙ without_waiters (filter (pi_has_key a) (V (chain a)).waiters) (Each-filter (FitsPiSleeper sleepers) (pi_has_key a) (V (chain a)).waiters (each_fits (chain a)))
          ∙ ap (map linux_pi_waiter) (filter-both (λ w. not (pi_is_of s w)) (pi_has_key a) (V (chain a)).waiters)

      queue_by : (a : ℕ) → (chain a ≡ chain at) ⊎ (chain a ≢ chain at) → filter (is_pi_at a) (without_pi_of tid q) ≡ map linux_pi_waiter (filter (pi_has_key a) (pi_remove_at V at s (chain a)).waiters)
      queue_by a (inl e) = gone a ∙ ap (λ (l : PiLine). map linux_pi_waiter (filter (pi_has_key a) l.waiters)) (sym (at_same (chain at) (λ l. pi_removed l s) V (chain a) e))
      queue_by a (inr ne) =
          gone a ∙ ap (λ l. map linux_pi_waiter (filter (pi_has_key a) l)) (filter-absent (pi_is_of s) (V (chain a)).waiters (absent (chain a) ne))
          ∙ ap (λ (l : PiLine). map linux_pi_waiter (filter (pi_has_key a) l.waiters)) (sym (at_other (chain at) (λ l. pi_removed l s) V (chain a) ne))
