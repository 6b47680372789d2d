-- The waiters of a slot in the Linux machine's queue, where no other slot has its tid: which stand there, and that they leave.
use Rattle.std.proofs.Common.{◌≡◌, ◌≢◌, ℕ, ◌<◌, Bool, true, false, not, ◌&&◌, List, [], ◌∷◌, map, Option, Some, refl, sym, ap, ◌∙◌, arith, ◌⊎◌, inl, inr}
use Rattle.std.specs.Prelude.{◌==◌, slice_index_or}
use Rattle.std.specs.List.{All, AllByRecursion, filter, list_any}
use Rattle.std.proofs.lemmas.Grind.{common_steps}
use Rattle.std.proofs.lemmas.List.Elements.{recursion_from_All}
use Rattle.std.proofs.lemmas.List.Folds.{list_any_at}
use Rattle.umtx_queue.specs.declared.waiter.Waiter.{Waiter}
use Rattle.umtx_queue.specs.declared.waiter.Looked.TheVariants as looked
use Rattle.umtx_queue.specs.Waiters.{has_key, is_of, is_of_slot, is_queued, slot_of, who, who_at, without_slot, IsWaiter}
use Rattle.umtx_queue.specs.Lines.{Line, removed}
use Rattle.umtx_queue.proofs.NoteMaps.{slot_is}
use Rattle.umtx_queue.proofs.Tallies.{Each-filter}
use Rattle.lx_machine.specs.declared.threads.LxWaiter.{LxWaiter}
use Rattle.lx_machine.specs.declared.threads.PiWaiter.{PiWaiter as LxPiWaiter}
use Rattle.lx_machine.specs.Queue as queue
use Rattle.places.specs.Places.{chain}
use Rattle.chains_stand.specs.Chains.{at_chains, lines_of}
use Rattle.chains_stand.specs.Notes.{finds_in, NotesLead, Sleeper}
use Rattle.chains_stand.specs.Queues.{has_address, linux_waiter, QueueStands}
use Rattle.chains_stand.specs.Board.{Board, ChainsSound, ChainsStand, place_of, settled}
use Rattle.chains_stand.proofs.Lists.{filter-absent, filter-both, is_other, is_same, same_or_not}
use Rattle.chains_stand.proofs.Numbers.{in_others, in_these, place_is}
use Rattle.chains_stand.proofs.Looks.{is_found, queued_is}
use Rattle.chains_stand.proofs.Cuts.{none_in_queue, same_any, some_in_queue}

own_address : (w : LxWaiter) → has_address w.address w ≡ true
own_address w = is_same w.address w.address refl

own_key : (w : Waiter) → has_key w.key w ≡ true
own_key w = is_same w.key w.key refl

-- ---- a waiter of the queue that passes a test, and one of a chain

module _ (tids : ℕ → ℕ) (V : ℕ → Line) (q : List LxWaiter) (st : QueueStands tids V q) (p : LxWaiter → Bool) where
  none_stands : ((c : ℕ) → list_any (λ w. p (linux_waiter tids w)) (V c).waiters ≡ false) → list_any p q ≡ false
  none_stands none = none_in_queue (linux_waiter tids) has_address (λ w. w.address) own_address has_key (λ w. w.key) own_key (λ c. (V c).waiters) q st.at p none

  some_stands : ((c a : ℕ) → list_any (has_key a) (V c).waiters ≡ true → chain a ≡ c) → (c : ℕ) → list_any (λ w. p (linux_waiter tids w)) (V c).waiters ≡ true → list_any p q ≡ true
  some_stands keys c h = some_in_queue (linux_waiter tids) has_address (λ w. w.address) own_address has_key (λ w. w.key) own_key (λ c. (V c).waiters) q st.at p keys c h

module _ (tids : ℕ → ℕ) (s : ℕ) (apart : (x : ℕ) → x ≢ s → tids x ≢ tids s) where
  -- a waiter is of the tid exactly where it is of the slot
  pub same_thread : (w : Waiter) → queue.is_thread (tids s) (linux_waiter tids w) ≡ is_of_slot s w
  same_thread w = by (same_or_not s w.slot)
    where
      by : (w.slot ≡ s) ⊎ (w.slot ≢ s) → (tids w.slot == tids s) ≡ (w.slot == s)
      by (inl e) = is_same (tids w.slot) (tids s) (ap tids e) ∙ sym (is_same w.slot s e)
      by (inr ne) = is_other (tids w.slot) (tids s) (apart w.slot ne) ∙ sym (is_other w.slot s ne)

  -- and of the place exactly where it has its number
  same_number_of : (place : ℕ) → place < 256 → (w : Waiter) → IsWaiter w → queue.is_place (tids s) place (linux_waiter tids w) ≡ is_of (who_at s place) w
  same_number_of place small w is = ap (λ b. b && (w.place == place)) (same_thread w) ∙ by (same_or_not s w.slot) (same_or_not place w.place)
    where
      low : w.place < 256
      low = let p = is.place in omega arith

      by : (w.slot ≡ s) ⊎ (w.slot ≢ s) → (w.place ≡ place) ⊎ (w.place ≢ place) → ((w.slot == s) && (w.place == place)) ≡ (who w == who_at s place)
      by (inl e) (inl f) = ap (λ b. b && (w.place == place)) (is_same w.slot s e) ∙ is_same w.place place f ∙ sym (is_same (who w) (who_at s place) (omega arith))
      by (inl e) (inr nf) = ap (λ b. b && (w.place == place)) (is_same w.slot s e) ∙ is_other w.place place nf ∙ sym (is_other (who w) (who_at s place) (λ g. nf (sym (place_is w.slot w.place low) ∙ ap place_of g ∙ place_is s place small)))
      by (inr ne) f = ap (λ b. b && (w.place == place)) (is_other w.slot s ne) ∙ sym (is_other (who w) (who_at s place) (λ g. ne (sym (slot_is w.slot w.place low) ∙ ap slot_of g ∙ slot_is s place small)))

  pub without_waiters : (ws : List Waiter) → queue.without_waiters_of (tids s) (map (linux_waiter tids) ws) ≡ map (linux_waiter tids) (without_slot s ws)
  without_waiters [] = refl
  without_waiters (w ∷ ws) = let ih = without_waiters ws in let h = same_thread w in grind (arith, common_steps)

  thread_any : (ws : List Waiter) → list_any (λ w. queue.is_thread (tids s) (linux_waiter tids w)) ws ≡ list_any (is_of_slot s) ws
  thread_any [] = refl
  thread_any (w ∷ ws) = let ih = thread_any ws in let h = same_thread w in grind (arith, common_steps)

  module _ (V : ℕ → Line) (q : List LxWaiter) (st : QueueStands tids V q) where
    -- a slot of which no waiter stands in a chain is not queued
    pub not_queued : ((c : ℕ) → list_any (is_of_slot s) (V c).waiters ≡ false) → queue.is_queued (tids s) q ≡ false
    not_queued none = none_stands tids V q st (queue.is_thread (tids s)) (λ c. thread_any (V c).waiters ∙ none c)

    -- a slot of which one stands in a chain is queued
    pub slot_is_queued : ((c a : ℕ) → list_any (has_key a) (V c).waiters ≡ true → chain a ≡ c) → (c : ℕ) → list_any (is_of_slot s) (V c).waiters ≡ true → queue.is_queued (tids s) q ≡ true
    slot_is_queued keys c h = some_stands tids V q st (queue.is_thread (tids s)) keys c (thread_any (V c).waiters ∙ h)

    -- its waiters leave
    pub leave_stands : (among : ℕ → Bool) → ((c : ℕ) → among c ≡ false → list_any (is_of_slot s) (V c).waiters ≡ false) → QueueStands tids (at_chains among (λ l. removed l s) V) (queue.without_waiters_of (tids s) q)
    leave_stands among absent = record { at = λ a. queue_by a (among (chain a)) refl }
      where
        gone : (a : ℕ) → filter (has_address a) (queue.without_waiters_of (tids s) q) ≡ map (linux_waiter tids) (filter (has_key a) (without_slot s (V (chain a)).waiters))
        gone a =
            filter-both (has_address a) (λ w. not (queue.is_thread (tids s) w)) q
            ∙ ap (queue.without_waiters_of (tids s)) (st.at a)
            ∙ without_waiters (filter (has_key a) (V (chain a)).waiters)
            ∙ ap (map (linux_waiter tids)) (filter-both (λ w. not (is_of_slot s w)) (has_key a) (V (chain a)).waiters)

        queue_by : (a : ℕ) (b : Bool) → among (chain a) ≡ b → filter (has_address a) (queue.without_waiters_of (tids s) q) ≡ map (linux_waiter tids) (filter (has_key a) (at_chains among (λ l. removed l s) V (chain a)).waiters)
        queue_by a true e = gone a ∙ ap (λ (l : Line). map (linux_waiter tids) (filter (has_key a) l.waiters)) (sym (in_these among (λ l. removed l s) V (chain a) e))
        queue_by a false e =
            gone a ∙ ap (λ l. map (linux_waiter tids) (filter (has_key a) l)) (filter-absent (is_of_slot s) (V (chain a)).waiters (absent (chain a) e))
            ∙ ap (λ (l : Line). map (linux_waiter tids) (filter (has_key a) l.waiters)) (sym (in_others among (λ l. removed l s) V (chain a) e))

    module _ (sleepers : ℕ → Option Sleeper) (notes : NotesLead sleepers V) (place : ℕ) (small : place < 256) where
      place_any : (c : ℕ) → list_any (λ w. queue.is_place (tids s) place (linux_waiter tids w)) (V c).waiters ≡ is_queued (who_at s place) (V c).waiters
      place_any c = same_any (λ w. queue.is_place (tids s) place (linux_waiter tids w)) (is_of (who_at s place)) IsWaiter (same_number_of place small) (V c).waiters (recursion_from_All IsWaiter (V c).waiters (notes.waiters c).each)

      -- a place that is queued nowhere is not queued, and one that is queued in a chain is
      pub place_not_queued : ((c : ℕ) → finds_in V (who_at s place) c ≢ Some looked.Queued) → queue.is_place_queued (tids s) place q ≡ false
      place_not_queued none = none_stands tids V q st (queue.is_place (tids s) place) (λ c. place_any c ∙ by c (is_queued (who_at s place) (V c).waiters) refl)
        where
          by : (c : ℕ) (b : Bool) → is_queued (who_at s place) (V c).waiters ≡ b → b ≡ false
          by c false e = refl
          by c true e = absurd (none c (is_found (V c) (who_at s place) e))

      pub place_is_queued : (c : ℕ) → finds_in V (who_at s place) c ≡ Some looked.Queued → queue.is_place_queued (tids s) place q ≡ true
      place_is_queued c h = some_stands tids V q st (queue.is_place (tids s) place) notes.keys c (place_any c ∙ queued_is (V c) (who_at s place) h)

-- ---- the tids of other slots

same_waiters : (tids tids' : ℕ → ℕ) (ws : List Waiter) → AllByRecursion (λ w. tids' w.slot ≡ tids w.slot) ws → map (linux_waiter tids') ws ≡ map (linux_waiter tids) ws
same_waiters tids tids' [] e = refl
same_waiters tids tids' (w ∷ ws) e =
    ap {B = List LxWaiter} (λ t. record { tid = t; place = w.place; many = w.many; address = w.key; bits = w.bits } ∷ map (linux_waiter tids') ws) e.0
    ∙ ap (λ l. linux_waiter tids w ∷ l) (same_waiters tids tids' ws e.1)

-- the queue asks of the slots that are queued alone
pub tids_at : (tids tids' : ℕ → ℕ) (V : ℕ → Line) (q : List LxWaiter) → ((c : ℕ) → All (λ w. tids' w.slot ≡ tids w.slot) (V c).waiters) → QueueStands tids V q → QueueStands tids' V q
tids_at tids tids' V q same st = record {
  at = λ a. st.at a ∙ sym (same_waiters tids tids' (filter (has_key a) (V (chain a)).waiters) (Each-filter (λ w. tids' w.slot ≡ tids w.slot) (has_key a) (V (chain a)).waiters (recursion_from_All (λ w. tids' w.slot ≡ tids w.slot) (V (chain a)).waiters (same (chain a)))));
}

-- of a board: of the slots that wait
pub tids_for : (tids tids' : ℕ → ℕ) (B : Board) → ChainsSound B → ((s p : ℕ) (h : Sleeper) → (B.owes s).sleeps p ≡ Some h → tids' s ≡ tids s) → (q : List LxWaiter) (pq : List LxPiWaiter) → ChainsStand tids B q pq → ChainsStand tids' B q pq
tids_for tids tids' B snd same q pq st = record { queue = tids_at tids tids' (lines_of (settled B)) q each st.queue; locks = st.locks }
  where
    of_waiter : (c : ℕ) (w : Waiter) → IsWaiter w → is_queued (who w) (settled B c).line.waiters ≡ true → tids' w.slot ≡ tids w.slot
    of_waiter c w is q =
        let a = snd.notes.awaited c (who w) (is_found (settled B c).line (who w) q) in
        let e : slot_of (who w) ≡ w.slot = slot_is w.slot w.place (let p = is.place in omega arith) in
        same w.slot (place_of (who w)) a.sleeper (ap (λ (x : ℕ). (B.owes x).sleeps (place_of (who w))) (sym e) ∙ a.sleeps)

    each : (c : ℕ) → All (λ w. tids' w.slot ≡ tids w.slot) (settled B c).line.waiters
    each c k d l =
        of_waiter c (slice_index_or (settled B c).line.waiters k d) ((snd.notes.waiters c).each k d l)
        (list_any_at (is_of (who (slice_index_or (settled B c).line.waiters k d))) (settled B c).line.waiters k d l (is_same (who (slice_index_or (settled B c).line.waiters k d)) (who (slice_index_or (settled B c).line.waiters k d)) refl))
