-- Sleep of a wait in many places: which of them has been released, and the end of the wait.
use Rattle.std.proofs.Common.{◌≡◌, ◌≢◌, ℕ, ◌<◌, Bool, true, false, Some, None, List, sym, ap, ◌∙◌, subst}
use Rattle.std.specs.List.{list_any}
use Rattle.umtx_queue.specs.declared.waiter.Looked.TheVariants as looked
use Rattle.umtx_queue.specs.Waiters.{is_of_slot, slot_of, who_at}
use Rattle.umtx_queue.specs.Lines.{finds, Line, removed}
use Rattle.lx_machine.specs.declared.threads.LxWaiter.{LxWaiter}
use Rattle.lx_machine.specs.declared.threads.PiWaiter.{PiWaiter as LxPiWaiter}
use Rattle.lx_machine.specs.Queue as queue
use Rattle.places.specs.Places.{chain}
use Rattle.umtx_queue.proofs.NoteMaps.{slot_is}
use Rattle.chains_stand.specs.Chains.{at_chains, lines_of, on_line, pis_of}
use Rattle.chains_stand.specs.Notes.{finds_in, IsEnd, NotesLead, Sleeper}
use Rattle.chains_stand.specs.Locks.{LocksLead}
use Rattle.chains_stand.specs.Queues.{PiQueueStands, QueueStands}
use Rattle.chains_stand.specs.Owed.{EachAt}
use Rattle.chains_stand.specs.Board.{Board, ChainsSound, ChainsStand, Owing, pi_sleepers_of, place_of, settled, sleepers_of}
use Rattle.chains_stand.proofs.Numbers.{lines_change, pis_stay, place_is}
use Rattle.chains_stand.proofs.Ends.{place_ends, woken_nowhere}
use Rattle.chains_stand.proofs.Leaves.{leave_leads, many_within, slot_absent}
use Rattle.chains_stand.proofs.Slots.{leave_stands, place_is_queued, place_not_queued}
use Rattle.chains_stand.proofs.Changes.{many_after, many_marks, many_others_sleep, many_own_sleeps, many_pi_sleepers_same, many_told, ManyChange}
use Rattle.chains_stand.proofs.Keeps.{none_carried, plain_after, IsIdle, locks_for, sound_from, stands_from}
use Rattle.chains_stand.proofs.Idles.{settled_line}

-- one place, whose chain is nobody's
module _ (B : Board) (snd : ChainsSound B) (s place : ℕ) (small : place < 256) (h : Sleeper) (waits : (B.owes s).sleeps place ≡ Some h) (many : h.many ≡ true) (free : (B.chains (chain h.at)).marked ≡ None) where
  abbrev me : ℕ
  me = who_at s place

  sleeps_here : sleepers_of B (who_at s place) ≡ Some h
  sleeps_here = ap (λ (x : ℕ). (B.owes x).sleeps (place_of (who_at s place))) (slot_is s place small) ∙ ap (B.owes s).sleeps (place_is s place small) ∙ waits

  finds_here : finds_in (lines_of (settled B)) (who_at s place) (chain h.at) ≡ finds (B.chains (chain h.at)).line (who_at s place)
  finds_here = ap (λ (l : Line). finds l (who_at s place)) (settled_line B (chain h.at) free)

  -- it finds that it waits, or that it was woken
  pub place_found : IsEnd (finds (B.chains (chain h.at)).line (who_at s place))
  place_found = subst IsEnd finds_here (place_ends (sleepers_of B) (lines_of (settled B)) snd.notes (who_at s place) h sleeps_here many)

  module _ (tids : ℕ → ℕ) (apart : (x : ℕ) → x ≢ s → tids x ≢ tids s) (q : List LxWaiter) (pq : List LxPiWaiter) (st : ChainsStand tids B q pq) where
    -- where it was woken it has been released
    pub place_released : finds (B.chains (chain h.at)).line (who_at s place) ≡ Some looked.Woken → queue.is_place_queued (tids s) place q ≡ false
    place_released woken = place_not_queued tids s apart (lines_of (settled B)) q st.queue (sleepers_of B) snd.notes place small (λ c. woken_nowhere (sleepers_of B) (lines_of (settled B)) snd.notes (who_at s place) h sleeps_here (finds_here ∙ woken) c)

    -- and where it is queued it has not
    pub place_still_queued : finds (B.chains (chain h.at)).line (who_at s place) ≡ Some looked.Queued → queue.is_place_queued (tids s) place q ≡ true
    place_still_queued found = place_is_queued tids s apart (lines_of (settled B)) q st.queue (sleepers_of B) snd.notes place small (chain h.at) (finds_here ∙ found)

-- the wait ends: all that there is of the slot leaves the chains of its places
module _ (B B' : Board) (snd : ChainsSound B) (s : ℕ) (o' : Owing) (among : ℕ → Bool) (ch : ManyChange B B' s o' among (λ l. removed l s)) (idle : IsIdle (B.owes s)) (idle' : IsIdle o') (places : (p : ℕ) (h : Sleeper) → (B.owes s).sleeps p ≡ Some h → (h.many ≡ true) × (among (chain h.at) ≡ true)) (none : (p : ℕ) → o'.sleeps p ≡ None) (lock : o'.lock ≡ (B.owes s).lock) where
  same_marks : (c : ℕ) → o'.marks c ≡ (B.owes s).marks c
  same_marks c = idle'.marks c ∙ sym (idle.marks c)

  many_settled : (c : ℕ) → settled B' c ≡ at_chains among (on_line (λ l. removed l s)) (settled B) c
  many_settled = many_after B B' snd.marks s o' among (λ l. removed l s) ch idle.marks

  all_among : (i c : ℕ) → slot_of i ≡ s → finds_in (lines_of (settled B)) i c ≡ Some looked.Queued → among c ≡ true
  all_among = many_within (sleepers_of B) (lines_of (settled B)) snd.notes s among (λ i h is e. places (place_of i) h (ap (λ (x : ℕ). (B.owes x).sleeps (place_of i)) (sym is) ∙ e))

  pub many_sound : ChainsSound B'
  many_sound =
      sound_from B' (at_chains among (on_line (λ l. removed l s)) (settled B)) many_settled
      (many_marks B B' snd.marks s o' among (λ l. removed l s) ch same_marks (subst (EachAt (λ c. o'.marks c ≡ true)) (sym idle'.ops) tt))
      (plain_after B B' s o' ch.now ch.others snd.plain (none_carried o'.carry idle'.carry))
      (subst (NotesLead (sleepers_of B')) (sym (lines_change among (λ l. removed l s) (settled B)))
      (leave_leads (sleepers_of B) (sleepers_of B') (lines_of (settled B)) snd.notes s among all_among
      (λ i is. many_own_sleeps B B' snd.marks s o' among (λ l. removed l s) ch i is ∙ none (place_of i))
      (many_others_sleep B B' snd.marks s o' among (λ l. removed l s) ch)))
      (subst (LocksLead (pi_sleepers_of B')) (sym (pis_stay among (λ l. removed l s) (settled B)))
      (locks_for (pi_sleepers_of B) (pi_sleepers_of B') (pis_of (settled B)) (many_pi_sleepers_same B B' snd.marks s o' among (λ l. removed l s) ch lock) snd.locks))
      (many_told B B' snd.marks s o' among (λ l. removed l s) ch snd.told idle'.told)

  pub many_stands : (tids : ℕ → ℕ) → ((x : ℕ) → x ≢ s → tids x ≢ tids s) → (q : List LxWaiter) (pq : List LxPiWaiter) → ChainsStand tids B q pq → ChainsStand tids B' (queue.without_waiters_of (tids s) q) pq
  many_stands tids apart q pq st =
      stands_from B' (at_chains among (on_line (λ l. removed l s)) (settled B)) many_settled tids (queue.without_waiters_of (tids s) q) pq
      (subst (λ V. QueueStands tids V (queue.without_waiters_of (tids s) q)) (sym (lines_change among (λ l. removed l s) (settled B))) (leave_stands tids s apart (lines_of (settled B)) q st.queue among absent))
      (subst (λ V. PiQueueStands V pq) (sym (pis_stay among (λ l. removed l s) (settled B))) st.locks)
    where
      absent : (c : ℕ) → among c ≡ false → list_any (is_of_slot s) (settled B c).line.waiters ≡ false
      absent c e = slot_absent (sleepers_of B) (lines_of (settled B)) snd.notes s c (λ i is f. (let g : true ≡ false = sym (all_among i c is f) ∙ e in cc))
