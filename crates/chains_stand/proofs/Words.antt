-- The entries of a busy thread: it makes a chain busy, it does at its word what the Linux machine does at once and owes it from then
-- on, and it does what it owes.
use Rattle.std.proofs.Common.{◌≡◌, ◌≢◌, ℕ, ◌+◌, ◌<◌, Bool, true, Some, None, List, [], ◌∷◌, ◌++◌, length, sym, ap, ◌∙◌, arith, subst}
use Rattle.std.specs.Prelude.{if◌then◌else◌}
use Rattle.umtx_queue.specs.declared.waiter.Waiter.{Waiter}
use Rattle.umtx_queue.specs.declared.pi.PiWaiter.{PiWaiter}
use Rattle.umtx_queue.specs.Waiters.{who, who_at, IsWaiter}
use Rattle.lx_machine.specs.declared.threads.LxWaiter.{LxWaiter}
use Rattle.lx_machine.specs.declared.threads.PiWaiter.{PiWaiter as LxPiWaiter}
use Rattle.lx_machine.specs.PiQueue.{without_first_pi}
use Rattle.lx_machine.specs.Queue.{after_requeue, all_bits, leaving, moving, released}
use Rattle.chains_stand.specs.Chains.{lines_of, pis_of}
use Rattle.chains_stand.specs.Notes.{NotesLead}
use Rattle.chains_stand.specs.Locks.{LocksLead, sleeper_of}
use Rattle.chains_stand.specs.Queues.{linux_pi_waiter, linux_waiter, PiQueueStands, QueueStands}
use Rattle.chains_stand.specs.Owed.{EachAt, Enter, EnterPi, Hand, Join, Op, run, run_op, Signal, Take, Work}
use Rattle.chains_stand.specs.Board.{Board, ChainsSound, ChainsStand, Marks, Owing, pi_sleepers_of, place_of, settled, sleepers_of, to_count, Told}
use Rattle.chains_stand.proofs.Numbers.{place_is}
use Rattle.chains_stand.proofs.Ends.{SameBut}
use Rattle.chains_stand.proofs.Inserts.{new_sleeper}
use Rattle.chains_stand.proofs.Leaves.{own_slot}
use Rattle.chains_stand.proofs.Changes.{owes_now_sleeps, owes_pi_now_sleeps, owes_pi_others_sleep, owes_pi_sleepers_same, owes_sleepers_but, owes_sleepers_same, OwesChange}
use Rattle.chains_stand.proofs.Works.{enter_leads, enter_pi_leads, enter_pi_stands, enter_pi_stays, enter_stands, enter_stays, hand_stays, handed_leads, handed_stands, move_pis, moved_counts, moved_leads, moved_stands, signal_counts, signal_leads, signal_pis, signal_stands}
use Rattle.chains_stand.proofs.Keeps.{AllPlain, AllTold, none_carried, plain_after, locks_for, notes_for, sound_from, stands_from, word_counts, word_marks, word_settled, word_told}

pub from_zero : (n : ℕ) → 0 + n ≡ n
from_zero n = omega arith

-- ---- Word, where the thread owes nothing before: its marks stay, and what it was told; it carries nobody

module _ (B B' : Board) (snd : ChainsSound B) (s : ℕ) (o' : Owing) (ch : OwesChange B B' s o') (nothing : (B.owes s).ops ≡ []) (same : (c : ℕ) → o'.marks c ≡ (B.owes s).marks c) (kept : (told : Told) → o'.told ≡ Some told → (B.owes s).told ≡ Some told) (empty : o'.carry ≡ []) where
  plain : AllPlain B'
  plain = plain_after B B' s o' ch.now ch.others snd.plain (none_carried o'.carry empty)

  abbrev start : Work
  start = record { chains = settled B; carry = o'.carry; answer = 0 }

  all_told : (os : List Op) → o'.ops ≡ os → EachAt (λ c. o'.marks c ≡ true) os → AllTold B'
  all_told os owes within = word_told B B' snd.marks s o' ch nothing same os owes within snd.told kept

  marks : (os : List Op) → o'.ops ≡ os → EachAt (λ c. o'.marks c ≡ true) os → Marks B'
  marks os owes within = word_marks B B' snd.marks s o' ch nothing same os owes within

  after : (os : List Op) → o'.ops ≡ os → EachAt (λ c. o'.marks c ≡ true) os → (c : ℕ) → settled B' c ≡ (run os start).chains c
  after os owes within c = word_settled B B' snd.marks s o' ch nothing same os owes within c

  counts_as : (os : List Op) → o'.ops ≡ os → EachAt (λ c. o'.marks c ≡ true) os → to_count B' s ≡ (run os start).answer
  counts_as os owes within = word_counts B B' snd.marks s o' ch nothing same os owes within

  -- the places and the lock for which it waits stay
  module _ (sleeps : (p : ℕ) → o'.sleeps p ≡ (B.owes s).sleeps p) (lock : o'.lock ≡ (B.owes s).lock) where
    notes_still : NotesLead (sleepers_of B') (lines_of (settled B))
    notes_still = notes_for (sleepers_of B) (sleepers_of B') (lines_of (settled B)) (owes_sleepers_same B B' snd.marks s o' ch sleeps) snd.notes

    locks_still : LocksLead (pi_sleepers_of B') (pis_of (settled B))
    locks_still = locks_for (pi_sleepers_of B) (pi_sleepers_of B') (pis_of (settled B)) (owes_pi_sleepers_same B B' snd.marks s o' ch lock) snd.locks

    -- it is refused, or owes nothing: any entry that leaves chains and marks alone
    pub quiet_sound : o'.ops ≡ [] → ChainsSound B'
    quiet_sound owes = sound_from B' (settled B) (after [] owes tt) (marks [] owes tt) plain notes_still locks_still (all_told [] owes tt)

    pub quiet_stands : o'.ops ≡ [] → (tids : ℕ → ℕ) (q : List LxWaiter) (pq : List LxPiWaiter) → ChainsStand tids B q pq → ChainsStand tids B' q pq
    quiet_stands owes tids q pq st = stands_from B' (settled B) (after [] owes tt) tids q pq st.queue st.locks

    -- it wakes waiters at one address
    module _ (a n bits : ℕ) (owes : o'.ops ≡ Signal a n bits ∷ []) (within : EachAt (λ c. o'.marks c ≡ true) (Signal a n bits ∷ [])) where
      pub wake_sound : ChainsSound B'
      wake_sound =
          sound_from B' (run (Signal a n bits ∷ []) start).chains (after (Signal a n bits ∷ []) owes within) (marks (Signal a n bits ∷ []) owes within) plain
          (signal_leads start (sleepers_of B') notes_still a n bits) (subst (LocksLead (pi_sleepers_of B')) (sym (signal_pis start a n bits)) locks_still) (all_told (Signal a n bits ∷ []) owes within)

      module _ (tids : ℕ → ℕ) (q : List LxWaiter) (pq : List LxPiWaiter) (st : ChainsStand tids B q pq) where
        pub wake_stands : ChainsStand tids B' (released a n bits q) pq
        wake_stands =
            stands_from B' (run (Signal a n bits ∷ []) start).chains (after (Signal a n bits ∷ []) owes within) tids (released a n bits q) pq
            (signal_stands start tids q st.queue a n bits) (subst (λ V. PiQueueStands V pq) (sym (signal_pis start a n bits)) st.locks)

        pub wake_counts : to_count B' s ≡ length (leaving a n bits q)
        wake_counts = counts_as (Signal a n bits ∷ []) owes within ∙ signal_counts start tids q st.queue a n bits ∙ from_zero (length (leaving a n bits q))

    -- it wakes waiters at one address and then at another
    module _ (a n b m : ℕ) (owes : o'.ops ≡ Signal a n all_bits ∷ Signal b m all_bits ∷ []) (within : EachAt (λ c. o'.marks c ≡ true) (Signal a n all_bits ∷ Signal b m all_bits ∷ [])) where
      abbrev both : List Op
      both = Signal a n all_bits ∷ Signal b m all_bits ∷ []

      abbrev half : Work
      half = run_op (Signal a n all_bits) start

      pub wakes_sound : ChainsSound B'
      wakes_sound =
          sound_from B' (run both start).chains (after both owes within) (marks both owes within) plain
          (signal_leads half (sleepers_of B') (signal_leads start (sleepers_of B') notes_still a n all_bits) b m all_bits)
          (subst (LocksLead (pi_sleepers_of B')) (sym (signal_pis half b m all_bits ∙ signal_pis start a n all_bits)) locks_still) (all_told both owes within)

      module _ (tids : ℕ → ℕ) (q : List LxWaiter) (pq : List LxPiWaiter) (st : ChainsStand tids B q pq) where
        pub wakes_stands : ChainsStand tids B' (released b m all_bits (released a n all_bits q)) pq
        wakes_stands =
            stands_from B' (run both start).chains (after both owes within) tids (released b m all_bits (released a n all_bits q)) pq
            (signal_stands half tids (released a n all_bits q) (signal_stands start tids q st.queue a n all_bits) b m all_bits)
            (subst (λ V. PiQueueStands V pq) (sym (signal_pis half b m all_bits ∙ signal_pis start a n all_bits)) st.locks)

        pub wakes_count : to_count B' s ≡ length (leaving a n all_bits q) + length (leaving b m all_bits (released a n all_bits q))
        wakes_count =
            counts_as both owes within ∙ signal_counts half tids (released a n all_bits q) (signal_stands start tids q st.queue a n all_bits) b m all_bits
            ∙ ap (λ k. k + length (leaving b m all_bits (released a n all_bits q))) (signal_counts start tids q st.queue a n all_bits ∙ from_zero (length (leaving a n all_bits q)))

    -- it wakes waiters at one address and moves others to another
    module _ (counts : Bool) (a b n m : ℕ) (owes : o'.ops ≡ Signal a n all_bits ∷ Take counts a m b ∷ Join b ∷ []) (within : EachAt (λ c. o'.marks c ≡ true) (Signal a n all_bits ∷ Take counts a m b ∷ Join b ∷ [])) where
      abbrev all : List Op
      all = Signal a n all_bits ∷ Take counts a m b ∷ Join b ∷ []

      abbrev woken : Work
      woken = run_op (Signal a n all_bits) start

      pub requeue_sound : ChainsSound B'
      requeue_sound =
          sound_from B' (run all start).chains (after all owes within) (marks all owes within) plain
          (moved_leads woken (sleepers_of B') (signal_leads start (sleepers_of B') notes_still a n all_bits) counts a m b)
          (subst (LocksLead (pi_sleepers_of B')) (sym (move_pis woken counts a m b ∙ signal_pis start a n all_bits)) locks_still) (all_told all owes within)

      module _ (tids : ℕ → ℕ) (q : List LxWaiter) (pq : List LxPiWaiter) (st : ChainsStand tids B q pq) where
        pub requeue_stands : ChainsStand tids B' (after_requeue a b n m q) pq
        requeue_stands =
            stands_from B' (run all start).chains (after all owes within) tids (after_requeue a b n m q) pq
            (moved_stands woken tids (released a n all_bits q) (signal_stands start tids q st.queue a n all_bits) counts a m b)
            (subst (λ V. PiQueueStands V pq) (sym (move_pis woken counts a m b ∙ signal_pis start a n all_bits)) st.locks)

        pub requeue_counts : to_count B' s ≡ length (leaving a n all_bits q) + (if counts then length (moving a m (released a n all_bits q)) else 0)
        requeue_counts =
            counts_as all owes within ∙ moved_counts woken tids (released a n all_bits q) (signal_stands start tids q st.queue a n all_bits) counts a m b
            ∙ ap (λ k. k + (if counts then length (moving a m (released a n all_bits q)) else 0)) (signal_counts start tids q st.queue a n all_bits ∙ from_zero (length (leaving a n all_bits q)))

    -- it hands a lock over
    module _ (a : ℕ) (owes : o'.ops ≡ Hand a ∷ []) (within : EachAt (λ c. o'.marks c ≡ true) (Hand a ∷ [])) where
      pub hand_sound : ChainsSound B'
      hand_sound =
          sound_from B' (run (Hand a ∷ []) start).chains (after (Hand a ∷ []) owes within) (marks (Hand a ∷ []) owes within) plain
          (subst (NotesLead (sleepers_of B')) (sym (hand_stays start a)) notes_still) (handed_leads start (pi_sleepers_of B') locks_still a) (all_told (Hand a ∷ []) owes within)

      pub hand_over_stands : (tids : ℕ → ℕ) (q : List LxWaiter) (pq : List LxPiWaiter) → ChainsStand tids B q pq → ChainsStand tids B' q (without_first_pi a pq)
      hand_over_stands tids q pq st =
          stands_from B' (run (Hand a ∷ []) start).chains (after (Hand a ∷ []) owes within) tids q (without_first_pi a pq)
          (subst (λ V. QueueStands tids V q) (sym (hand_stays start a)) st.queue) (handed_stands start pq st.locks a)

  -- a place of it queues
  module _ (x : Waiter) (owes : o'.ops ≡ Enter x ∷ []) (within : EachAt (λ c. o'.marks c ≡ true) (Enter x ∷ [])) (lock : o'.lock ≡ (B.owes s).lock) where
    enter_locks : LocksLead (pi_sleepers_of B') (pis_of (settled B))
    enter_locks = locks_for (pi_sleepers_of B) (pi_sleepers_of B') (pis_of (settled B)) (owes_pi_sleepers_same B B' snd.marks s o' ch lock) snd.locks

    pub queue_sound : IsWaiter x → x.slot ≡ s → (B.owes s).sleeps x.place ≡ None → o'.sleeps x.place ≡ Some (new_sleeper x) → ((p : ℕ) → p ≢ x.place → o'.sleeps p ≡ (B.owes s).sleeps p) → ChainsSound B'
    queue_sound is own before now rest =
        sound_from B' (run (Enter x ∷ []) start).chains (after (Enter x ∷ []) owes within) (marks (Enter x ∷ []) owes within) plain
        (enter_leads start (sleepers_of B) snd.notes (sleepers_of B') x is was awaits others) (subst (LocksLead (pi_sleepers_of B')) (sym (enter_stays start x)) enter_locks) (all_told (Enter x ∷ []) owes within)
      where
        low : x.place < 256
        low = let p = is.place in omega arith

        number : who x ≡ who_at s x.place
        number = ap (λ (y : ℕ). who_at y x.place) own

        was : sleepers_of B (who x) ≡ None
        was = ap (λ (y : ℕ). (B.owes y).sleeps (place_of (who x))) (own_slot x is ∙ own) ∙ ap (B.owes s).sleeps (place_is x.slot x.place low) ∙ before

        awaits : sleepers_of B' (who x) ≡ Some (new_sleeper x)
        awaits = ap (sleepers_of B') number ∙ owes_now_sleeps B B' snd.marks s o' ch x.place low ∙ now

        others : SameBut (who x) (sleepers_of B) (sleepers_of B')
        others = subst (λ (i : ℕ). SameBut i (sleepers_of B) (sleepers_of B')) (sym number) (owes_sleepers_but B B' snd.marks s o' ch x.place rest)

    pub queue_stands : (tids : ℕ → ℕ) (q : List LxWaiter) (pq : List LxPiWaiter) → ChainsStand tids B q pq → ChainsStand tids B' (q ++ linux_waiter tids x ∷ []) pq
    queue_stands tids q pq st =
        stands_from B' (run (Enter x ∷ []) start).chains (after (Enter x ∷ []) owes within) tids (q ++ linux_waiter tids x ∷ []) pq
        (enter_stands start tids q st.queue x) (subst (λ V. PiQueueStands V pq) (sym (enter_stays start x)) st.locks)

  -- it queues for a lock
  module _ (x : PiWaiter) (owes : o'.ops ≡ EnterPi x ∷ []) (within : EachAt (λ c. o'.marks c ≡ true) (EnterPi x ∷ [])) (sleeps : (p : ℕ) → o'.sleeps p ≡ (B.owes s).sleeps p) where
    lock_notes : NotesLead (sleepers_of B') (lines_of (settled B))
    lock_notes = notes_for (sleepers_of B) (sleepers_of B') (lines_of (settled B)) (owes_sleepers_same B B' snd.marks s o' ch sleeps) snd.notes

    pub lock_sound : x.slot < 128 → x.slot ≡ s → (B.owes s).lock ≡ None → o'.lock ≡ Some (sleeper_of x) → ChainsSound B'
    lock_sound low own before now =
        sound_from B' (run (EnterPi x ∷ []) start).chains (after (EnterPi x ∷ []) owes within) (marks (EnterPi x ∷ []) owes within) plain
        (subst (NotesLead (sleepers_of B')) (sym (enter_pi_stays start x)) lock_notes)
        (enter_pi_leads start (pi_sleepers_of B) snd.locks (pi_sleepers_of B') x low (ap (pi_sleepers_of B) own ∙ before) (ap (pi_sleepers_of B') own ∙ owes_pi_now_sleeps B B' snd.marks s o' ch ∙ now)
        (subst (λ (y : ℕ). SameBut y (pi_sleepers_of B) (pi_sleepers_of B')) (sym own) (owes_pi_others_sleep B B' snd.marks s o' ch)))
        (all_told (EnterPi x ∷ []) owes within)

    pub lock_stands : (tids : ℕ → ℕ) (q : List LxWaiter) (pq : List LxPiWaiter) → ChainsStand tids B q pq → ChainsStand tids B' q (pq ++ linux_pi_waiter x ∷ [])
    lock_stands tids q pq st =
        stands_from B' (run (EnterPi x ∷ []) start).chains (after (EnterPi x ∷ []) owes within) tids q (pq ++ linux_pi_waiter x ∷ [])
        (subst (λ V. QueueStands tids V q) (sym (enter_pi_stays start x)) st.queue) (enter_pi_stands start pq st.locks x)
