-- Sleep of a wait for a lock.
use Rattle.std.proofs.Common.{◌≡◌, ◌≢◌, ℕ, Bool, true, false, Some, None, List, refl, sym, ap, ◌∙◌, subst}
use Rattle.std.specs.Prelude.{◌==◌}
use Rattle.umtx_queue.specs.declared.waiter.Looked.TheVariants as looked
use Rattle.umtx_queue.specs.PiLines.{pi_finds, pi_is_queued, pi_removed, PiLine}
use Rattle.umtx_queue.specs.Chains.{ChainState, is_free_for}
use Rattle.lx_machine.specs.declared.threads.LxWaiter.{LxWaiter}
use Rattle.lx_machine.specs.declared.threads.PiWaiter.{PiWaiter as LxPiWaiter}
use Rattle.lx_machine.specs.PiQueue.{is_pi_queued, is_pi_thread, without_pi_of}
use Rattle.places.specs.Places.{chain}
use Rattle.chains_stand.specs.Chains.{at_chain, lines_of, on_pi, pis_of}
use Rattle.chains_stand.specs.Notes.{IsEnd, NotesLead}
use Rattle.chains_stand.specs.Locks.{LocksLead, PiSleeper}
use Rattle.chains_stand.specs.Queues.{PiQueueStands, QueueStands}
use Rattle.chains_stand.specs.Board.{Board, ChainsSound, ChainsStand, Owing, pi_sleepers_of, settled, sleepers_of}
use Rattle.chains_stand.proofs.Lists.{filter-absent}
use Rattle.chains_stand.proofs.Numbers.{lines_stay, pis_change}
use Rattle.chains_stand.proofs.Locks.{absent_elsewhere, pi_found_is, pi_leave_leads, pi_woken_nowhere}
use Rattle.chains_stand.proofs.LockQueues.{pi_leave_stands, pi_not_queued, pi_slot_is_queued}
use Rattle.chains_stand.proofs.Changes.{BoardChange, pi_now_sleeps, pi_others_sleep, sleepers_same}
use Rattle.chains_stand.proofs.Keeps.{idle_marks, idle_plain, idle_settled, idle_told, IsIdle, nobody_has, notes_for, sound_from, stands_from}
use Rattle.chains_stand.proofs.Idles.{settled_pi}

module _ (B B' : Board) (snd : ChainsSound B) (s : ℕ) (o' : Owing) (h : PiSleeper) (waits : (B.owes s).lock ≡ Some h) (free : is_free_for s (B.chains (chain h.at)).marked ≡ true) (idle : IsIdle (B.owes s)) where
  nobody : (B.chains (chain h.at)).marked ≡ None
  nobody = nobody_has B snd.marks s (chain h.at) idle free

  no_other : (x : ℕ) → x ≢ s → (B.chains (chain h.at)).marked ≢ Some x
  no_other x ne e = let g : None ≡ Some x = sym nobody ∙ e in cc

  finds_here : pi_finds (pis_of (settled B) (chain h.at)) s ≡ pi_finds (B.chains (chain h.at)).pi s
  finds_here = ap (λ (l : PiLine). pi_finds l s) (settled_pi B (chain h.at) nobody)

  -- it finds that it waits, or that it was woken
  pub lock_found : IsEnd (pi_finds (B.chains (chain h.at)).pi s)
  lock_found = subst IsEnd finds_here (snd.locks.waits s h waits)

  abbrev leaves : ChainState → ChainState
  leaves = on_pi (λ l. pi_removed l s)

  -- the wait ends
  module _ (ch : BoardChange B B' s o' (chain h.at) (on_pi (λ l. pi_removed l s) (B.chains (chain h.at)))) (idle' : IsIdle o') (sleeps : (p : ℕ) → o'.sleeps p ≡ (B.owes s).sleeps p) (none : o'.lock ≡ None) where
    lock_settled : (c : ℕ) → settled B' c ≡ at_chain (chain h.at) (on_pi (λ l. pi_removed l s)) (settled B) c
    lock_settled = idle_settled B B' snd.marks s o' (chain h.at) leaves (λ z. refl) (λ z. refl) ch nobody idle idle'

    pub lock_left_sound : ChainsSound B'
    lock_left_sound =
        sound_from B' (at_chain (chain h.at) leaves (settled B)) lock_settled (idle_marks B B' snd.marks s o' (chain h.at) leaves (λ z. refl) (λ z. refl) ch nobody idle idle') (idle_plain B B' snd.marks s o' (chain h.at) leaves (λ z. refl) (λ z. refl) ch nobody idle idle' snd.plain)
        (subst (NotesLead (sleepers_of B')) (sym (lines_stay (λ c. c == chain h.at) (λ l. pi_removed l s) (settled B)))
        (notes_for (sleepers_of B) (sleepers_of B') (lines_of (settled B)) (sleepers_same B B' snd.marks s o' (chain h.at) (leaves (B.chains (chain h.at))) ch no_other sleeps) snd.notes))
        (subst (LocksLead (pi_sleepers_of B')) (sym (pis_change (λ c. c == chain h.at) (λ l. pi_removed l s) (settled B)))
        (pi_leave_leads (pi_sleepers_of B) (pi_sleepers_of B') (pis_of (settled B)) snd.locks s h waits
        (pi_now_sleeps B B' snd.marks s o' (chain h.at) (leaves (B.chains (chain h.at))) ch no_other ∙ none)
        (pi_others_sleep B B' snd.marks s o' (chain h.at) (leaves (B.chains (chain h.at))) ch no_other)))
        (idle_told B B' snd.marks s o' (chain h.at) leaves (λ z. refl) (λ z. refl) ch nobody idle idle' snd.told)

    module _ (apart : (x : ℕ) (g : PiSleeper) → x ≢ s → (B.owes x).lock ≡ Some g → g.tid ≢ h.tid) (tids : ℕ → ℕ) (q : List LxWaiter) (pq : List LxPiWaiter) (st : ChainsStand tids B q pq) where
      own : (g : PiSleeper) → pi_sleepers_of B s ≡ Some g → g.tid ≡ h.tid
      own g e = let f : Some g ≡ Some h = sym e ∙ waits in ap (λ (z : PiSleeper). z.tid) (let k : g ≡ h = cc in k)

      -- its waiter, if it is there, leaves the queue
      pub lock_left_stands : ChainsStand tids B' q (without_pi_of h.tid pq)
      lock_left_stands =
          stands_from B' (at_chain (chain h.at) leaves (settled B)) lock_settled tids q (without_pi_of h.tid pq)
          (subst (λ V. QueueStands tids V q) (sym (lines_stay (λ c. c == chain h.at) (λ l. pi_removed l s) (settled B))) st.queue)
          (subst (λ V. PiQueueStands V (without_pi_of h.tid pq)) (sym (pis_change (λ c. c == chain h.at) (λ l. pi_removed l s) (settled B)))
          (pi_leave_stands (pi_sleepers_of B) (pis_of (settled B)) snd.locks pq st.locks s h.tid own apart h.at (absent_elsewhere (pi_sleepers_of B) (pi_sleepers_of B) (pis_of (settled B)) snd.locks s h waits)))

      -- where it was woken it has the lock
      pub woken_has_lock : pi_finds (B.chains (chain h.at)).pi s ≡ Some looked.Woken → is_pi_queued h.tid pq ≡ false
      woken_has_lock woken =
          pi_not_queued (pi_sleepers_of B) (pis_of (settled B)) snd.locks pq st.locks s h.tid own apart
          (pi_woken_nowhere (pi_sleepers_of B) (pis_of (settled B)) snd.locks s h waits (finds_here ∙ woken))

      pub woken_lock_stands : pi_finds (B.chains (chain h.at)).pi s ≡ Some looked.Woken → ChainsStand tids B' q pq
      woken_lock_stands woken = subst (λ (z : List LxPiWaiter). ChainsStand tids B' q z) (filter-absent (is_pi_thread h.tid) pq (woken_has_lock woken)) lock_left_stands

      -- and where it is queued it waits for it still
      pub still_waits_for_lock : pi_finds (B.chains (chain h.at)).pi s ≡ Some looked.Queued → is_pi_queued h.tid pq ≡ true
      still_waits_for_lock found = pi_slot_is_queued (pi_sleepers_of B) (pis_of (settled B)) snd.locks pq st.locks s h.tid own apart (chain h.at) (by (pi_is_queued s (settled B (chain h.at)).pi.waiters) refl)
        where
          by : (b : Bool) → pi_is_queued s (settled B (chain h.at)).pi.waiters ≡ b → b ≡ true
          by true e = refl
          by false e = absurd (pi_found_is (settled B (chain h.at)).pi s e (finds_here ∙ found))
