-- The entries of a thread that owes nothing: Release, and Sleep of each kind of wait.
use Rattle.std.proofs.Common.{◌≡◌, ◌≢◌, ℕ, true, false, Some, None, List, [], ◌∷◌, length, min, refl, sym, ap, ◌∙◌, arith, ◌⊎◌, inl, inr, subst}
use Rattle.std.specs.Prelude.{◌==◌}
use Rattle.std.specs.List.{list_any}
use Rattle.umtx_queue.specs.declared.waiter.Looked.TheVariants as looked
use Rattle.umtx_queue.specs.Lists.{tally}
use Rattle.umtx_queue.specs.Waiters.{is_of_slot, matches, slot_of, who_at}
use Rattle.umtx_queue.specs.Lines.{finds, Line, removed, signalled}
use Rattle.umtx_queue.specs.Chains.{ChainState, is_free_for}
use Rattle.umtx_queue.proofs.NoteMaps.{slot_is}
use Rattle.umtx_queue.proofs.Tallies.{length-first_of}
use Rattle.lx_machine.specs.declared.threads.LxWaiter.{LxWaiter}
use Rattle.lx_machine.specs.declared.threads.PiWaiter.{PiWaiter as LxPiWaiter}
use Rattle.lx_machine.specs.Queue as queue
use Rattle.places.specs.Places.{chain}
use Rattle.chains_stand.specs.Chains.{at_chain, lines_of, on_line, pis_of}
use Rattle.chains_stand.specs.Notes.{finds_in, IsEnd, NotesLead, Sleeper}
use Rattle.chains_stand.specs.Locks.{LocksLead}
use Rattle.chains_stand.specs.Queues.{PiQueueStands, QueueStands}
use Rattle.chains_stand.specs.Owed.{run, Signal, Work}
use Rattle.chains_stand.specs.Board.{bare, Board, ChainsSound, ChainsStand, Owing, pi_sleepers_of, place_of, settle, settled, sleepers_of}
use Rattle.chains_stand.proofs.Lists.{filter-absent, is_same, same_or_not}
use Rattle.chains_stand.proofs.Numbers.{lines_change, number_is, pis_stay, place_is}
use Rattle.chains_stand.proofs.Ends.{no_note, no_sleeper, woken_nowhere}
use Rattle.chains_stand.proofs.Leaves.{follow_leads, leave_leads, plain_within, slot_absent, slot_stands}
use Rattle.chains_stand.proofs.Slots.{leave_stands, not_queued, slot_is_queued}
use Rattle.chains_stand.proofs.Releases.{release_count}
use Rattle.chains_stand.proofs.Works.{signal_leads, signal_pis, signal_stands}
use Rattle.chains_stand.proofs.Changes.{BoardChange, others_sleep, owes_now_sleeps, owes_pi_sleepers_same, owes_sleepers_but, own_sleeps, OwesChange, pi_sleepers_same, sleepers_same}
use Rattle.chains_stand.proofs.Keeps.{idle_marks, idle_plain, none_carried, plain_after, idle_settled, idle_told, IsIdle, locks_for, nobody_has, notes_for, sound_from, stands_from, word_marks, word_settled, word_told}

-- a chain that is nobody's is settled
pub settled_is : (B : Board) (c : ℕ) → (B.chains c).marked ≡ None → settled B c ≡ bare B c
settled_is B c free = ap (settle B c) free

pub settled_line : (B : Board) (c : ℕ) → (B.chains c).marked ≡ None → (settled B c).line ≡ (B.chains c).line
settled_line B c free = ap (λ (z : ChainState). z.line) (settled_is B c free)

pub settled_pi : (B : Board) (c : ℕ) → (B.chains c).marked ≡ None → (settled B c).pi ≡ (B.chains c).pi
settled_pi B c free = ap (λ (z : ChainState). z.pi) (settled_is B c free)

-- ---- Release

module _ (B B' : Board) (snd : ChainsSound B) (s : ℕ) (o' : Owing) (a n bits : ℕ) (ch : BoardChange B B' s o' (chain a) (on_line (λ l. signalled l a n bits) (B.chains (chain a)))) (free : is_free_for s (B.chains (chain a)).marked ≡ true) (idle : IsIdle (B.owes s)) (idle' : IsIdle o') (sleeps : (p : ℕ) → o'.sleeps p ≡ (B.owes s).sleeps p) (lock : o'.lock ≡ (B.owes s).lock) where
  nobody : (B.chains (chain a)).marked ≡ None
  nobody = nobody_has B snd.marks s (chain a) idle free

  no_other : (x : ℕ) → x ≢ s → (B.chains (chain a)).marked ≢ Some x
  no_other x ne e = let g : None ≡ Some x = sym nobody ∙ e in cc

  abbrev f : ChainState → ChainState
  f = on_line (λ l. signalled l a n bits)

  abbrev start : Work
  start = record { chains = settled B; carry = []; answer = 0 }

  after : (c : ℕ) → settled B' c ≡ (run (Signal a n bits ∷ []) start).chains c
  after = idle_settled B B' snd.marks s o' (chain a) f (λ z. refl) (λ z. refl) ch nobody idle idle'

  pub release_sound : ChainsSound B'
  release_sound =
      sound_from B' (run (Signal a n bits ∷ []) start).chains after (idle_marks B B' snd.marks s o' (chain a) f (λ z. refl) (λ z. refl) ch nobody idle idle') (idle_plain B B' snd.marks s o' (chain a) f (λ z. refl) (λ z. refl) ch nobody idle idle' snd.plain)
      (signal_leads start (sleepers_of B') (notes_for (sleepers_of B) (sleepers_of B') (lines_of (settled B)) (sleepers_same B B' snd.marks s o' (chain a) (f (B.chains (chain a))) ch no_other sleeps) snd.notes) a n bits)
      (subst (LocksLead (pi_sleepers_of B')) (sym (signal_pis start a n bits)) (locks_for (pi_sleepers_of B) (pi_sleepers_of B') (pis_of (settled B)) (pi_sleepers_same B B' snd.marks s o' (chain a) (f (B.chains (chain a))) ch no_other lock) snd.locks))
      (idle_told B B' snd.marks s o' (chain a) f (λ z. refl) (λ z. refl) ch nobody idle idle' snd.told)

  module _ (tids : ℕ → ℕ) (q : List LxWaiter) (pq : List LxPiWaiter) (st : ChainsStand tids B q pq) where
    pub released_stands : ChainsStand tids B' (queue.released a n bits q) pq
    released_stands =
        stands_from B' (run (Signal a n bits ∷ []) start).chains after tids (queue.released a n bits q) pq
        (signal_stands start tids q st.queue a n bits) (subst (λ V. PiQueueStands V pq) (sym (signal_pis start a n bits)) st.locks)

    -- as many as the chain wakes
    pub released_counts : length (queue.leaving a n bits q) ≡ min n (tally (matches a bits) (B.chains (chain a)).line.waiters)
    released_counts =
        release_count tids (lines_of (settled B)) q st.queue a n bits ∙ length-first_of (matches a bits) n (settled B (chain a)).line.waiters
        ∙ ap (λ (l : Line). min n (tally (matches a bits) l.waiters)) (settled_line B (chain a) nobody)

-- ---- Sleep of a plain wait, which follows a note

module _ (B B' : Board) (snd : ChainsSound B) (s : ℕ) (o' : Owing) (h : Sleeper) (waits : (B.owes s).sleeps 0 ≡ Some h) (free : is_free_for s (B.chains (chain h.at)).marked ≡ true) (idle : IsIdle (B.owes s)) where
  abbrev me : ℕ
  me = who_at s 0

  nobody_here : (B.chains (chain h.at)).marked ≡ None
  nobody_here = nobody_has B snd.marks s (chain h.at) idle free

  sleeps_here : sleepers_of B (who_at s 0) ≡ Some h
  sleeps_here = ap (λ (x : ℕ). (B.owes x).sleeps (place_of (who_at s 0))) (slot_is s 0 (omega arith)) ∙ ap (B.owes s).sleeps (place_is s 0 (omega arith)) ∙ waits

  -- what it finds in the settled chain
  pub finds_here : finds_in (lines_of (settled B)) (who_at s 0) (chain h.at) ≡ finds (B.chains (chain h.at)).line (who_at s 0)
  finds_here = ap (λ (l : Line). finds l (who_at s 0)) (settled_line B (chain h.at) nobody_here)

  module _ (ch : OwesChange B B' s o') (idle' : IsIdle o') (k : ℕ) (note : finds (B.chains (chain h.at)).line (who_at s 0) ≡ Some (looked.Moved k)) (now : o'.sleeps 0 ≡ Some (record { at = k; many = false })) (rest : (p : ℕ) → p ≢ 0 → o'.sleeps p ≡ (B.owes s).sleeps p) (lock : o'.lock ≡ (B.owes s).lock) where
    same_marks : (c : ℕ) → o'.marks c ≡ (B.owes s).marks c
    same_marks c = idle'.marks c ∙ sym (idle.marks c)

    follow_settled : (c : ℕ) → settled B' c ≡ settled B c
    follow_settled = word_settled B B' snd.marks s o' ch idle.ops same_marks [] idle'.ops tt

    pub follow_sound : ChainsSound B'
    follow_sound =
        sound_from B' (settled B) follow_settled (word_marks B B' snd.marks s o' ch idle.ops same_marks [] idle'.ops tt) (plain_after B B' s o' ch.now ch.others snd.plain (none_carried o'.carry idle'.carry))
        (follow_leads (sleepers_of B) (sleepers_of B') (lines_of (settled B)) snd.notes (who_at s 0) h sleeps_here k (finds_here ∙ note)
        (owes_now_sleeps B B' snd.marks s o' ch 0 (omega arith) ∙ now) (owes_sleepers_but B B' snd.marks s o' ch 0 rest))
        (locks_for (pi_sleepers_of B) (pi_sleepers_of B') (pis_of (settled B)) (owes_pi_sleepers_same B B' snd.marks s o' ch lock) snd.locks)
        (word_told B B' snd.marks s o' ch idle.ops same_marks [] idle'.ops tt snd.told (λ told e. absurd (let g : None ≡ Some told = sym idle'.told ∙ e in cc)))

    pub follow_stands : (tids : ℕ → ℕ) (q : List LxWaiter) (pq : List LxPiWaiter) → ChainsStand tids B q pq → ChainsStand tids B' q pq
    follow_stands tids q pq st = stands_from B' (settled B) follow_settled tids q pq st.queue st.locks

  -- ---- and which ends

  module _ (ch : BoardChange B B' s o' (chain h.at) (on_line (λ l. removed l s) (B.chains (chain h.at)))) (idle' : IsIdle o') (found : IsEnd (finds (B.chains (chain h.at)).line (who_at s 0))) (alone : (p : ℕ) → p ≢ 0 → (B.owes s).sleeps p ≡ None) (none : (p : ℕ) → o'.sleeps p ≡ None) (lock : o'.lock ≡ (B.owes s).lock) where
    abbrev leaves : ChainState → ChainState
    leaves = on_line (λ l. removed l s)

    nobody_other : (x : ℕ) → x ≢ s → (B.chains (chain h.at)).marked ≢ Some x
    nobody_other x ne e = let g : None ≡ Some x = sym nobody_here ∙ e in cc

    leave_settled : (c : ℕ) → settled B' c ≡ at_chain (chain h.at) (on_line (λ l. removed l s)) (settled B) c
    leave_settled = idle_settled B B' snd.marks s o' (chain h.at) leaves (λ z. refl) (λ z. refl) ch nobody_here idle idle'

    no_move : (k : ℕ) → finds_in (lines_of (settled B)) (who_at s 0) (chain h.at) ≢ Some (looked.Moved k)
    no_move = no_note (finds_in (lines_of (settled B)) (who_at s 0) (chain h.at)) (subst IsEnd (sym finds_here) found)

    other_places : (i : ℕ) → slot_of i ≡ s → i ≢ who_at s 0 → sleepers_of B i ≡ None
    other_places i is ne = ap (λ (x : ℕ). (B.owes x).sleeps (place_of i)) is ∙ alone (place_of i) (λ e. ne (sym (number_is i) ∙ ap (λ (x : ℕ). who_at x (place_of i)) is ∙ ap (who_at s) e))

    all_here : (i c : ℕ) → slot_of i ≡ s → finds_in (lines_of (settled B)) i c ≡ Some looked.Queued → (c == chain h.at) ≡ true
    all_here = plain_within (sleepers_of B) (lines_of (settled B)) snd.notes s (λ c. c == chain h.at) (who_at s 0) h sleeps_here no_move other_places (is_same (chain h.at) (chain h.at) refl)

    pub leave_sound : ChainsSound B'
    leave_sound =
        sound_from B' (at_chain (chain h.at) leaves (settled B)) leave_settled (idle_marks B B' snd.marks s o' (chain h.at) leaves (λ z. refl) (λ z. refl) ch nobody_here idle idle') (idle_plain B B' snd.marks s o' (chain h.at) leaves (λ z. refl) (λ z. refl) ch nobody_here idle idle' snd.plain)
        (subst (NotesLead (sleepers_of B')) (sym (lines_change (λ c. c == chain h.at) (λ l. removed l s) (settled B)))
        (leave_leads (sleepers_of B) (sleepers_of B') (lines_of (settled B)) snd.notes s (λ c. c == chain h.at) all_here
        (λ i is. own_sleeps B B' snd.marks s o' (chain h.at) (leaves (B.chains (chain h.at))) ch nobody_other i is ∙ none (place_of i))
        (others_sleep B B' snd.marks s o' (chain h.at) (leaves (B.chains (chain h.at))) ch nobody_other)))
        (subst (LocksLead (pi_sleepers_of B')) (sym (pis_stay (λ c. c == chain h.at) (λ l. removed l s) (settled B)))
        (locks_for (pi_sleepers_of B) (pi_sleepers_of B') (pis_of (settled B)) (pi_sleepers_same B B' snd.marks s o' (chain h.at) (leaves (B.chains (chain h.at))) ch nobody_other lock) snd.locks))
        (idle_told B B' snd.marks s o' (chain h.at) leaves (λ z. refl) (λ z. refl) ch nobody_here idle idle' snd.told)

    module _ (tids : ℕ → ℕ) (apart : (x : ℕ) → x ≢ s → tids x ≢ tids s) (q : List LxWaiter) (pq : List LxPiWaiter) (st : ChainsStand tids B q pq) where
      absent : (c : ℕ) → (c == chain h.at) ≡ false → list_any (is_of_slot s) (settled B c).line.waiters ≡ false
      absent c e = slot_absent (sleepers_of B) (lines_of (settled B)) snd.notes s c (λ i is f. (let g : true ≡ false = sym (all_here i c is f) ∙ e in cc))

      -- its waiter, if it is there, leaves the queue
      pub left_stands : ChainsStand tids B' (queue.without_waiters_of (tids s) q) pq
      left_stands =
          stands_from B' (at_chain (chain h.at) leaves (settled B)) leave_settled tids (queue.without_waiters_of (tids s) q) pq
          (subst (λ V. QueueStands tids V (queue.without_waiters_of (tids s) q)) (sym (lines_change (λ c. c == chain h.at) (λ l. removed l s) (settled B))) (leave_stands tids s apart (lines_of (settled B)) q st.queue (λ c. c == chain h.at) absent))
          (subst (λ V. PiQueueStands V pq) (sym (pis_stay (λ c. c == chain h.at) (λ l. removed l s) (settled B))) st.locks)

      -- where it was woken it has been released
      pub woken_released : finds (B.chains (chain h.at)).line (who_at s 0) ≡ Some looked.Woken → queue.is_queued (tids s) q ≡ false
      woken_released woken = not_queued tids s apart (lines_of (settled B)) q st.queue (λ c. slot_absent (sleepers_of B) (lines_of (settled B)) snd.notes s c (λ i is f. nowhere c i is f))
        where
          nowhere : (c i : ℕ) → slot_of i ≡ s → finds_in (lines_of (settled B)) i c ≡ Some looked.Queued → ⊥
          nowhere c i is f = by (same_or_not (who_at s 0) i)
            where
              by : (i ≡ who_at s 0) ⊎ (i ≢ who_at s 0) → ⊥
              by (inl e) = woken_nowhere (sleepers_of B) (lines_of (settled B)) snd.notes (who_at s 0) h sleeps_here (finds_here ∙ woken) c (ap (λ (x : ℕ). finds_in (lines_of (settled B)) x c) (sym e) ∙ f)
              by (inr ne) = no_sleeper (sleepers_of B) (lines_of (settled B)) snd.notes i (other_places i is ne) c f

      pub woken_stands : finds (B.chains (chain h.at)).line (who_at s 0) ≡ Some looked.Woken → ChainsStand tids B' q pq
      woken_stands woken = subst (λ (z : List LxWaiter). ChainsStand tids B' z pq) (filter-absent (queue.is_thread (tids s)) q (woken_released woken)) left_stands

      -- and where it is queued it has not
      pub still_queued : finds (B.chains (chain h.at)).line (who_at s 0) ≡ Some looked.Queued → queue.is_queued (tids s) q ≡ true
      still_queued found =
          slot_is_queued tids s apart (lines_of (settled B)) q st.queue snd.notes.keys (chain h.at)
          (slot_stands (sleepers_of B) (lines_of (settled B)) snd.notes s (who_at s 0) (chain h.at) (slot_is s 0 (omega arith)) (finds_here ∙ found))
