-- What is owed, done to chains, and what the Linux machine's labels do to its queues.
use Rattle.std.proofs.Common.{◌≡◌, ℕ, ◌+◌, ◌<◌, Bool, List, [], ◌∷◌, ◌++◌, Option, Some, None, length, sym, ap, ◌∙◌, arith, subst}
use Rattle.std.specs.Prelude.{◌==◌, if◌then◌else◌}
use Rattle.umtx_queue.specs.declared.waiter.Waiter.{Waiter}
use Rattle.umtx_queue.specs.declared.pi.PiWaiter.{PiWaiter}
use Rattle.umtx_queue.specs.Waiters.{who, IsWaiter}
use Rattle.umtx_queue.specs.Lines.{carried, joined, Line, signalled, taken}
use Rattle.umtx_queue.specs.PiLines.{pi_handed, pi_joined, PiLine}
use Rattle.lx_machine.specs.declared.threads.LxWaiter.{LxWaiter}
use Rattle.lx_machine.specs.declared.threads.PiWaiter.{PiWaiter as LxPiWaiter}
use Rattle.lx_machine.specs.PiQueue.{without_first_pi}
use Rattle.lx_machine.specs.Queue as queue
use Rattle.places.specs.Places.{chain}
use Rattle.chains_stand.specs.Chains.{at_chain, lines_of, on_line, pis_of}
use Rattle.chains_stand.specs.Notes.{NotesLead, Sleeper}
use Rattle.chains_stand.specs.Locks.{LocksLead, PiSleeper, sleeper_of}
use Rattle.chains_stand.specs.Queues.{linux_pi_waiter, linux_waiter, PiQueueStands, QueueStands}
use Rattle.chains_stand.specs.Owed.{Enter, EnterPi, Hand, Join, run, run_op, Signal, Take, Work}
use Rattle.chains_stand.proofs.Numbers.{lines_change, lines_stay, pis_change, pis_stay}
use Rattle.chains_stand.proofs.Ends.{SameBut}
use Rattle.chains_stand.proofs.Releases.{release_count, release_leads, release_stands}
use Rattle.chains_stand.proofs.Moves.{move_at, move_count, move_leads, move_stands}
use Rattle.chains_stand.proofs.Inserts.{insert_leads, insert_stands, new_sleeper}
use Rattle.chains_stand.proofs.Locks.{hand_leads, pi_insert_leads}
use Rattle.chains_stand.proofs.LockQueues.{hand_stands, pi_insert_stands}

-- takes out and puts in
abbrev pub moved : Bool → ℕ → ℕ → ℕ → Work → Work
moved counts a n b w = run (Take counts a n b ∷ Join b ∷ []) w

no_more : (n : ℕ) → n + 0 ≡ n
no_more n = omega arith

module _ (w : Work) where
  -- ---- the lines after it

  signal_lines : (a n bits : ℕ) → lines_of (run_op (Signal a n bits) w).chains ≡ at_chain (chain a) (λ l. signalled l a n bits) (lines_of w.chains)
  signal_lines a n bits = lines_change (λ k. k == chain a) (λ l. signalled l a n bits) w.chains

  move_lines : (counts : Bool) (a n b : ℕ) → lines_of (moved counts a n b w).chains ≡ move_at (lines_of w.chains) a n b
  move_lines counts a n b =
      lines_change (λ k. k == chain b) (λ l. joined l (carried (w.chains (chain a)).line a n b)) (at_chain (chain a) (on_line (λ l. taken l a n b)) w.chains)
      ∙ ap (λ (V : ℕ → Line). at_chain (chain b) (λ l. joined l (carried (w.chains (chain a)).line a n b)) V) (lines_change (λ k. k == chain a) (λ l. taken l a n b) w.chains)

  enter_lines : (x : Waiter) → lines_of (run_op (Enter x) w).chains ≡ at_chain (chain x.key) (λ l. joined l (x ∷ [])) (lines_of w.chains)
  enter_lines x = lines_change (λ k. k == chain x.key) (λ l. joined l (x ∷ [])) w.chains

  enter_pis : (x : PiWaiter) → pis_of (run_op (EnterPi x) w).chains ≡ at_chain (chain x.key) (λ l. pi_joined l x) (pis_of w.chains)
  enter_pis x = pis_change (λ k. k == chain x.key) (λ l. pi_joined l x) w.chains

  hand_pis : (a : ℕ) → pis_of (run_op (Hand a) w).chains ≡ at_chain (chain a) (λ l. pi_handed l a) (pis_of w.chains)
  hand_pis a = pis_change (λ k. k == chain a) (λ l. pi_handed l a) w.chains

  -- ---- what stays

  pub signal_pis : (a n bits : ℕ) → pis_of (run_op (Signal a n bits) w).chains ≡ pis_of w.chains
  signal_pis a n bits = pis_stay (λ k. k == chain a) (λ l. signalled l a n bits) w.chains

  pub move_pis : (counts : Bool) (a n b : ℕ) → pis_of (moved counts a n b w).chains ≡ pis_of w.chains
  move_pis counts a n b =
      pis_stay (λ k. k == chain b) (λ l. joined l (carried (w.chains (chain a)).line a n b)) (at_chain (chain a) (on_line (λ l. taken l a n b)) w.chains)
      ∙ pis_stay (λ k. k == chain a) (λ l. taken l a n b) w.chains

  pub enter_stays : (x : Waiter) → pis_of (run_op (Enter x) w).chains ≡ pis_of w.chains
  enter_stays x = pis_stay (λ k. k == chain x.key) (λ l. joined l (x ∷ [])) w.chains

  pub enter_pi_stays : (x : PiWaiter) → lines_of (run_op (EnterPi x) w).chains ≡ lines_of w.chains
  enter_pi_stays x = lines_stay (λ k. k == chain x.key) (λ l. pi_joined l x) w.chains

  pub hand_stays : (a : ℕ) → lines_of (run_op (Hand a) w).chains ≡ lines_of w.chains
  hand_stays a = lines_stay (λ k. k == chain a) (λ l. pi_handed l a) w.chains

  -- ---- Notes

  module _ (sleepers : ℕ → Option Sleeper) (st : NotesLead sleepers (lines_of w.chains)) where
    pub signal_leads : (a n bits : ℕ) → NotesLead sleepers (lines_of (run_op (Signal a n bits) w).chains)
    signal_leads a n bits = subst (NotesLead sleepers) (sym (signal_lines a n bits)) (release_leads sleepers (lines_of w.chains) st a n bits)

    pub moved_leads : (counts : Bool) (a n b : ℕ) → NotesLead sleepers (lines_of (moved counts a n b w).chains)
    moved_leads counts a n b = subst (NotesLead sleepers) (sym (move_lines counts a n b)) (move_leads sleepers (lines_of w.chains) st a n b)

    pub enter_leads : (sleepers' : ℕ → Option Sleeper) (x : Waiter) → IsWaiter x → sleepers (who x) ≡ None → sleepers' (who x) ≡ Some (new_sleeper x) → SameBut (who x) sleepers sleepers' → NotesLead sleepers' (lines_of (run_op (Enter x) w).chains)
    enter_leads sleepers' x is before now same = subst (NotesLead sleepers') (sym (enter_lines x)) (insert_leads sleepers sleepers' (lines_of w.chains) st x is before now same)

  module _ (sleepers : ℕ → Option PiSleeper) (st : LocksLead sleepers (pis_of w.chains)) where
    pub enter_pi_leads : (sleepers' : ℕ → Option PiSleeper) (x : PiWaiter) → x.slot < 128 → sleepers x.slot ≡ None → sleepers' x.slot ≡ Some (sleeper_of x) → SameBut x.slot sleepers sleepers' → LocksLead sleepers' (pis_of (run_op (EnterPi x) w).chains)
    enter_pi_leads sleepers' x low before now same = subst (LocksLead sleepers') (sym (enter_pis x)) (pi_insert_leads sleepers sleepers' (pis_of w.chains) st x low before now same)

    pub handed_leads : (a : ℕ) → LocksLead sleepers (pis_of (run_op (Hand a) w).chains)
    handed_leads a = subst (LocksLead sleepers) (sym (hand_pis a)) (hand_leads sleepers (pis_of w.chains) st a)

  -- ---- Chains

  module _ (tids : ℕ → ℕ) (q : List LxWaiter) (st : QueueStands tids (lines_of w.chains) q) where
    pub signal_stands : (a n bits : ℕ) → QueueStands tids (lines_of (run_op (Signal a n bits) w).chains) (queue.released a n bits q)
    signal_stands a n bits = subst (λ (V : ℕ → Line). QueueStands tids V (queue.released a n bits q)) (sym (signal_lines a n bits)) (release_stands tids (lines_of w.chains) q st a n bits)

    pub signal_counts : (a n bits : ℕ) → (run_op (Signal a n bits) w).answer ≡ w.answer + length (queue.leaving a n bits q)
    signal_counts a n bits = ap (λ (k : ℕ). w.answer + k) (sym (release_count tids (lines_of w.chains) q st a n bits))

    pub moved_stands : (counts : Bool) (a n b : ℕ) → QueueStands tids (lines_of (moved counts a n b w).chains) (queue.waiters_moved a b n q)
    moved_stands counts a n b = subst (λ (V : ℕ → Line). QueueStands tids V (queue.waiters_moved a b n q)) (sym (move_lines counts a n b)) (move_stands tids (lines_of w.chains) q st a n b)

    pub moved_counts : (counts : Bool) (a n b : ℕ) → (moved counts a n b w).answer ≡ w.answer + (if counts then length (queue.moving a n q) else 0)
    moved_counts counts a n b =
        no_more (w.answer + (if counts then length (carried (w.chains (chain a)).line a n b) else 0))
        ∙ ap (λ (k : ℕ). w.answer + (if counts then k else 0)) (sym (move_count tids (lines_of w.chains) q st a n b))

    pub enter_stands : (x : Waiter) → QueueStands tids (lines_of (run_op (Enter x) w).chains) (q ++ linux_waiter tids x ∷ [])
    enter_stands x = subst (λ (V : ℕ → Line). QueueStands tids V (q ++ linux_waiter tids x ∷ [])) (sym (enter_lines x)) (insert_stands tids (lines_of w.chains) q st x)

  module _ (q : List LxPiWaiter) (st : PiQueueStands (pis_of w.chains) q) where
    pub enter_pi_stands : (x : PiWaiter) → PiQueueStands (pis_of (run_op (EnterPi x) w).chains) (q ++ linux_pi_waiter x ∷ [])
    enter_pi_stands x = subst (λ (V : ℕ → PiLine). PiQueueStands V (q ++ linux_pi_waiter x ∷ [])) (sym (enter_pis x)) (pi_insert_stands (pis_of w.chains) q st x)

    pub handed_stands : (a : ℕ) → PiQueueStands (pis_of (run_op (Hand a) w).chains) (without_first_pi a q)
    handed_stands a = subst (λ (V : ℕ → PiLine). PiQueueStands V (without_first_pi a q)) (sym (hand_pis a)) (hand_stands (pis_of w.chains) q st a)
