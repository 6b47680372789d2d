-- The clauses can be met: empty chains, of which nobody has made one busy, and empty queues.
use Rattle.std.proofs.Common.{◌≡◌, ℕ, true, false, List, [], Option, Some, None, refl, sym, ap, ◌∙◌, arith, subst}
use Rattle.umtx_queue.specs.Waiters.{slot_of}
use Rattle.umtx_queue.specs.Lines.{empty_line}
use Rattle.umtx_queue.specs.Chains.{ChainState, empty_chain}
use Rattle.chains_stand.specs.Chains.{lines_of, pis_of}
use Rattle.chains_stand.specs.Notes.{NotesLead, Sleeper}
use Rattle.chains_stand.specs.Locks.{LocksLead, PiSleeper}
use Rattle.chains_stand.specs.Owed.{EachAt, Op}
use Rattle.chains_stand.specs.Board.{Board, ChainsSound, ChainsStand, pi_sleepers_of, place_of, settle, settled, sleepers_of}
use Rattle.chains_stand.proofs.Looks.{queued_is}
use Rattle.chains_stand.proofs.Keeps.{none_carried, IsIdle, sound_from, stands_from}

-- nobody waits, and each thread is idle
pub record Rests (B : Board) : Type 0 where
  pub idle : (s : ℕ) → IsIdle (B.owes s)
  pub sleeps : (s p : ℕ) → (B.owes s).sleeps p ≡ None
  pub lock : (s : ℕ) → (B.owes s).lock ≡ None
  pub empty : (c : ℕ) → B.chains c ≡ empty_chain

abbrev empty : ℕ → ChainState
empty c = empty_chain

no_notes : (sleepers : ℕ → Option Sleeper) → ((i : ℕ) → sleepers i ≡ None) → NotesLead sleepers (lines_of empty)
no_notes sleepers none = record {
  keys = λ c a e. absurd (cc);
  waiters = λ c. record { each = λ k d h. absurd (omega arith); once = λ i. omega arith };
  fit = λ c k d h. absurd (omega arith);
  awaited = λ c i e. absurd (let f : false ≡ true = queued_is empty_line i e in cc);
  waits = λ i h e. absurd (let f : None ≡ Some h = sym (none i) ∙ e in cc);
}

no_locks : (sleepers : ℕ → Option PiSleeper) → ((s : ℕ) → sleepers s ≡ None) → LocksLead sleepers (pis_of empty)
no_locks sleepers none = record {
  keys = λ c a e. absurd (cc);
  waiters = λ c. record { each = λ k d h. absurd (omega arith); once = λ s. omega arith };
  fit = λ c k d h. absurd (omega arith);
  waits = λ s h e. absurd (let f : None ≡ Some h = sym (none s) ∙ e in cc);
}

module _ (B : Board) (b : Rests B) where
  free : (c : ℕ) → (B.chains c).marked ≡ None
  free c = ap (λ (z : ChainState). z.marked) (b.empty c)

  all_empty : (c : ℕ) → settled B c ≡ empty_chain
  all_empty c = ap (settle B c) (free c) ∙ ap (λ (z : ChainState). record z { marked = None }) (b.empty c)

  pub begins : ChainsSound B
  begins =
      sound_from B empty all_empty
      (record {
        own = λ s c e. absurd (let f : false ≡ true = sym ((b.idle s).marks c) ∙ e in cc);
        only = λ s c e. absurd (let f : None ≡ Some s = sym (free c) ∙ e in cc);
        within = λ s. subst (λ (os : List Op). EachAt (λ c. (B.owes s).marks c ≡ true) os) (sym (b.idle s).ops) tt;
      })
      (λ s. none_carried (B.owes s).carry (b.idle s).carry)
      (no_notes (sleepers_of B) (λ i. b.sleeps (slot_of i) (place_of i))) (no_locks (pi_sleepers_of B) b.lock) (λ s told e. absurd (let f : None ≡ Some told = sym (b.idle s).told ∙ e in cc))

  pub queues_begin : (tids : ℕ → ℕ) → ChainsStand tids B [] []
  queues_begin tids = stands_from B empty all_empty tids [] [] (record { at = λ a. refl }) (record { at = λ a. refl })
