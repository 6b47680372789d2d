-- The clauses of a board, from its settled chains.
use Rattle.std.proofs.Common.{◌≡◌, ◌≢◌, ℕ, true, false, Option, Some, None, List, [], refl, sym, ap, ◌∙◌, arith, ◌⊎◌, inl, inr, subst}
use Rattle.std.specs.List.{All}
use Rattle.std.proofs.Math.Path.{fun_ext}
use Rattle.umtx_queue.specs.declared.waiter.Waiter.{Waiter}
use Rattle.umtx_queue.specs.Lines.{Line}
use Rattle.umtx_queue.specs.PiLines.{pi_first_of, PiLine}
use Rattle.umtx_queue.specs.Chains.{ChainState, is_free_for}
use Rattle.umtx_queue.proofs.NoteMaps.{same_number}
use Rattle.lx_machine.specs.declared.threads.LxWaiter.{LxWaiter}
use Rattle.lx_machine.specs.declared.threads.PiWaiter.{PiWaiter as LxPiWaiter}
use Rattle.places.specs.Places.{chain}
use Rattle.chains_stand.specs.Chains.{at_chain, lines_of, pis_of}
use Rattle.chains_stand.specs.Notes.{NotesLead, Sleeper}
use Rattle.chains_stand.specs.Locks.{LocksLead, PiSleeper}
use Rattle.chains_stand.specs.Queues.{PiQueueStands, QueueStands}
use Rattle.chains_stand.specs.Owed.{EachAt, Op, run, Work}
use Rattle.chains_stand.specs.Board.{Board, ChainsSound, ChainsStand, Marks, Owing, pi_sleepers_of, settled, sleepers_of, StillTold, to_count, Told, work_of}
use Rattle.chains_stand.proofs.Lists.{same_or_not}
use Rattle.chains_stand.proofs.Changes.{BoardChange, marks_after, one_after, owes_marks, owes_told, OwesChange, told_after, word_after, word_count}

-- the sleepers may be told in other words
pub notes_for : (sleepers sleepers' : ℕ → Option Sleeper) (V : ℕ → Line) → ((i : ℕ) → sleepers' i ≡ sleepers i) → NotesLead sleepers V → NotesLead sleepers' V
notes_for sleepers sleepers' V same h = subst (λ (f : ℕ → Option Sleeper). NotesLead f V) (sym (fun_ext same)) h

pub locks_for : (sleepers sleepers' : ℕ → Option PiSleeper) (V : ℕ → PiLine) → ((s : ℕ) → sleepers' s ≡ sleepers s) → LocksLead sleepers V → LocksLead sleepers' V
locks_for sleepers sleepers' V same h = subst (λ (f : ℕ → Option PiSleeper). LocksLead f V) (sym (fun_ext same)) h

-- what each slot was told is so still
abbrev pub AllTold : Board → Type 0
AllTold B = (s : ℕ) (told : Told) → (B.owes s).told ≡ Some told → StillTold B s told

-- no carry has a place of a wait in many places
abbrev pub IsPlain : List Waiter → Type 0
IsPlain ws = All (λ w. w.many ≡ false) ws

abbrev pub AllPlain : Board → Type 0
AllPlain B = (s : ℕ) → IsPlain (B.owes s).carry

pub none_carried : (ws : List Waiter) → ws ≡ [] → IsPlain ws
none_carried ws e = subst IsPlain (sym e) (λ k d h. absurd (omega arith))

pub plain_after : (B B' : Board) (s : ℕ) (o' : Owing) → B'.owes s ≡ o' → ((x : ℕ) → x ≢ s → B'.owes x ≡ B.owes x) → AllPlain B → IsPlain o'.carry → AllPlain B'
plain_after B B' s o' now others before own x = by (same_or_not s x)
  where
    by : (x ≡ s) ⊎ (x ≢ s) → IsPlain (B'.owes x).carry
    by (inl e) = subst (λ (o : Owing). IsPlain o.carry) (sym (ap (λ (y : ℕ). B'.owes y) e ∙ now)) own
    by (inr ne) = subst (λ (o : Owing). IsPlain o.carry) (sym (others x ne)) (before x)

module _ (B' : Board) (V : ℕ → ChainState) (is : (c : ℕ) → settled B' c ≡ V c) where
  pub sound_from : Marks B' → AllPlain B' → NotesLead (sleepers_of B') (lines_of V) → LocksLead (pi_sleepers_of B') (pis_of V) → AllTold B' → ChainsSound B'
  sound_from marks plain notes locks told = record {
    marks = marks;
    plain = plain;
    notes = subst (λ (W : ℕ → ChainState). NotesLead (sleepers_of B') (lines_of W)) (sym (fun_ext is)) notes;
    locks = subst (λ (W : ℕ → ChainState). LocksLead (pi_sleepers_of B') (pis_of W)) (sym (fun_ext is)) locks;
    told = told;
  }

  pub stands_from : (tids : ℕ → ℕ) (q : List LxWaiter) (pq : List LxPiWaiter) → QueueStands tids (lines_of V) q → PiQueueStands (pis_of V) pq → ChainsStand tids B' q pq
  stands_from tids q pq queue locks = record {
    queue = subst (λ (W : ℕ → ChainState). QueueStands tids (lines_of W) q) (sym (fun_ext is)) queue;
    locks = subst (λ (W : ℕ → ChainState). PiQueueStands (pis_of W) pq) (sym (fun_ext is)) locks;
  }

-- the settled chains and the sleepers stay
module _ (B B' : Board) (is : (c : ℕ) → settled B' c ≡ settled B c) where
  pub same_sound : ChainsSound B → ((i : ℕ) → sleepers_of B' i ≡ sleepers_of B i) → ((s : ℕ) → pi_sleepers_of B' s ≡ pi_sleepers_of B s) → Marks B' → AllPlain B' → AllTold B' → ChainsSound B'
  same_sound snd sleeps lock marks plain told =
      sound_from B' (settled B) is marks plain (notes_for (sleepers_of B) (sleepers_of B') (lines_of (settled B)) sleeps snd.notes) (locks_for (pi_sleepers_of B) (pi_sleepers_of B') (pis_of (settled B)) lock snd.locks) told

  pub same_stands : (tids : ℕ → ℕ) (q : List LxWaiter) (pq : List LxPiWaiter) → ChainsStand tids B q pq → ChainsStand tids B' q pq
  same_stands tids q pq st = stands_from B' (settled B) is tids q pq st.queue st.locks

-- ---- a thread that owes nothing, has made no chain busy, was told nothing and carries nobody

pub record IsIdle (o : Owing) : Type 0 where
  pub ops : o.ops ≡ []
  pub marks : (c : ℕ) → o.marks c ≡ false
  pub told : o.told ≡ None
  pub carry : o.carry ≡ []

-- a chain that it may use is nobody's
pub nobody_has : (B : Board) → Marks B → (s c : ℕ) → IsIdle (B.owes s) → is_free_for s (B.chains c).marked ≡ true → (B.chains c).marked ≡ None
nobody_has B mk s c idle free = by (B.chains c).marked refl free
  where
    by : (m : Option ℕ) → (B.chains c).marked ≡ m → is_free_for s m ≡ true → m ≡ None
    by None e f = refl
    by (Some x) e f =
        let g = mk.only s c (e ∙ ap {B = Option ℕ} (λ z. Some z) (same_number x s f)) in
        let h : true ≡ false = sym g ∙ idle.marks c in
        absurd (cc)

-- who owes nothing has nothing to count
pub nothing_counts : (B : Board) (s : ℕ) → (B.owes s).ops ≡ [] → to_count B s ≡ 0
nothing_counts B s none = ap (λ (os : List Op). (run os (work_of B (B.owes s))).answer) none

-- its entry on one chain that nobody has made busy: what it does there is done to the settled chain
module _ (B B' : Board) (mk : Marks B) (s : ℕ) (o' : Owing) (d : ℕ) (f : ChainState → ChainState) (keeps : (z : ChainState) → (f z).marked ≡ z.marked) (unmarked : (z : ChainState) → record (f z) { marked = None } ≡ f (record z { marked = None })) (ch : BoardChange B B' s o' d (f (B.chains d))) (free : (B.chains d).marked ≡ None) (idle : IsIdle (B.owes s)) (idle' : IsIdle o') where
  nobody : (x : ℕ) → x ≢ s → (B.chains d).marked ≢ Some x
  nobody x ne e = let g : None ≡ Some x = sym free ∙ e in cc

  nobody_after : (x : ℕ) → (f (B.chains d)).marked ≢ Some x
  nobody_after x e = let g : None ≡ Some x = sym free ∙ sym (keeps (B.chains d)) ∙ e in cc

  pub idle_marks : Marks B'
  idle_marks =
      marks_after B B' mk s o' d (f (B.chains d)) ch nobody (λ x ne. nobody_after x)
      ((λ e. absurd (let g : false ≡ true = sym (idle'.marks d) ∙ e in cc)), (λ e. absurd (nobody_after s e)))
      (λ c ne. idle'.marks c ∙ sym (idle.marks c)) (subst (EachAt (λ c. o'.marks c ≡ true)) (sym idle'.ops) tt)

  pub idle_settled : (c : ℕ) → settled B' c ≡ at_chain d f (settled B) c
  idle_settled = one_after B B' mk s o' d (f (B.chains d)) ch nobody f idle.marks free (keeps (B.chains d) ∙ free) (unmarked (B.chains d))

  pub idle_plain : AllPlain B → AllPlain B'
  idle_plain before = plain_after B B' s o' ch.now ch.others before (none_carried o'.carry idle'.carry)

  pub idle_told : AllTold B → AllTold B'
  idle_told before = told_after B B' mk s o' d (f (B.chains d)) ch nobody before (λ told e. absurd (let g : None ≡ Some told = sym idle'.told ∙ e in cc))

-- ---- its entry on no chain, where it owes nothing before: Word, Follow

module _ (B B' : Board) (mk : Marks B) (s : ℕ) (o' : Owing) (ch : OwesChange B B' s o') (nothing : (B.owes s).ops ≡ []) (same : (c : ℕ) → o'.marks c ≡ (B.owes s).marks c) (os : List Op) (owes : o'.ops ≡ os) (within : EachAt (λ c. o'.marks c ≡ true) os) where
  within' : EachAt (λ c. o'.marks c ≡ true) o'.ops
  within' = subst (EachAt (λ c. o'.marks c ≡ true)) (sym owes) within

  -- what is begun with
  abbrev pub begun : Work
  begun = record { chains = settled B; carry = o'.carry; answer = 0 }

  pub word_marks : Marks B'
  word_marks = owes_marks B B' mk s o' ch same within'

  pub word_settled : (c : ℕ) → settled B' c ≡ (run os begun).chains c
  word_settled c = word_after B B' mk s o' ch nothing same within' c ∙ ap (λ (ps : List Op). (run ps begun).chains c) owes

  pub word_counts : to_count B' s ≡ (run os begun).answer
  word_counts = word_count B B' mk s o' ch nothing same within' ∙ ap (λ (ps : List Op). (run ps begun).answer) owes

  pub word_told : AllTold B → ((told : Told) → o'.told ≡ Some told → (B.owes s).told ≡ Some told) → AllTold B'
  word_told before kept = owes_told B B' mk s o' ch before own
    where
      own : (told : Told) → o'.told ≡ Some told → StillTold B' s told
      own told e =
          let old = before s told (kept told e) in
          record {
            busy = ap (λ (o : Owing). o.marks (chain told.at)) ch.now ∙ same (chain told.at) ∙ old.busy;
            first = ap (λ (z : ChainState). pi_first_of told.at z.pi.waiters) (ch.chains (chain told.at)) ∙ old.first;
          }
