-- The settled chains after an entry.
use Rattle.std.proofs.Common.{◌≡◌, ◌≢◌, ℕ, ◌+◌, Bool, true, false, Option, Some, None, List, [], ◌++◌, refl, sym, ap, ◌∙◌, arith, ◌⊎◌, inl, inr}
use Rattle.umtx_queue.specs.Chains.{ChainState}
use Rattle.chains_stand.specs.Chains.{at_chains}
use Rattle.chains_stand.specs.Owed.{EachAt, Op, run, Work}
use Rattle.chains_stand.specs.Board.{bare, Board, Marks, Owing, settle, settled, to_count, work_of}
use Rattle.chains_stand.proofs.Lists.{same_or_not}
use Rattle.chains_stand.proofs.Numbers.{in_others, in_these}
use Rattle.chains_stand.proofs.Runs.{Agree, each_weaker, run-append, run_answer, run_apart, run_local, SameWork}

owed_marked : (B : Board) (mk : Marks B) (x : ℕ) → EachAt (λ d. (B.chains d).marked ≡ Some x) (B.owes x).ops
owed_marked B mk x = each_weaker (λ d. (B.owes x).marks d ≡ true) (λ d. (B.chains d).marked ≡ Some x) (B.owes x).ops (λ c h. mk.own x c h) (mk.within x)

-- what another thread owes is the same
agree_other : (B B' : Board) (x : ℕ) → ((d : ℕ) → (B.chains d).marked ≡ Some x → bare B' d ≡ bare B d) → Agree (λ d. (B.chains d).marked ≡ Some x) (work_of B' (B.owes x)) (work_of B (B.owes x))
agree_other B B' x same = record { chains = same; carry = refl; answer = refl }

pub settle_other : (B B' : Board) (mk : Marks B) (x c : ℕ) → (B.chains c).marked ≡ Some x → B'.owes x ≡ B.owes x → ((d : ℕ) → (B.chains d).marked ≡ Some x → bare B' d ≡ bare B d) → settle B' c (Some x) ≡ settle B c (Some x)
settle_other B B' mk x c h thread same =
    ap (λ (t : Owing). (run t.ops (work_of B' t)).chains c) thread
    ∙ (run_local (λ d. (B.chains d).marked ≡ Some x) ((B.owes x).ops) (work_of B' (B.owes x)) (work_of B (B.owes x)) (owed_marked B mk x) (agree_other B B' x same)).chains c h

pub final_other : (B B' : Board) (mk : Marks B) (x : ℕ) → ((d : ℕ) → (B.chains d).marked ≡ Some x → bare B' d ≡ bare B d) → (run (B.owes x).ops (work_of B' (B.owes x))).answer ≡ to_count B x
final_other B B' mk x same = (run_local (λ d. (B.chains d).marked ≡ Some x) ((B.owes x).ops) (work_of B' (B.owes x)) (work_of B (B.owes x)) (owed_marked B mk x) (agree_other B B' x same)).answer

-- an entry of slot s leaves other threads, and the chains that others have made busy
pub record IsOwn (B B' : Board) (s : ℕ) : Type 0 where
  pub owes : (x : ℕ) → x ≢ s → B'.owes x ≡ B.owes x
  pub chains : (x : ℕ) → x ≢ s → (d : ℕ) → (B.chains d).marked ≡ Some x → bare B' d ≡ bare B d

-- the mark of a chain stays, or the entry's own mark ends or begins where nothing is owed
abbrev pub Marked : ℕ → List Op → ℕ → Option ℕ → Option ℕ → Type 0
Marked s owed c m m' = (m' ≡ m) ⊎ (((m ≡ Some s) × (m' ≡ None)) ⊎ ((m ≡ None) × (m' ≡ Some s))) × EachAt (λ d. c ≢ d) owed

post_same : (os : List Op) (c : ℕ) {w v : Work} → SameWork w v → (run os w).chains c ≡ (run os v).chains c
post_same os c {w} {v} e = (run_answer os w v e).0.chains c

module _ (B B' : Board) (mk : Marks B) (s : ℕ) (own : IsOwn B B' s) where
  -- Finish: the thread does the first part of what it owes, and the settled chains stay
  pub finish_settles : (pre post : List Op) → (B.owes s).ops ≡ pre ++ post → (B'.owes s).ops ≡ post → SameWork (work_of B' (B'.owes s)) (run pre (work_of B (B.owes s))) → ((c : ℕ) → (B.chains c).marked ≡ None → bare B' c ≡ bare B c) → ((c : ℕ) → Marked s post c (B.chains c).marked (B'.chains c).marked) → (c : ℕ) → settled B' c ≡ settled B c
  finish_settles pre post before after work free marked c = by (B.chains c).marked (B'.chains c).marked refl (marked c)
    where
      own_settled : settle B c (Some s) ≡ (run post (run pre (work_of B (B.owes s)))).chains c
      own_settled = ap (λ os. (run os (work_of B (B.owes s))).chains c) before ∙ ap (λ (w : Work). w.chains c) (run-append pre post (work_of B (B.owes s)))

      own_after : settle B' c (Some s) ≡ (run post (run pre (work_of B (B.owes s)))).chains c
      own_after = ap (λ os. (run os (work_of B' (B'.owes s))).chains c) after ∙ (post_same post c work)

      kept : (x : ℕ) → (B.chains c).marked ≡ Some x → (x ≡ s) ⊎ (x ≢ s) → settle B' c (Some x) ≡ settle B c (Some x)
      kept x h (inl e) = rw e (own_after ∙ sym own_settled)
      kept x h (inr ne) = settle_other B B' mk x c h (own.owes x ne) (own.chains x ne)

      by : (m m' : Option ℕ) → (B.chains c).marked ≡ m → Marked s post c m m' → settle B' c m' ≡ settle B c m
      by None m' h (inl e) = ap (settle B' c) e ∙ free c h
      by (Some x) m' h (inl e) = ap (settle B' c) e ∙ kept x h (same_or_not s x)
      by m m' h (inr (inl (e, f), apart)) =
          ap (settle B' c) f ∙ work.chains c ∙ sym (run_apart post (run pre (work_of B (B.owes s))) c apart) ∙ sym own_settled ∙ ap (settle B c) (sym e)
      by m m' h (inr (inr (e, f), apart)) =
          ap (settle B' c) f ∙ own_after ∙ run_apart post (run pre (work_of B (B.owes s))) c apart ∙ sym (work.chains c) ∙ free c (h ∙ e) ∙ ap (settle B c) (sym e)

  -- and what is counted and is to be counted is as much as was to be counted
  pub finish_counts : (pre post : List Op) → (B.owes s).ops ≡ pre ++ post → (B'.owes s).ops ≡ post → SameWork (work_of B' (B'.owes s)) (run pre (work_of B (B.owes s))) → to_count B s ≡ (run pre (work_of B (B.owes s))).answer + to_count B' s
  finish_counts pre post before after work =
      let a = ap (λ os. (run os (work_of B (B.owes s))).answer) before ∙ ap (λ (w : Work). w.answer) (run-append pre post (work_of B (B.owes s))) in
      let b = ap (λ os. (run os (work_of B' (B'.owes s))).answer) after in
      let d = (run_answer post (work_of B' (B'.owes s)) (run pre (work_of B (B.owes s))) work).1 (run pre (work_of B (B.owes s))).answer 0 (omega arith) in
      omega arith

  -- Word: what the thread owes from now on is done to the settled chains
  abbrev after_word : Work
  after_word = run ((B'.owes s).ops) (record { chains = settled B; carry = (B'.owes s).carry; answer = 0 })

  pub word_agrees : (B.owes s).ops ≡ [] → EachAt (λ d. (B.chains d).marked ≡ Some s) ((B'.owes s).ops) → ((c : ℕ) → bare B' c ≡ bare B c) → Agree (λ d. (B.chains d).marked ≡ Some s) (run ((B'.owes s).ops) (work_of B' (B'.owes s))) after_word
  word_agrees nothing within work =
      run_local (λ d. (B.chains d).marked ≡ Some s) ((B'.owes s).ops) (work_of B' (B'.owes s)) (record { chains = settled B; carry = (B'.owes s).carry; answer = 0 }) within (record { chains = λ c h. work c ∙ same c h; carry = refl; answer = refl })
    where
      same : (c : ℕ) → (B.chains c).marked ≡ Some s → bare B c ≡ settled B c
      same c h = ap (λ os. (run os (work_of B (B.owes s))).chains c) (sym nothing) ∙ ap (settle B c) (sym h)

  pub word_settles : (B.owes s).ops ≡ [] → EachAt (λ d. (B.chains d).marked ≡ Some s) ((B'.owes s).ops) → ((c : ℕ) → bare B' c ≡ bare B c) → ((c : ℕ) → (B'.chains c).marked ≡ (B.chains c).marked) → (c : ℕ) → settled B' c ≡ (after_word).chains c
  word_settles nothing within work marked c = ap (settle B' c) (marked c) ∙ by (B.chains c).marked refl
    where
      apart : (m : Option ℕ) → (B.chains c).marked ≡ m → m ≢ Some s → EachAt (λ d. c ≢ d) ((B'.owes s).ops)
      apart m h ne = each_weaker (λ d. (B.chains d).marked ≡ Some s) (λ d. c ≢ d) ((B'.owes s).ops) (λ d i e. ne (sym h ∙ ap (λ k. (B.chains k).marked) e ∙ i)) within

      kept : (m : Option ℕ) → (B.chains c).marked ≡ m → m ≢ Some s → settle B' c m ≡ settle B c m → settle B' c m ≡ (after_word).chains c
      kept m h ne e = e ∙ ap (settle B c) (sym h) ∙ sym (run_apart ((B'.owes s).ops) (record { chains = settled B; carry = (B'.owes s).carry; answer = 0 }) c (apart m h ne))

      some : (x : ℕ) → (B.chains c).marked ≡ Some x → (x ≡ s) ⊎ (x ≢ s) → settle B' c (Some x) ≡ (after_word).chains c
      some x h (inl e) = rw e ((word_agrees nothing within work).chains c (h ∙ ap {B = Option ℕ} (λ z. Some z) e))
      some x h (inr ne) = kept (Some x) h (λ e. ne (cc)) (settle_other B B' mk x c h (own.owes x ne) (own.chains x ne))

      by : (m : Option ℕ) → (B.chains c).marked ≡ m → settle B' c m ≡ (after_word).chains c
      by None h = kept None h (λ e. (cc)) (work c)
      by (Some x) h = some x h (same_or_not s x)

  -- an entry on chains that nobody has made busy
  pub free_settles : (among : ℕ → Bool) (f : ChainState → ChainState) → ((c : ℕ) → (B.chains c).marked ≢ Some s) → ((c : ℕ) → among c ≡ true → (B.chains c).marked ≡ None) → ((c : ℕ) → (B'.chains c).marked ≡ (B.chains c).marked) → ((c : ℕ) → bare B' c ≡ at_chains among f (bare B) c) → (c : ℕ) → settled B' c ≡ at_chains among f (settled B) c
  free_settles among f idle none marked chains c = ap (settle B' c) (marked c) ∙ by (B.chains c).marked refl (among c) refl
    where
      by : (m : Option ℕ) → (B.chains c).marked ≡ m → (b : Bool) → among c ≡ b → settle B' c m ≡ at_chains among f (settled B) c
      by None h true e = chains c ∙ in_these among f (bare B) c e ∙ ap (λ k. f (settle B c k)) (sym h) ∙ sym (in_these among f (settled B) c e)
      by None h false e = chains c ∙ in_others among f (bare B) c e ∙ ap (settle B c) (sym h) ∙ sym (in_others among f (settled B) c e)
      by (Some x) h true e = let i : None ≡ Some x = sym (none c e) ∙ h in absurd (cc)
      by (Some x) h false e =
          settle_other B B' mk x c h (own.owes x (λ e. idle c (h ∙ ap {B = Option ℕ} (λ z. Some z) e))) (own.chains x (λ e. idle c (h ∙ ap {B = Option ℕ} (λ z. Some z) e)))
          ∙ ap (settle B c) (sym h) ∙ sym (in_others among f (settled B) c e)
