-- Busy and Finish: a mark begins, and a thread does the first part of what it owes; then the mark stays, or ends. What the chains
-- will be stays.
use Rattle.std.proofs.Common.{◌≡◌, ◌≢◌, ◌↔◌, ℕ, ◌+◌, Bool, true, false, not, Option, Some, None, List, [], ◌∷◌, ◌++◌, refl, sym, ap, ◌∙◌, ◌⊎◌, inl, inr, subst}
use Rattle.std.specs.Prelude.{slice_index_or}
use Rattle.std.proofs.lemmas.List.Elements.{All-map}
use Rattle.umtx_queue.specs.declared.waiter.Waiter.{Waiter}
use Rattle.umtx_queue.specs.Lists.{first_of}
use Rattle.umtx_queue.specs.Waiters.{is_plain_at, with_key}
use Rattle.umtx_queue.specs.Lines.{carried, Line}
use Rattle.umtx_queue.specs.PiLines.{pi_first_of}
use Rattle.umtx_queue.specs.Chains.{ChainState, is_free_for}
use Rattle.umtx_queue.proofs.NoteMaps.{same_number}
use Rattle.lx_machine.specs.declared.threads.LxWaiter.{LxWaiter}
use Rattle.lx_machine.specs.declared.threads.PiWaiter.{PiWaiter as LxPiWaiter}
use Rattle.places.specs.Places.{chain}
use Rattle.chains_stand.specs.Chains.{at_chain}
use Rattle.chains_stand.specs.Owed.{carry_after, chain_of_op, counted, done, EachAt, Enter, EnterPi, Hand, Join, Signal, Take, line_at, Op, run, run_op, Work}
use Rattle.chains_stand.specs.Board.{bare, Board, ChainsSound, ChainsStand, Marks, Owing, settled, StillTold, to_count, Told, work_of}
use Rattle.chains_stand.proofs.Lists.{all_pass, same_or_not}
use Rattle.chains_stand.proofs.Numbers.{at_other, at_same}
use Rattle.chains_stand.proofs.Moves.{plain_passes}
use Rattle.chains_stand.proofs.Changes.{bare_at, BoardChange, finish_after, finish_count, marks_after, pi_sleepers_same, sleepers_same, told_after}
use Rattle.chains_stand.proofs.Keeps.{IsPlain, none_carried, plain_after, same_sound, same_stands}
use Rattle.chains_stand.proofs.Runs.{each_weaker, run_apart, SameWork}
use Rattle.chains_stand.proofs.Settles.{Marked}

module _ (B B' : Board) (snd : ChainsSound B) (s : ℕ) (o' : Owing) (d : ℕ) (ch' : ChainState) (ch : BoardChange B B' s o' d ch') (free : (x : ℕ) → x ≢ s → (B.chains d).marked ≢ Some x) (sleeps : (p : ℕ) → o'.sleeps p ≡ (B.owes s).sleeps p) (lock : o'.lock ≡ (B.owes s).lock) where
  -- the marks afterwards: of this chain as it says, of others as before
  module _ (pre post : List Op) (before : (B.owes s).ops ≡ pre ++ post) (after : o'.ops ≡ post) (work : SameWork (work_of B' o') (run pre (work_of B (B.owes s)))) (unmarked : (B.chains d).marked ≡ None → record ch' { marked = None } ≡ bare B d) (marked : Marked s post d (B.chains d).marked ch'.marked) (marks : Marks B') (plain : IsPlain o'.carry) (told : (told : Told) → o'.told ≡ Some told → StillTold B' s told) where
    turn_settled : (c : ℕ) → settled B' c ≡ settled B c
    turn_settled = finish_after B B' snd.marks s o' d ch' ch free pre post before after work unmarked marked

    pub turn_sound : ChainsSound B'
    turn_sound =
        same_sound B B' turn_settled snd (sleepers_same B B' snd.marks s o' d ch' ch free sleeps) (pi_sleepers_same B B' snd.marks s o' d ch' ch free lock) marks
        (plain_after B B' s o' ch.now ch.others snd.plain plain)
        (told_after B B' snd.marks s o' d ch' ch free snd.told told)

    pub turn_stands : (tids : ℕ → ℕ) (q : List LxWaiter) (pq : List LxPiWaiter) → ChainsStand tids B q pq → ChainsStand tids B' q pq
    turn_stands = same_stands B B' turn_settled

    pub turn_counts : to_count B s ≡ (run pre (work_of B (B.owes s))).answer + to_count B' s
    turn_counts = finish_count B B' snd.marks s o' d ch' ch free pre post before after work

at_id : (d : ℕ) (V : ℕ → ChainState) (c : ℕ) → at_chain d (λ z. z) V c ≡ V c
at_id d V c = by (same_or_not d c)
  where
    by : (c ≡ d) ⊎ (c ≢ d) → at_chain d (λ z. z) V c ≡ V c
    by (inl e) = at_same d (λ z. z) V c e
    by (inr ne) = at_other d (λ z. z) V c ne

some_same : (x y : ℕ) → x ≡ y → ◌≡◌ {A = Option ℕ} (Some x) (Some y)
some_same x y e = ap {B = Option ℕ} (λ z. Some z) e

-- ---- Busy: the mark begins, or stands already, and nothing is owed

module _ (B B' : Board) (snd : ChainsSound B) (s : ℕ) (o' : Owing) (d : ℕ) (ch : BoardChange B B' s o' d (record (B.chains d) { marked = Some s })) (free : is_free_for s (B.chains d).marked ≡ true) (sleeps : (p : ℕ) → o'.sleeps p ≡ (B.owes s).sleeps p) (lock : o'.lock ≡ (B.owes s).lock) (nothing : (B.owes s).ops ≡ []) (nothing' : o'.ops ≡ []) (carry : o'.carry ≡ (B.owes s).carry) (here : o'.marks d ≡ true) (there : (c : ℕ) → c ≢ d → o'.marks c ≡ (B.owes s).marks c) (told : (told : Told) → o'.told ≡ Some told → (chain told.at ≡ d) × (pi_first_of told.at (B.chains d).pi.waiters ≡ told.first)) where
  abbrev ch' : ChainState
  ch' = record (B.chains d) { marked = Some s }

  nobody : (x : ℕ) → x ≢ s → (B.chains d).marked ≢ Some x
  nobody x ne e = ne (same_number x s (sym (ap (is_free_for s) e) ∙ free))

  marked : Marked s [] d (B.chains d).marked (Some s)
  marked = by (B.chains d).marked free
    where
      by : (m : Option ℕ) → is_free_for s m ≡ true → Marked s [] d m (Some s)
      by None e = inr (inr (refl, refl), tt)
      by (Some x) e = inl (some_same s x (sym (same_number x s e)))

  marks : Marks B'
  marks =
      marks_after B B' snd.marks s o' d ch' ch nobody (λ x ne e. ne (let f : s ≡ x = cc in sym f)) ((λ e. refl), (λ e. here)) there
      (subst (EachAt (λ c. o'.marks c ≡ true)) (sym nothing') tt)

  work : SameWork (work_of B' o') (run [] (work_of B (B.owes s)))
  work = record { chains = λ c. bare_at B B' snd.marks s o' d ch' ch nobody (λ z. z) refl c ∙ at_id d (bare B) c; carry = carry }

  was_told : (told : Told) → o'.told ≡ Some told → StillTold B' s told
  was_told t e =
      let r = told t e in
      record {
        busy = ap (λ (o : Owing). o.marks (chain t.at)) ch.now ∙ ap o'.marks r.0 ∙ here;
        first = ap (λ (c : ℕ). pi_first_of t.at (B'.chains c).pi.waiters) r.0 ∙ ap (λ (z : ChainState). pi_first_of t.at z.pi.waiters) ch.here ∙ r.1;
      }

  carries : IsPlain o'.carry
  carries = subst IsPlain (sym carry) (snd.plain s)

  pub busy_sound : ChainsSound B'
  busy_sound = turn_sound B B' snd s o' d ch' ch nobody sleeps lock [] [] nothing nothing' work (λ e. refl) marked marks carries was_told

  pub busy_stands : (tids : ℕ → ℕ) (q : List LxWaiter) (pq : List LxPiWaiter) → ChainsStand tids B q pq → ChainsStand tids B' q pq
  busy_stands = turn_stands B B' snd s o' d ch' ch nobody sleeps lock [] [] nothing nothing' work (λ e. refl) marked marks carries was_told

-- ---- what is done to one chain

pub record Here : Type 0 where
  pub chain : ChainState
  pub carry : List Waiter
  pub answer : ℕ

abbrev pub started : ChainState → List Waiter → Here
started ch ws = record { chain = ch; carry = ws; answer = 0 }

abbrev pub step_here : Op → Here → Here
step_here o h = record { chain = done o h.carry h.chain; carry = carry_after o h.carry h.chain.line; answer = h.answer + counted o h.chain.line }

abbrev pub run_here : List Op → Here → Here
run_here [] h = h
run_here (o ∷ os) h = run_here os (step_here o h)

-- a work, as one chain sees it
abbrev seen : ℕ → Work → Here
seen d w = record { chain = w.chains d; carry = w.carry; answer = w.answer }

record RunsHere (d : ℕ) (os : List Op) (w : Work) : Type 0 where
  here : (run os w).chains d ≡ (run_here os (seen d w)).chain
  carry : (run os w).carry ≡ (run_here os (seen d w)).carry
  answer : (run os w).answer ≡ (run_here os (seen d w)).answer

step_is : (d : ℕ) (o : Op) (w : Work) → chain_of_op o ≡ d → seen d (run_op o w) ≡ step_here o (seen d w)
step_is d o w e =
    ap {B = Here} (λ z. record { chain = z; carry = carry_after o w.carry (line_at o w); answer = w.answer + counted o (line_at o w) }) (at_same (chain_of_op o) (done o w.carry) w.chains d (sym e))
    ∙ ap {B = Here} (λ k. record { chain = done o w.carry (w.chains d); carry = carry_after o w.carry (w.chains k).line; answer = w.answer + counted o (w.chains k).line }) e

runs_here : (d : ℕ) (os : List Op) (w : Work) → EachAt (λ c. c ≡ d) os → RunsHere d os w
runs_here d [] w h = record { here = refl; carry = refl; answer = refl }
runs_here d (o ∷ os) w h =
    let r = runs_here d os (run_op o w) h.1 in
    let e = step_is d o w h.0 in
    record {
      here = r.here ∙ ap (λ (z : Here). (run_here os z).chain) e;
      carry = r.carry ∙ ap (λ (z : Here). (run_here os z).carry) e;
      answer = r.answer ∙ ap (λ (z : Here). (run_here os z).answer) e;
    }

-- who is carried is of plain waits still
carried_plain : (l : Line) (a n b : ℕ) → IsPlain (carried l a n b)
carried_plain l a n b =
    All-map (λ w. w.many ≡ false) (with_key b) (first_of (is_plain_at a) n l.waiters)
    (λ k d h. plain_passes a (slice_index_or (first_of (is_plain_at a) n l.waiters) k d) (all_pass (is_plain_at a) n l.waiters k d h))

after_plain : (o : Op) (ws : List Waiter) (l : Line) → IsPlain ws → IsPlain (carry_after o ws l)
after_plain (Signal a n bits) ws l h = h
after_plain (Take counts a n b) ws l h = carried_plain l a n b
after_plain (Join b) ws l h = none_carried [] refl
after_plain (Enter x) ws l h = h
after_plain (EnterPi x) ws l h = h
after_plain (Hand a) ws l h = h

here_plain : (os : List Op) (h : Here) → IsPlain h.carry → IsPlain (run_here os h).carry
here_plain [] h p = p
here_plain (o ∷ os) h p = here_plain os (step_here o h) (after_plain o h.carry h.chain.line p)

-- ---- Finish: the thread does the first things that it owes to its chain, or none; then its mark there stays, or ends where it owes
-- nothing more there. A Finish that does nothing is that of a refused call, and the last of a requeue between two chains

-- the mark of slot s afterwards, where it has to end or not
abbrev pub mark_left : ℕ → Bool → Option ℕ
mark_left s true = None
mark_left s false = Some s

module _ (B B' : Board) (snd : ChainsSound B) (s : ℕ) (o' : Owing) (d : ℕ) (left : ChainState) (ends : Bool) (mark : left.marked ≡ mark_left s ends) (ch : BoardChange B B' s o' d left) (own : (B.owes s).marks d ≡ true) (sleeps : (p : ℕ) → o'.sleeps p ≡ (B.owes s).sleeps p) (lock : o'.lock ≡ (B.owes s).lock) (here : o'.marks d ≡ not ends) (there : (c : ℕ) → c ≢ d → o'.marks c ≡ (B.owes s).marks c) (untold : o'.told ≡ None) where
  has_it : (B.chains d).marked ≡ Some s
  has_it = snd.marks.own s d own

  no_other : (x : ℕ) → x ≢ s → (B.chains d).marked ≢ Some x
  no_other x ne e = let f : Some s ≡ Some x = sym has_it ∙ e in ne (let g : s ≡ x = cc in sym g)

  no_other_after : (x : ℕ) → x ≢ s → left.marked ≢ Some x
  no_other_after x ne e = by ends (sym mark ∙ e)
    where
      by : (b : Bool) → mark_left s b ≢ Some x
      by true f = cc
      by false f = ne (let g : s ≡ x = cc in sym g)

  marks_here : (o'.marks d ≡ true) ↔ (left.marked ≡ Some s)
  marks_here = subst (λ (m : Option ℕ). (o'.marks d ≡ true) ↔ (m ≡ Some s)) (sym mark) (by ends here)
    where
      by : (b : Bool) → o'.marks d ≡ not b → (o'.marks d ≡ true) ↔ (mark_left s b ≡ Some s)
      by true e = ((λ f. absurd (let g : true ≡ false = sym f ∙ e in cc)), (λ f. absurd (cc)))
      by false e = ((λ f. refl), (λ f. e))

  module _ (post : List Op) (after : o'.ops ≡ post) (within : EachAt (λ c. o'.marks c ≡ true) post) where
    marks_left : Marks B'
    marks_left = marks_after B B' snd.marks s o' d left ch no_other no_other_after marks_here there (subst (EachAt (λ c. o'.marks c ≡ true)) (sym after) within)

    -- where the mark ends nothing more is owed there
    marked_left : Marked s post d (B.chains d).marked left.marked
    marked_left = subst (Marked s post d (B.chains d).marked) (sym mark) (by ends here)
      where
        apart : o'.marks d ≡ false → EachAt (λ c. d ≢ c) post
        apart none = each_weaker (λ c. o'.marks c ≡ true) (λ c. d ≢ c) post (λ c h e. (let g : true ≡ false = sym h ∙ ap o'.marks (sym e) ∙ none in cc)) within

        by : (b : Bool) → o'.marks d ≡ not b → Marked s post d (B.chains d).marked (mark_left s b)
        by true e = inr (inl (has_it, refl), apart e)
        by false e = inl (sym has_it)

    unmarked_left : (B.chains d).marked ≡ None → record left { marked = None } ≡ bare B d
    unmarked_left e = absurd (let f : None ≡ Some s = sym e ∙ has_it in cc)

    none_told : (told : Told) → o'.told ≡ Some told → StillTold B' s told
    none_told t e = absurd (let f : None ≡ Some t = sym untold ∙ e in cc)

    -- it does these, and the chain, the carry and its count are what they make of them
    module _ (pre : List Op) (before : (B.owes s).ops ≡ pre ++ post) (at : EachAt (λ c. c ≡ d) pre) (is : record left { marked = None } ≡ (run_here pre (started (bare B d) (B.owes s).carry)).chain) (carry : o'.carry ≡ (run_here pre (started (bare B d) (B.owes s).carry)).carry) where
      did : SameWork (work_of B' o') (run pre (work_of B (B.owes s)))
      did = record {
        chains = λ c. by c (same_or_not d c);
        carry = carry ∙ sym (runs_here d pre (work_of B (B.owes s)) at).carry;
      }
        where
          by : (c : ℕ) → (c ≡ d) ⊎ (c ≢ d) → bare B' c ≡ (run pre (work_of B (B.owes s))).chains c
          by c (inl e) =
              ap (λ (k : ℕ). record (B'.chains k) { marked = None }) e ∙ ap (λ (y : ChainState). record y { marked = None }) ch.here ∙ is
              ∙ sym (runs_here d pre (work_of B (B.owes s)) at).here ∙ ap (run pre (work_of B (B.owes s))).chains (sym e)
          by c (inr ne) =
              ap (λ (y : ChainState). record y { marked = None }) (ch.there c ne)
              ∙ sym (run_apart pre (work_of B (B.owes s)) c (each_weaker (λ k. k ≡ d) (λ k. c ≢ k) pre (λ k e f. ne (f ∙ e)) at))

      carries_still : IsPlain o'.carry
      carries_still = subst IsPlain (sym carry) (here_plain pre (started (bare B d) (B.owes s).carry) (snd.plain s))

      pub finish_sound : ChainsSound B'
      finish_sound = turn_sound B B' snd s o' d left ch no_other sleeps lock pre post before after did unmarked_left marked_left marks_left carries_still none_told

      pub finish_stands : (tids : ℕ → ℕ) (q : List LxWaiter) (pq : List LxPiWaiter) → ChainsStand tids B q pq → ChainsStand tids B' q pq
      finish_stands = turn_stands B B' snd s o' d left ch no_other sleeps lock pre post before after did unmarked_left marked_left marks_left carries_still none_told

      pub finish_counts : to_count B s ≡ (run_here pre (started (bare B d) (B.owes s).carry)).answer + to_count B' s
      finish_counts =
          turn_counts B B' snd s o' d left ch no_other sleeps lock pre post before after did unmarked_left marked_left marks_left carries_still none_told
          ∙ ap (λ (k : ℕ). k + to_count B' s) (runs_here d pre (work_of B (B.owes s)) at).answer
