-- What an entry on its thread and on chains leaves to show of the board.
use Rattle.std.proofs.Common.{◌≡◌, ◌≢◌, ◌↔◌, ℕ, ◌+◌, ◌<◌, Bool, true, false, Option, Some, None, List, [], ◌++◌, refl, sym, ap, ◌∙◌, ◌⊎◌, inl, inr, subst}
use Rattle.std.specs.Prelude.{◌==◌}
use Rattle.std.proofs.Math.Path.{fun_ext}
use Rattle.umtx_queue.specs.Waiters.{slot_of, who_at}
use Rattle.umtx_queue.specs.Lines.{Line}
use Rattle.umtx_queue.specs.PiLines.{pi_first_of}
use Rattle.umtx_queue.specs.Chains.{ChainState}
use Rattle.umtx_queue.proofs.NoteMaps.{same_number, slot_is}
use Rattle.places.specs.Places.{chain}
use Rattle.chains_stand.specs.Chains.{at_chain, at_chains, on_line}
use Rattle.chains_stand.specs.Owed.{EachAt, Op, run, Work}
use Rattle.chains_stand.specs.Board.{bare, Board, Marks, Owing, pi_sleepers_of, place_of, settled, sleepers_of, StillTold, to_count, Told, work_of}
use Rattle.chains_stand.proofs.Lists.{same_or_not}
use Rattle.chains_stand.proofs.Numbers.{at_other, at_same, in_others, in_these, number_is, place_is}
use Rattle.chains_stand.proofs.Ends.{SameBut}
use Rattle.chains_stand.proofs.Leaves.{SameButSlot}
use Rattle.chains_stand.proofs.Runs.{each_weaker, SameWork}
use Rattle.chains_stand.proofs.Settles.{final_other, finish_counts, finish_settles, free_settles, IsOwn, Marked, word_agrees, word_settles}

-- ---- the sleepers, where another slot's Owing stays

sleeps_other : (B B' : Board) (s : ℕ) → ((x : ℕ) → x ≢ s → B'.owes x ≡ B.owes x) → SameButSlot s (sleepers_of B) (sleepers_of B')
sleeps_other B B' s others i ne = ap (λ (o : Owing). o.sleeps (place_of i)) (others (slot_of i) ne)

sleeps_own : (B B' : Board) (s : ℕ) (o' : Owing) → B'.owes s ≡ o' → (i : ℕ) → slot_of i ≡ s → sleepers_of B' i ≡ o'.sleeps (place_of i)
sleeps_own B B' s o' now i e = ap (λ (x : ℕ). (B'.owes x).sleeps (place_of i)) e ∙ ap (λ (o : Owing). o.sleeps (place_of i)) now

-- one place begins or ends its wait, or looks elsewhere
sleeps_but : (B B' : Board) (s : ℕ) (o' : Owing) → B'.owes s ≡ o' → ((x : ℕ) → x ≢ s → B'.owes x ≡ B.owes x) → (place : ℕ) → ((p : ℕ) → p ≢ place → o'.sleeps p ≡ (B.owes s).sleeps p) → SameBut (who_at s place) (sleepers_of B) (sleepers_of B')
sleeps_but B B' s o' now others place rest i ne = by (same_or_not s (slot_of i))
  where
    by : (slot_of i ≡ s) ⊎ (slot_of i ≢ s) → sleepers_of B' i ≡ sleepers_of B i
    by (inr f) = sleeps_other B B' s others i f
    by (inl e) =
        sleeps_own B B' s o' now i e ∙ rest (place_of i) (λ f. ne (sym (number_is i) ∙ ap (λ (x : ℕ). who_at x (place_of i)) e ∙ ap (who_at s) f))
        ∙ sym (ap (λ (x : ℕ). (B.owes x).sleeps (place_of i)) e)

sleeps_now : (B B' : Board) (s : ℕ) (o' : Owing) → B'.owes s ≡ o' → (place : ℕ) → place < 256 → sleepers_of B' (who_at s place) ≡ o'.sleeps place
sleeps_now B B' s o' now place small = sleeps_own B B' s o' now (who_at s place) (slot_is s place small) ∙ ap o'.sleeps (place_is s place small)

sleeps_same : (B B' : Board) (s : ℕ) (o' : Owing) → B'.owes s ≡ o' → ((x : ℕ) → x ≢ s → B'.owes x ≡ B.owes x) → ((p : ℕ) → o'.sleeps p ≡ (B.owes s).sleeps p) → (i : ℕ) → sleepers_of B' i ≡ sleepers_of B i
sleeps_same B B' s o' now others same i = by (same_or_not s (slot_of i))
  where
    by : (slot_of i ≡ s) ⊎ (slot_of i ≢ s) → sleepers_of B' i ≡ sleepers_of B i
    by (inr f) = sleeps_other B B' s others i f
    by (inl e) = sleeps_own B B' s o' now i e ∙ same (place_of i) ∙ sym (ap (λ (x : ℕ). (B.owes x).sleeps (place_of i)) e)

locks_same : (B B' : Board) (s : ℕ) (o' : Owing) → B'.owes s ≡ o' → ((x : ℕ) → x ≢ s → B'.owes x ≡ B.owes x) → o'.lock ≡ (B.owes s).lock → (x : ℕ) → pi_sleepers_of B' x ≡ pi_sleepers_of B x
locks_same B B' s o' now others same x = by (same_or_not s x)
  where
    by : (x ≡ s) ⊎ (x ≢ s) → pi_sleepers_of B' x ≡ pi_sleepers_of B x
    by (inl e) = ap (λ (y : ℕ). (B'.owes y).lock) e ∙ ap (λ (o : Owing). o.lock) now ∙ same ∙ sym (ap (λ (y : ℕ). (B.owes y).lock) e)
    by (inr ne) = ap (λ (o : Owing). o.lock) (others x ne)

-- ---- an entry on its thread and one chain

-- the thread's own part, and one chain
pub record BoardChange (B B' : Board) (s : ℕ) (o' : Owing) (d : ℕ) (ch' : ChainState) : Type 0 where
  pub now : B'.owes s ≡ o'
  pub others : (x : ℕ) → x ≢ s → B'.owes x ≡ B.owes x
  pub here : B'.chains d ≡ ch'
  pub there : (c : ℕ) → c ≢ d → B'.chains c ≡ B.chains c

module _ (B B' : Board) (mk : Marks B) (s : ℕ) (o' : Owing) (d : ℕ) (ch' : ChainState) (ch : BoardChange B B' s o' d ch') (free : (x : ℕ) → x ≢ s → (B.chains d).marked ≢ Some x) where
  pub is_own : IsOwn B B' s
  is_own = record {
    owes = ch.others;
    chains = λ x ne c h. ap (λ (z : ChainState). record z { marked = None }) (ch.there c (λ e. free x ne (ap (λ k. (B.chains k).marked) (sym e) ∙ h)));
  }

  pub others_count : (x : ℕ) → x ≢ s → to_count B' x ≡ to_count B x
  others_count x ne = ap (λ (o : Owing). (run o.ops (work_of B' o)).answer) (ch.others x ne) ∙ final_other B B' mk x (is_own.chains x ne)

  pub others_sleep : SameButSlot s (sleepers_of B) (sleepers_of B')
  others_sleep = sleeps_other B B' s ch.others

  pub sleepers_but : (place : ℕ) → ((p : ℕ) → p ≢ place → o'.sleeps p ≡ (B.owes s).sleeps p) → SameBut (who_at s place) (sleepers_of B) (sleepers_of B')
  sleepers_but = sleeps_but B B' s o' ch.now ch.others

  pub now_sleeps : (place : ℕ) → place < 256 → sleepers_of B' (who_at s place) ≡ o'.sleeps place
  now_sleeps = sleeps_now B B' s o' ch.now

  pub own_sleeps : (i : ℕ) → slot_of i ≡ s → sleepers_of B' i ≡ o'.sleeps (place_of i)
  own_sleeps = sleeps_own B B' s o' ch.now

  pub sleepers_same : ((p : ℕ) → o'.sleeps p ≡ (B.owes s).sleeps p) → (i : ℕ) → sleepers_of B' i ≡ sleepers_of B i
  sleepers_same = sleeps_same B B' s o' ch.now ch.others

  pub pi_others_sleep : SameBut s (pi_sleepers_of B) (pi_sleepers_of B')
  pi_others_sleep x ne = ap (λ (o : Owing). o.lock) (ch.others x ne)

  pub pi_now_sleeps : pi_sleepers_of B' s ≡ o'.lock
  pi_now_sleeps = ap (λ (o : Owing). o.lock) ch.now

  pub pi_sleepers_same : o'.lock ≡ (B.owes s).lock → (x : ℕ) → pi_sleepers_of B' x ≡ pi_sleepers_of B x
  pi_sleepers_same = locks_same B B' s o' ch.now ch.others

  pub marks_after : ((x : ℕ) → x ≢ s → ch'.marked ≢ Some x) → (o'.marks d ≡ true) ↔ (ch'.marked ≡ Some s) → ((c : ℕ) → c ≢ d → o'.marks c ≡ (B.owes s).marks c) → EachAt (λ c. o'.marks c ≡ true) o'.ops → Marks B'
  marks_after after here there within = record {
    own = λ x c h. own_by x c h (same_or_not s x) (same_or_not d c);
    only = λ x c h. only_by x c h (same_or_not s x) (same_or_not d c);
    within = λ x. within_by x (same_or_not s x);
  }
    where
      mine : (x c : ℕ) → x ≡ s → (B'.owes x).marks c ≡ o'.marks c
      mine x c e = ap (λ (y : ℕ). (B'.owes y).marks c) e ∙ ap (λ (o : Owing). o.marks c) ch.now

      own_by : (x c : ℕ) → (B'.owes x).marks c ≡ true → (x ≡ s) ⊎ (x ≢ s) → (c ≡ d) ⊎ (c ≢ d) → (B'.chains c).marked ≡ Some x
      own_by x c h (inl e) (inl f) =
          let g : o'.marks d ≡ true = ap o'.marks (sym f) ∙ sym (mine x c e) ∙ h in
          ap (λ (k : ℕ). (B'.chains k).marked) f ∙ ap (λ (z : ChainState). z.marked) ch.here ∙ here.0 g ∙ ap {B = Option ℕ} (λ z. Some z) (sym e)
      own_by x c h (inl e) (inr ne) =
          ap (λ (z : ChainState). z.marked) (ch.there c ne) ∙ mk.own s c (sym (there c ne) ∙ sym (mine x c e) ∙ h) ∙ ap {B = Option ℕ} (λ z. Some z) (sym e)
      own_by x c h (inr ne) f =
          let g : (B.chains c).marked ≡ Some x = mk.own x c (ap (λ (o : Owing). o.marks c) (sym (ch.others x ne)) ∙ h) in
          ap (λ (z : ChainState). z.marked) (ch.there c (λ e. free x ne (ap (λ k. (B.chains k).marked) (sym e) ∙ g))) ∙ g

      only_by : (x c : ℕ) → (B'.chains c).marked ≡ Some x → (x ≡ s) ⊎ (x ≢ s) → (c ≡ d) ⊎ (c ≢ d) → (B'.owes x).marks c ≡ true
      only_by x c h (inl e) (inl f) =
          let g : ch'.marked ≡ Some s = ap (λ (z : ChainState). z.marked) (sym ch.here) ∙ ap (λ (k : ℕ). (B'.chains k).marked) (sym f) ∙ h ∙ ap {B = Option ℕ} (λ z. Some z) e in
          mine x c e ∙ ap o'.marks f ∙ here.1 g
      only_by x c h (inl e) (inr ne) =
          let g : (B.chains c).marked ≡ Some s = ap (λ (z : ChainState). z.marked) (sym (ch.there c ne)) ∙ h ∙ ap {B = Option ℕ} (λ z. Some z) e in
          mine x c e ∙ there c ne ∙ mk.only s c g
      only_by x c h (inr ne) (inl f) = absurd (after x ne (ap (λ (z : ChainState). z.marked) (sym ch.here) ∙ ap (λ (k : ℕ). (B'.chains k).marked) (sym f) ∙ h))
      only_by x c h (inr ne) (inr nf) = ap (λ (o : Owing). o.marks c) (ch.others x ne) ∙ mk.only x c (ap (λ (z : ChainState). z.marked) (sym (ch.there c nf)) ∙ h)

      within_by : (x : ℕ) → (x ≡ s) ⊎ (x ≢ s) → EachAt (λ c. (B'.owes x).marks c ≡ true) (B'.owes x).ops
      within_by x (inl e) = subst (λ (o : Owing). EachAt (λ c. o.marks c ≡ true) o.ops) (sym (ap (λ (y : ℕ). B'.owes y) e ∙ ch.now)) within
      within_by x (inr ne) = subst (λ (o : Owing). EachAt (λ c. o.marks c ≡ true) o.ops) (sym (ch.others x ne)) (mk.within x)

  -- what others were told is so still, and so what this one was told, if it is so
  pub told_after : ((x : ℕ) (told : Told) → (B.owes x).told ≡ Some told → StillTold B x told) → ((told : Told) → o'.told ≡ Some told → StillTold B' s told) → (x : ℕ) (told : Told) → (B'.owes x).told ≡ Some told → StillTold B' x told
  told_after before own x told e = by (same_or_not s x)
    where
      other : x ≢ s → StillTold B x told → StillTold B' x told
      other ne old = record {
        busy = ap (λ (o : Owing). o.marks (chain told.at)) (ch.others x ne) ∙ old.busy;
        first = ap (λ (z : ChainState). pi_first_of told.at z.pi.waiters) (ch.there (chain told.at) (λ f. free x ne (ap (λ k. (B.chains k).marked) (sym f) ∙ mk.own x (chain told.at) old.busy))) ∙ old.first;
      }

      by : (x ≡ s) ⊎ (x ≢ s) → StillTold B' x told
      by (inl f) = subst (λ (y : ℕ). StillTold B' y told) (sym f) (own told (sym (ap (λ (o : Owing). o.told) ch.now) ∙ ap (λ (y : ℕ). (B'.owes y).told) (sym f) ∙ e))
      by (inr ne) = other ne (before x told (sym (ap (λ (o : Owing). o.told) (ch.others x ne)) ∙ e))

  -- the chains without marks
  pub bare_at : (f : ChainState → ChainState) → record ch' { marked = None } ≡ f (bare B d) → (c : ℕ) → bare B' c ≡ at_chain d f (bare B) c
  bare_at f is c = by (same_or_not d c)
    where
      by : (c ≡ d) ⊎ (c ≢ d) → bare B' c ≡ at_chain d f (bare B) c
      by (inl e) = ap (λ (k : ℕ). bare B' k) e ∙ ap (λ (z : ChainState). record z { marked = None }) ch.here ∙ is ∙ sym (at_same d f (bare B) c e ∙ ap (λ (k : ℕ). f (bare B k)) e)
      by (inr ne) = ap (λ (z : ChainState). record z { marked = None }) (ch.there c ne) ∙ sym (at_other d f (bare B) c ne)

  work_now : (w : Work) → SameWork (work_of B' o') w → SameWork (work_of B' (B'.owes s)) w
  work_now w h = subst (λ (o : Owing). SameWork (work_of B' o) w) (sym ch.now) h

  -- Busy and Finish: the settled chains stay. The mark of the chain stays, or ends where nothing more is owed there, or begins
  pub finish_after : (pre post : List Op) → (B.owes s).ops ≡ pre ++ post → o'.ops ≡ post → SameWork (work_of B' o') (run pre (work_of B (B.owes s))) → ((B.chains d).marked ≡ None → record ch' { marked = None } ≡ bare B d) → Marked s post d (B.chains d).marked ch'.marked → (c : ℕ) → settled B' c ≡ settled B c
  finish_after pre post before after work unmarked marked =
      finish_settles B B' mk s is_own pre post before (ap (λ (o : Owing). o.ops) ch.now ∙ after) (work_now (run pre (work_of B (B.owes s))) work) (λ c h. by_free c h (same_or_not d c)) (λ c. by_marked c (same_or_not d c))
    where
      by_free : (c : ℕ) → (B.chains c).marked ≡ None → (c ≡ d) ⊎ (c ≢ d) → bare B' c ≡ bare B c
      by_free c h (inl e) = ap (λ (k : ℕ). bare B' k) e ∙ ap (λ (z : ChainState). record z { marked = None }) ch.here ∙ unmarked (ap (λ (k : ℕ). (B.chains k).marked) (sym e) ∙ h) ∙ sym (ap (λ (k : ℕ). bare B k) e)
      by_free c h (inr ne) = ap (λ (z : ChainState). record z { marked = None }) (ch.there c ne)

      by_marked : (c : ℕ) → (c ≡ d) ⊎ (c ≢ d) → Marked s post c (B.chains c).marked (B'.chains c).marked
      by_marked c (inl e) = rw e (subst (λ (z : ChainState). Marked s post d (B.chains d).marked z.marked) (sym ch.here) marked)
      by_marked c (inr ne) = inl (ap (λ (z : ChainState). z.marked) (ch.there c ne))

  pub finish_count : (pre post : List Op) → (B.owes s).ops ≡ pre ++ post → o'.ops ≡ post → SameWork (work_of B' o') (run pre (work_of B (B.owes s))) → to_count B s ≡ (run pre (work_of B (B.owes s))).answer + to_count B' s
  finish_count pre post before after work = finish_counts B B' mk s is_own pre post before (ap (λ (o : Owing). o.ops) ch.now ∙ after) (work_now (run pre (work_of B (B.owes s))) work)

  -- an entry of a thread that has made no chain busy, on one that nobody has: Release, Sleep
  pub one_after : (f : ChainState → ChainState) → ((c : ℕ) → (B.owes s).marks c ≡ false) → (B.chains d).marked ≡ None → ch'.marked ≡ None → record ch' { marked = None } ≡ f (bare B d) → (c : ℕ) → settled B' c ≡ at_chain d f (settled B) c
  one_after f idle none unmarked is =
      free_settles B B' mk s is_own (λ k. k == d) f (λ c e. (let g = mk.only s c e in let h = idle c in let i : true ≡ false = sym g ∙ h in cc)) (λ c e. ap (λ k. (B.chains k).marked) (same_number c d e) ∙ none) (λ c. by c (same_or_not d c)) (bare_at f is)
    where
      by : (c : ℕ) → (c ≡ d) ⊎ (c ≢ d) → (B'.chains c).marked ≡ (B.chains c).marked
      by c (inl e) = ap (λ (k : ℕ). (B'.chains k).marked) e ∙ ap (λ (z : ChainState). z.marked) ch.here ∙ unmarked ∙ sym none ∙ sym (ap (λ (k : ℕ). (B.chains k).marked) e)
      by c (inr ne) = ap (λ (z : ChainState). z.marked) (ch.there c ne)

-- ---- an entry on its thread alone, whose chains stay: Word, and every entry of any other kind

pub record OwesChange (B B' : Board) (s : ℕ) (o' : Owing) : Type 0 where
  pub now : B'.owes s ≡ o'
  pub others : (x : ℕ) → x ≢ s → B'.owes x ≡ B.owes x
  pub chains : (c : ℕ) → B'.chains c ≡ B.chains c

-- nothing of it changes
pub same_board : (B B' : Board) → ((x : ℕ) → B'.owes x ≡ B.owes x) → ((c : ℕ) → B'.chains c ≡ B.chains c) → B' ≡ B
same_board B B' owes chains =
    ap {A = ℕ → Owing} {B = Board} (λ o. record { owes = o; chains = B'.chains }) (fun_ext owes)
    ∙ ap {A = ℕ → ChainState} {B = Board} (λ z. record { owes = B.owes; chains = z }) (fun_ext chains)

pub board_same : (B B' : Board) (s : ℕ) → OwesChange B B' s (B.owes s) → B' ≡ B
board_same B B' s ch = same_board B B' (λ x. by x (same_or_not s x)) ch.chains
  where
    by : (x : ℕ) → (x ≡ s) ⊎ (x ≢ s) → B'.owes x ≡ B.owes x
    by x (inl e) = rw e ch.now
    by x (inr ne) = ch.others x ne

-- where the one chain is as before
pub owes_alone : (B B' : Board) (s : ℕ) (o' : Owing) (d : ℕ) → BoardChange B B' s o' d (B.chains d) → OwesChange B B' s o'
owes_alone B B' s o' d ch = record { now = ch.now; others = ch.others; chains = λ c. by c (same_or_not d c) }
  where
    by : (c : ℕ) → (c ≡ d) ⊎ (c ≢ d) → B'.chains c ≡ B.chains c
    by c (inl e) = rw e ch.here
    by c (inr ne) = ch.there c ne

module _ (B B' : Board) (mk : Marks B) (s : ℕ) (o' : Owing) (ch : OwesChange B B' s o') where
  owes_own : IsOwn B B' s
  owes_own = record { owes = ch.others; chains = λ x ne c h. ap (λ (z : ChainState). record z { marked = None }) (ch.chains c) }

  pub owes_others_count : (x : ℕ) → x ≢ s → to_count B' x ≡ to_count B x
  owes_others_count x ne = ap (λ (o : Owing). (run o.ops (work_of B' o)).answer) (ch.others x ne) ∙ final_other B B' mk x (owes_own.chains x ne)

  pub owes_sleepers_but : (place : ℕ) → ((p : ℕ) → p ≢ place → o'.sleeps p ≡ (B.owes s).sleeps p) → SameBut (who_at s place) (sleepers_of B) (sleepers_of B')
  owes_sleepers_but = sleeps_but B B' s o' ch.now ch.others

  pub owes_now_sleeps : (place : ℕ) → place < 256 → sleepers_of B' (who_at s place) ≡ o'.sleeps place
  owes_now_sleeps = sleeps_now B B' s o' ch.now

  pub owes_sleepers_same : ((p : ℕ) → o'.sleeps p ≡ (B.owes s).sleeps p) → (i : ℕ) → sleepers_of B' i ≡ sleepers_of B i
  owes_sleepers_same = sleeps_same B B' s o' ch.now ch.others

  pub owes_pi_others_sleep : SameBut s (pi_sleepers_of B) (pi_sleepers_of B')
  owes_pi_others_sleep x ne = ap (λ (o : Owing). o.lock) (ch.others x ne)

  pub owes_pi_now_sleeps : pi_sleepers_of B' s ≡ o'.lock
  owes_pi_now_sleeps = ap (λ (o : Owing). o.lock) ch.now

  pub owes_pi_sleepers_same : o'.lock ≡ (B.owes s).lock → (x : ℕ) → pi_sleepers_of B' x ≡ pi_sleepers_of B x
  owes_pi_sleepers_same = locks_same B B' s o' ch.now ch.others

  -- the marks of a thread stay
  pub owes_marks : ((c : ℕ) → o'.marks c ≡ (B.owes s).marks c) → EachAt (λ c. o'.marks c ≡ true) o'.ops → Marks B'
  owes_marks same within = record {
    own = λ x c h. ap (λ (z : ChainState). z.marked) (ch.chains c) ∙ mk.own x c (sym (each x c) ∙ h);
    only = λ x c h. each x c ∙ mk.only x c (ap (λ (z : ChainState). z.marked) (sym (ch.chains c)) ∙ h);
    within = λ x. within_by x (same_or_not s x);
  }
    where
      each_by : (x c : ℕ) → (x ≡ s) ⊎ (x ≢ s) → (B'.owes x).marks c ≡ (B.owes x).marks c
      each_by x c (inl e) = ap (λ (y : ℕ). (B'.owes y).marks c) e ∙ ap (λ (o : Owing). o.marks c) ch.now ∙ same c ∙ sym (ap (λ (y : ℕ). (B.owes y).marks c) e)
      each_by x c (inr ne) = ap (λ (o : Owing). o.marks c) (ch.others x ne)

      each : (x c : ℕ) → (B'.owes x).marks c ≡ (B.owes x).marks c
      each x c = each_by x c (same_or_not s x)

      within_by : (x : ℕ) → (x ≡ s) ⊎ (x ≢ s) → EachAt (λ c. (B'.owes x).marks c ≡ true) (B'.owes x).ops
      within_by x (inl e) = subst (λ (o : Owing). EachAt (λ c. o.marks c ≡ true) o.ops) (sym (ap (λ (y : ℕ). B'.owes y) e ∙ ch.now)) within
      within_by x (inr ne) = subst (λ (o : Owing). EachAt (λ c. o.marks c ≡ true) o.ops) (sym (ch.others x ne)) (mk.within x)

  -- what others were told is so still, and so what this one was told, if it is so
  pub owes_told : ((x : ℕ) (told : Told) → (B.owes x).told ≡ Some told → StillTold B x told) → ((told : Told) → o'.told ≡ Some told → StillTold B' s told) → (x : ℕ) (told : Told) → (B'.owes x).told ≡ Some told → StillTold B' x told
  owes_told before own x told e = by (same_or_not s x)
    where
      other : x ≢ s → StillTold B x told → StillTold B' x told
      other ne old = record {
        busy = ap (λ (o : Owing). o.marks (chain told.at)) (ch.others x ne) ∙ old.busy;
        first = ap (λ (z : ChainState). pi_first_of told.at z.pi.waiters) (ch.chains (chain told.at)) ∙ old.first;
      }

      by : (x ≡ s) ⊎ (x ≢ s) → StillTold B' x told
      by (inl f) = subst (λ (y : ℕ). StillTold B' y told) (sym f) (own told (sym (ap (λ (o : Owing). o.told) ch.now) ∙ ap (λ (y : ℕ). (B'.owes y).told) (sym f) ∙ e))
      by (inr ne) = other ne (before x told (sym (ap (λ (o : Owing). o.told) (ch.others x ne)) ∙ e))

  -- Word: what the thread owes from now on is done to the settled chains
  module _ (nothing : (B.owes s).ops ≡ []) (same : (c : ℕ) → o'.marks c ≡ (B.owes s).marks c) (within : EachAt (λ c. o'.marks c ≡ true) o'.ops) where
    marked_now : EachAt (λ c. (B.chains c).marked ≡ Some s) (B'.owes s).ops
    marked_now = subst (λ (o : Owing). EachAt (λ c. (B.chains c).marked ≡ Some s) o.ops) (sym ch.now) (each_weaker (λ c. o'.marks c ≡ true) (λ c. (B.chains c).marked ≡ Some s) o'.ops (λ c h. mk.own s c (sym (same c) ∙ h)) within)

    bare_same : (c : ℕ) → bare B' c ≡ bare B c
    bare_same c = ap (λ (z : ChainState). record z { marked = None }) (ch.chains c)

    pub word_after : (c : ℕ) → settled B' c ≡ (run o'.ops (record { chains = settled B; carry = o'.carry; answer = 0 })).chains c
    word_after c = word_settles B B' mk s owes_own nothing marked_now bare_same (λ c. ap (λ (z : ChainState). z.marked) (ch.chains c)) c ∙ ap (λ (o : Owing). (run o.ops (record { chains = settled B; carry = o.carry; answer = 0 })).chains c) ch.now

    pub word_count : to_count B' s ≡ (run o'.ops (record { chains = settled B; carry = o'.carry; answer = 0 })).answer
    word_count = (word_agrees B B' mk s owes_own nothing marked_now bare_same).answer ∙ ap (λ (o : Owing). (run o.ops (record { chains = settled B; carry = o.carry; answer = 0 })).answer) ch.now

-- ---- an entry on its thread and several chains that nobody has made busy: Sleep of a wait in many places

pub record ManyChange (B B' : Board) (s : ℕ) (o' : Owing) (among : ℕ → Bool) (f : Line → Line) : Type 0 where
  pub now : B'.owes s ≡ o'
  pub others : (x : ℕ) → x ≢ s → B'.owes x ≡ B.owes x
  pub here : (c : ℕ) → among c ≡ true → B'.chains c ≡ on_line f (B.chains c)
  pub there : (c : ℕ) → among c ≡ false → B'.chains c ≡ B.chains c
  pub free : (c : ℕ) → among c ≡ true → (B.chains c).marked ≡ None

module _ (B B' : Board) (mk : Marks B) (s : ℕ) (o' : Owing) (among : ℕ → Bool) (f : Line → Line) (ch : ManyChange B B' s o' among f) where
  many_stay : (c : ℕ) (m : Option ℕ) → (B.chains c).marked ≡ m → (b : Bool) → among c ≡ b → (B'.chains c).marked ≡ m
  many_stay c m h true e = ap (λ (z : ChainState). z.marked) (ch.here c e) ∙ h
  many_stay c m h false e = ap (λ (z : ChainState). z.marked) (ch.there c e) ∙ h

  pub many_marked : (c : ℕ) → (B'.chains c).marked ≡ (B.chains c).marked
  many_marked c = many_stay c (B.chains c).marked refl (among c) refl

  many_bare : (c : ℕ) → bare B' c ≡ at_chains among (on_line f) (bare B) c
  many_bare c = by (among c) refl
    where
      by : (b : Bool) → among c ≡ b → bare B' c ≡ at_chains among (on_line f) (bare B) c
      by true e = ap (λ (z : ChainState). record z { marked = None }) (ch.here c e) ∙ sym (in_these among (on_line f) (bare B) c e)
      by false e = ap (λ (z : ChainState). record z { marked = None }) (ch.there c e) ∙ sym (in_others among (on_line f) (bare B) c e)

  -- a chain that another has made busy isn't among them
  not_among : (x c : ℕ) → (B.chains c).marked ≡ Some x → among c ≡ false
  not_among x c h = by (among c) refl
    where
      by : (b : Bool) → among c ≡ b → b ≡ false
      by false e = refl
      by true e = let i : None ≡ Some x = sym (ch.free c e) ∙ h in absurd (cc)

  many_own : IsOwn B B' s
  many_own = record {
    owes = ch.others;
    chains = λ x ne c h. ap (λ (z : ChainState). record z { marked = None }) (ch.there c (not_among x c h));
  }

  pub many_others_count : (x : ℕ) → x ≢ s → to_count B' x ≡ to_count B x
  many_others_count x ne = ap (λ (o : Owing). (run o.ops (work_of B' o)).answer) (ch.others x ne) ∙ final_other B B' mk x (many_own.chains x ne)

  pub many_others_sleep : SameButSlot s (sleepers_of B) (sleepers_of B')
  many_others_sleep = sleeps_other B B' s ch.others

  pub many_own_sleeps : (i : ℕ) → slot_of i ≡ s → sleepers_of B' i ≡ o'.sleeps (place_of i)
  many_own_sleeps = sleeps_own B B' s o' ch.now

  pub many_pi_sleepers_same : o'.lock ≡ (B.owes s).lock → (x : ℕ) → pi_sleepers_of B' x ≡ pi_sleepers_of B x
  many_pi_sleepers_same = locks_same B B' s o' ch.now ch.others

  -- the thread owes nothing and has made no chain busy, before and after
  pub many_marks : ((c : ℕ) → o'.marks c ≡ (B.owes s).marks c) → EachAt (λ c. o'.marks c ≡ true) o'.ops → Marks B'
  many_marks same within = record {
    own = λ x c h. many_marked c ∙ mk.own x c (sym (each_by x c (same_or_not s x)) ∙ h);
    only = λ x c h. each_by x c (same_or_not s x) ∙ mk.only x c (sym (many_marked c) ∙ h);
    within = λ x. within_by x (same_or_not s x);
  }
    where
      each_by : (x c : ℕ) → (x ≡ s) ⊎ (x ≢ s) → (B'.owes x).marks c ≡ (B.owes x).marks c
      each_by x c (inl e) = ap (λ (y : ℕ). (B'.owes y).marks c) e ∙ ap (λ (o : Owing). o.marks c) ch.now ∙ same c ∙ sym (ap (λ (y : ℕ). (B.owes y).marks c) e)
      each_by x c (inr ne) = ap (λ (o : Owing). o.marks c) (ch.others x ne)

      within_by : (x : ℕ) → (x ≡ s) ⊎ (x ≢ s) → EachAt (λ c. (B'.owes x).marks c ≡ true) (B'.owes x).ops
      within_by x (inl e) = subst (λ (o : Owing). EachAt (λ c. o.marks c ≡ true) o.ops) (sym (ap (λ (y : ℕ). B'.owes y) e ∙ ch.now)) within
      within_by x (inr ne) = subst (λ (o : Owing). EachAt (λ c. o.marks c ≡ true) o.ops) (sym (ch.others x ne)) (mk.within x)

  pub many_after : ((c : ℕ) → (B.owes s).marks c ≡ false) → (c : ℕ) → settled B' c ≡ at_chains among (on_line f) (settled B) c
  many_after idle = free_settles B B' mk s many_own among (on_line f) (λ c e. (let g = mk.only s c e in let h = idle c in let i : true ≡ false = sym g ∙ h in cc)) ch.free many_marked many_bare

  pub many_told : ((x : ℕ) (told : Told) → (B.owes x).told ≡ Some told → StillTold B x told) → o'.told ≡ None → (x : ℕ) (told : Told) → (B'.owes x).told ≡ Some told → StillTold B' x told
  many_told before none x told e = by (same_or_not s x)
    where
      other : x ≢ s → StillTold B x told → StillTold B' x told
      other ne old = record {
        busy = ap (λ (o : Owing). o.marks (chain told.at)) (ch.others x ne) ∙ old.busy;
        first = ap (λ (z : ChainState). pi_first_of told.at z.pi.waiters) (ch.there (chain told.at) (not_among x (chain told.at) (mk.own x (chain told.at) old.busy))) ∙ old.first;
      }

      by : (x ≡ s) ⊎ (x ≢ s) → StillTold B' x told
      by (inl f) = let i : None ≡ Some told = sym none ∙ sym (ap (λ (o : Owing). o.told) ch.now) ∙ ap (λ (y : ℕ). (B'.owes y).told) (sym f) ∙ e in absurd (cc)
      by (inr ne) = other ne (before x told (sym (ap (λ (o : Owing). o.told) (ch.others x ne)) ∙ e))
