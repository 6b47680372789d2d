-- Waits for locks: a wait queues, gets its lock, and ends; and the Linux machine's queue of them.
use Rattle.std.proofs.Common.{◌≡◌, ◌≢◌, ℕ, ◌<◌, Bool, true, false, not, ◌||◌, List, [], ◌∷◌, Option, Some, None, refl, sym, ap, ◌∙◌, arith, ◌⊎◌, inl, inr, subst, cond}
use Rattle.std.specs.Prelude.{slice_index_or}
use Rattle.std.specs.FinSet as set
use Rattle.std.specs.List.{All, filter, list_any}
use Rattle.std.proofs.lemmas.Grind.{common_steps}
use Rattle.std.proofs.lemmas.List.Elements.{All-push}
use Rattle.std.proofs.lemmas.List.Folds.{list_any-append, list_any_at}
use Rattle.umtx_queue.specs.declared.pi.PiWaiter.{PiWaiter}
use Rattle.umtx_queue.specs.declared.waiter.Looked.{Looked}
use Rattle.umtx_queue.specs.declared.waiter.Looked.TheVariants as looked
use Rattle.umtx_queue.specs.Lists.{first_of}
use Rattle.umtx_queue.specs.PiLines.{PiLine, pi_finds, pi_handed, pi_has_key, pi_is_of, pi_is_queued, pi_joined, pi_removed, ArePiWaiters}
use Rattle.umtx_queue.proofs.NoteMaps.{same_number}
use Rattle.umtx_queue.proofs.PiLaws.{pi_finds_after, stays_a_pi_line}
use Rattle.places.specs.Places.{chain}
use Rattle.chains_stand.specs.Chains.{at_chain}
use Rattle.chains_stand.specs.Notes.{IsEnd}
use Rattle.chains_stand.specs.Locks.{FitsPiSleeper, LocksLead, PiSleeper, sleeper_of}
use Rattle.chains_stand.proofs.Lists.{All-filter, All-without_first, any-filter, any-without_first, found_in, is_other, is_same, same_or_not}
use Rattle.chains_stand.proofs.Numbers.{at_other, at_same}
use Rattle.chains_stand.proofs.Ends.{queued_ends, SameBut}

-- the second lines after each of these
abbrev pub pi_join_at : (ℕ → PiLine) → PiWaiter → ℕ → PiLine
pi_join_at V w = at_chain (chain w.key) (λ l. pi_joined l w) V

abbrev pub hand_at : (ℕ → PiLine) → ℕ → ℕ → PiLine
hand_at V a = at_chain (chain a) (λ l. pi_handed l a) V

abbrev pub pi_remove_at : (ℕ → PiLine) → ℕ → ℕ → ℕ → PiLine
pi_remove_at V a s = at_chain (chain a) (λ l. pi_removed l s) V

-- ---- what a slot finds

pub pi_is_found : (line : PiLine) (s : ℕ) → pi_is_queued s line.waiters ≡ true → pi_finds line s ≡ Some looked.Queued
pi_is_found line s h = rw h refl

pub pi_found_is : (line : PiLine) (s : ℕ) → pi_is_queued s line.waiters ≡ false → pi_finds line s ≢ Some looked.Queued
pi_found_is line s h e = by (pi_woken_by line s) (sym (rest line s h) ∙ e)
  where
    pi_woken_by : PiLine → ℕ → Bool
    pi_woken_by l x = set.contains l.woken x

    rest : (l : PiLine) (x : ℕ) → pi_is_queued x l.waiters ≡ false → pi_finds l x ≡ cond (pi_woken_by l x) (Some looked.Woken) None
    rest l x k = rw k refl

    by : (b : Bool) → ◌≡◌ {A = Option Looked} (cond b (Some looked.Woken) None) (Some looked.Queued) → ⊥
    by true f = cc
    by false f = cc

pi_look_joins : (line : PiLine) (w : PiWaiter) → ArePiWaiters line.waiters → pi_finds (pi_joined line w) w.slot ≡ Some looked.Queued
pi_look_joins line w are = (pi_finds_after line w.slot are).joined w ∙ ap (λ b. cond b (Some looked.Queued) (pi_finds line w.slot)) (is_same w.slot w.slot refl)

pi_look_apart : (line : PiLine) (w : PiWaiter) (s : ℕ) → ArePiWaiters line.waiters → s ≢ w.slot → pi_finds (pi_joined line w) s ≡ pi_finds line s
pi_look_apart line w s are ne = (pi_finds_after line s are).joined w ∙ ap (λ b. cond b (Some looked.Queued) (pi_finds line s)) (is_other w.slot s (λ e. ne (sym e)))

pi_look_other : (line : PiLine) (s x : ℕ) → ArePiWaiters line.waiters → x ≢ s → pi_finds (pi_removed line s) x ≡ pi_finds line x
pi_look_other line s x are ne = (pi_finds_after line x are).removed s ∙ ap (λ b. cond b None (pi_finds line x)) (is_other s x (λ e. ne (sym e)))

-- ---- who waits

-- none of a slot is left where those of the slot leave
none-filter_not : {X : Type 0} (p : X → Bool) (xs : List X) → list_any p (filter (λ x. not (p x)) xs) ≡ false
none-filter_not p [] = refl
none-filter_not p (x ∷ xs) = let a = none-filter_not p xs in grind (arith, common_steps)

module _ (sleepers : ℕ → Option PiSleeper) (V : ℕ → PiLine) (st : LocksLead sleepers V) where
  -- a slot that waits for no lock stands in no second line
  pub pi_absent : (s c : ℕ) → sleepers s ≡ None → pi_is_queued s (V c).waiters ≡ false
  pi_absent s c none = by (pi_is_queued s (V c).waiters) refl
    where
      by : (b : Bool) → pi_is_queued s (V c).waiters ≡ b → b ≡ false
      by false e = refl
      by true e =
          let r = found_in (FitsPiSleeper sleepers) (pi_is_of s) (V c).waiters (st.fit c) e in
          let f : None ≡ Some (sleeper_of r.0) = sym none ∙ ap sleepers (sym (same_number r.0.slot s r.2)) ∙ r.1 in
          absurd (cc)

  -- and one that does stands nowhere but where it looks
  pub pi_only_here : (s : ℕ) (h : PiSleeper) (c : ℕ) → sleepers s ≡ Some h → pi_is_queued s (V c).waiters ≡ true → c ≡ chain h.at
  pi_only_here s h c hs q =
      let r = found_in (λ w. FitsPiSleeper sleepers w × (list_any (pi_has_key w.key) (V c).waiters ≡ true)) (pi_is_of s) (V c).waiters (λ k d l. (st.fit c k d l, list_any_at (pi_has_key (slice_index_or (V c).waiters k d).key) (V c).waiters k d l (is_same (slice_index_or (V c).waiters k d).key (slice_index_or (V c).waiters k d).key refl))) q in
      let f : Some (sleeper_of r.0) ≡ Some h = sym r.1.0 ∙ ap sleepers (same_number r.0.slot s r.2) ∙ hs in
      let g : sleeper_of r.0 ≡ h = cc in
      sym (st.keys c r.0.key r.1.1) ∙ ap (λ (z : PiSleeper). chain z.at) g

  -- it stands there exactly where it finds that it waits
  pub pi_queued_or_woken : (s : ℕ) (h : PiSleeper) → sleepers s ≡ Some h → (pi_finds (V (chain h.at)) s ≡ Some looked.Queued) ⊎ (pi_finds (V (chain h.at)) s ≡ Some looked.Woken)
  pi_queued_or_woken s h hs = by (pi_finds (V (chain h.at)) s) refl (st.waits s h hs)
    where
      by : (l : Option Looked) → pi_finds (V (chain h.at)) s ≡ l → IsEnd l → (l ≡ Some looked.Queued) ⊎ (l ≡ Some looked.Woken)
      by None e f = absurd f
      by (Some looked.Queued) e f = inl refl
      by (Some looked.Woken) e f = inr refl
      by (Some (looked.Moved k)) e f = absurd f

  pub pi_woken_nowhere : (s : ℕ) (h : PiSleeper) → sleepers s ≡ Some h → pi_finds (V (chain h.at)) s ≡ Some looked.Woken → (c : ℕ) → pi_is_queued s (V c).waiters ≡ false
  pi_woken_nowhere s h hs woken c = by (pi_is_queued s (V c).waiters) refl
    where
      by : (b : Bool) → pi_is_queued s (V c).waiters ≡ b → b ≡ false
      by false e = refl
      by true e =
          let f = pi_only_here s h c hs e in
          let g : Some looked.Woken ≡ Some looked.Queued = sym woken ∙ ap (λ (d : ℕ). pi_finds (V d) s) (sym f) ∙ pi_is_found (V c) s e in
          absurd (cc)

  fits_others : (sleepers' : ℕ → Option PiSleeper) (s : ℕ) → SameBut s sleepers sleepers' → (ws : List PiWaiter) → pi_is_queued s ws ≡ false → All (FitsPiSleeper sleepers) ws → All (FitsPiSleeper sleepers') ws
  fits_others sleepers' s same ws none fit k d l = by (slice_index_or ws k d) (λ e. list_any_at (pi_is_of s) ws k d l (is_same (slice_index_or ws k d).slot s e)) (fit k d l)
    where
      by : (w : PiWaiter) → (w.slot ≡ s → pi_is_queued s ws ≡ true) → FitsPiSleeper sleepers w → FitsPiSleeper sleepers' w
      by w there fits = same w.slot (λ e. (let f : true ≡ false = sym (there e) ∙ none in cc)) ∙ fits

-- ---- a wait queues

module _ (sleepers sleepers' : ℕ → Option PiSleeper) (V : ℕ → PiLine) (st : LocksLead sleepers V) (w : PiWaiter) where
  pi_here : (c : ℕ) → c ≡ chain w.key → pi_join_at V w c ≡ pi_joined (V c) w
  pi_here c e = at_same (chain w.key) (λ l. pi_joined l w) V c e

  pi_other : (c : ℕ) → c ≢ chain w.key → pi_join_at V w c ≡ V c
  pi_other c ne = at_other (chain w.key) (λ l. pi_joined l w) V c ne

  pub pi_insert_leads : w.slot < 128 → sleepers w.slot ≡ None → sleepers' w.slot ≡ Some (sleeper_of w) → SameBut w.slot sleepers sleepers' → LocksLead sleepers' (pi_join_at V w)
  pi_insert_leads low before now same = record {
    keys = λ c a e. keys_by c a e (same_or_not (chain w.key) c);
    waiters = λ c. waiters_by c (same_or_not (chain w.key) c);
    fit = λ c. fit_by c (same_or_not (chain w.key) c);
    waits = λ s h e. waits_by s h e (same_or_not w.slot s);
  }
    where
      keys_by : (c a : ℕ) → list_any (pi_has_key a) (pi_join_at V w c).waiters ≡ true → (c ≡ chain w.key) ⊎ (c ≢ chain w.key) → chain a ≡ c
      keys_by c a e (inr ne) = st.keys c a (ap (λ (l : PiLine). list_any (pi_has_key a) l.waiters) (sym (pi_other c ne)) ∙ e)
      keys_by c a e (inl f) = split (list_any (pi_has_key a) (V c).waiters) (pi_has_key a w) refl refl (sym (list_any-append (pi_has_key a) (V c).waiters (w ∷ [])) ∙ ap (λ (l : PiLine). list_any (pi_has_key a) l.waiters) (sym (pi_here c f)) ∙ e)
        where
          split : (p q : Bool) → list_any (pi_has_key a) (V c).waiters ≡ p → pi_has_key a w ≡ q → (p || (q || false)) ≡ true → chain a ≡ c
          split true q g i j = st.keys c a g
          split false true g i j = ap chain (sym (same_number w.key a i)) ∙ sym f
          split false false g i j = absurd (cc)

      waiters_by : (c : ℕ) → (c ≡ chain w.key) ⊎ (c ≢ chain w.key) → ArePiWaiters (pi_join_at V w c).waiters
      waiters_by c (inl f) = subst (λ (l : PiLine). ArePiWaiters l.waiters) (sym (pi_here c f)) ((stays_a_pi_line (V c) (st.waiters c)).joined w low (pi_absent sleepers V st w.slot c before))
      waiters_by c (inr ne) = subst (λ (l : PiLine). ArePiWaiters l.waiters) (sym (pi_other c ne)) (st.waiters c)

      fits_still : (c : ℕ) → All (FitsPiSleeper sleepers') (V c).waiters
      fits_still c = fits_others sleepers V st sleepers' w.slot same (V c).waiters (pi_absent sleepers V st w.slot c before) (st.fit c)

      fit_by : (c : ℕ) → (c ≡ chain w.key) ⊎ (c ≢ chain w.key) → All (FitsPiSleeper sleepers') (pi_join_at V w c).waiters
      fit_by c (inl f) = subst (λ (l : PiLine). All (FitsPiSleeper sleepers') l.waiters) (sym (pi_here c f)) (All-push (FitsPiSleeper sleepers') (V c).waiters w (fits_still c) now)
      fit_by c (inr ne) = subst (λ (l : PiLine). All (FitsPiSleeper sleepers') l.waiters) (sym (pi_other c ne)) (fits_still c)

      finds_still : (s c : ℕ) → s ≢ w.slot → (c ≡ chain w.key) ⊎ (c ≢ chain w.key) → pi_finds (pi_join_at V w c) s ≡ pi_finds (V c) s
      finds_still s c ne (inl f) = ap (λ (l : PiLine). pi_finds l s) (pi_here c f) ∙ pi_look_apart (V c) w s (st.waiters c) ne
      finds_still s c ne (inr g) = ap (λ (l : PiLine). pi_finds l s) (pi_other c g)

      waits_by : (s : ℕ) (h : PiSleeper) → sleepers' s ≡ Some h → (s ≡ w.slot) ⊎ (s ≢ w.slot) → IsEnd (pi_finds (pi_join_at V w (chain h.at)) s)
      waits_by s h e (inr ne) = subst IsEnd (sym (finds_still s (chain h.at) ne (same_or_not (chain w.key) (chain h.at)))) (st.waits s h (sym (same s ne) ∙ e))
      waits_by s h e (inl f) =
          let j : Some (sleeper_of w) ≡ Some h = sym now ∙ sym (ap sleepers' f) ∙ e in
          let is : sleeper_of w ≡ h = cc in
          let own : pi_finds (pi_join_at V w (chain w.key)) w.slot ≡ Some looked.Queued = ap (λ (l : PiLine). pi_finds l w.slot) (pi_here (chain w.key) refl) ∙ pi_look_joins (V (chain w.key)) w (st.waiters (chain w.key)) in
          subst (λ (z : PiSleeper). IsEnd (pi_finds (pi_join_at V w (chain z.at)) s)) is (queued_ends (pi_finds (pi_join_at V w (chain w.key)) s) (ap (λ (y : ℕ). pi_finds (pi_join_at V w (chain w.key)) y) f ∙ own))

-- ---- a lock is handed over

module _ (sleepers : ℕ → Option PiSleeper) (V : ℕ → PiLine) (st : LocksLead sleepers V) (a : ℕ) where
  hand_here : (c : ℕ) → c ≡ chain a → hand_at V a c ≡ pi_handed (V c) a
  hand_here c e = at_same (chain a) (λ l. pi_handed l a) V c e

  hand_other : (c : ℕ) → c ≢ chain a → hand_at V a c ≡ V c
  hand_other c ne = at_other (chain a) (λ l. pi_handed l a) V c ne

  pub hand_leads : LocksLead sleepers (hand_at V a)
  hand_leads = record {
    keys = λ c x e. keys_by c x e (same_or_not (chain a) c);
    waiters = λ c. waiters_by c (same_or_not (chain a) c);
    fit = λ c. fit_by c (same_or_not (chain a) c);
    waits = λ s h e. waits_by s h e (same_or_not (chain a) (chain h.at));
  }
    where
      keys_by : (c x : ℕ) → list_any (pi_has_key x) (hand_at V a c).waiters ≡ true → (c ≡ chain a) ⊎ (c ≢ chain a) → chain x ≡ c
      keys_by c x e (inl f) = st.keys c x (any-without_first (pi_has_key a) (pi_has_key x) 1 (V c).waiters (ap (λ (l : PiLine). list_any (pi_has_key x) l.waiters) (sym (hand_here c f)) ∙ e))
      keys_by c x e (inr ne) = st.keys c x (ap (λ (l : PiLine). list_any (pi_has_key x) l.waiters) (sym (hand_other c ne)) ∙ e)

      waiters_by : (c : ℕ) → (c ≡ chain a) ⊎ (c ≢ chain a) → ArePiWaiters (hand_at V a c).waiters
      waiters_by c (inl f) = subst (λ (l : PiLine). ArePiWaiters l.waiters) (sym (hand_here c f)) ((stays_a_pi_line (V c) (st.waiters c)).handed a)
      waiters_by c (inr ne) = subst (λ (l : PiLine). ArePiWaiters l.waiters) (sym (hand_other c ne)) (st.waiters c)

      fit_by : (c : ℕ) → (c ≡ chain a) ⊎ (c ≢ chain a) → All (FitsPiSleeper sleepers) (hand_at V a c).waiters
      fit_by c (inl f) = subst (λ (l : PiLine). All (FitsPiSleeper sleepers) l.waiters) (sym (hand_here c f)) (All-without_first (FitsPiSleeper sleepers) (pi_has_key a) 1 (V c).waiters (st.fit c))
      fit_by c (inr ne) = subst (λ (l : PiLine). All (FitsPiSleeper sleepers) l.waiters) (sym (hand_other c ne)) (st.fit c)

      found : (s c : ℕ) (b : Bool) → IsEnd (pi_finds (V c) s) → IsEnd (cond b (Some looked.Woken) (pi_finds (V c) s))
      found s c true e = tt
      found s c false e = e

      waits_by : (s : ℕ) (h : PiSleeper) → sleepers s ≡ Some h → (chain h.at ≡ chain a) ⊎ (chain h.at ≢ chain a) → IsEnd (pi_finds (hand_at V a (chain h.at)) s)
      waits_by s h e (inl f) =
          subst IsEnd (sym (ap (λ (l : PiLine). pi_finds l s) (hand_here (chain h.at) f) ∙ (pi_finds_after (V (chain h.at)) s (st.waiters (chain h.at))).handed a))
          (found s (chain h.at) (pi_is_queued s (first_of (pi_has_key a) 1 (V (chain h.at)).waiters)) (st.waits s h e))
      waits_by s h e (inr ne) = subst IsEnd (sym (ap (λ (l : PiLine). pi_finds l s) (hand_other (chain h.at) ne))) (st.waits s h e)

-- ---- a wait ends

module _ (sleepers sleepers' : ℕ → Option PiSleeper) (V : ℕ → PiLine) (st : LocksLead sleepers V) (s : ℕ) (h : PiSleeper) (hs : sleepers s ≡ Some h) where
  gone_here : (c : ℕ) → c ≡ chain h.at → pi_remove_at V h.at s c ≡ pi_removed (V c) s
  gone_here c e = at_same (chain h.at) (λ l. pi_removed l s) V c e

  gone_other : (c : ℕ) → c ≢ chain h.at → pi_remove_at V h.at s c ≡ V c
  gone_other c ne = at_other (chain h.at) (λ l. pi_removed l s) V c ne

  pub absent_elsewhere : (c : ℕ) → c ≢ chain h.at → pi_is_queued s (V c).waiters ≡ false
  absent_elsewhere c ne = by (pi_is_queued s (V c).waiters) refl
    where
      by : (b : Bool) → pi_is_queued s (V c).waiters ≡ b → b ≡ false
      by false e = refl
      by true e = absurd (ne (pi_only_here sleepers V st s h c hs e))

  pub pi_leave_leads : sleepers' s ≡ None → SameBut s sleepers sleepers' → LocksLead sleepers' (pi_remove_at V h.at s)
  pi_leave_leads now same = record {
    keys = λ c x e. keys_by c x e (same_or_not (chain h.at) c);
    waiters = λ c. waiters_by c (same_or_not (chain h.at) c);
    fit = λ c. fit_by c (same_or_not (chain h.at) c);
    waits = λ x g e. waits_by x g e (same_or_not s x) (same_or_not (chain h.at) (chain g.at));
  }
    where
      keys_by : (c x : ℕ) → list_any (pi_has_key x) (pi_remove_at V h.at s c).waiters ≡ true → (c ≡ chain h.at) ⊎ (c ≢ chain h.at) → chain x ≡ c
      keys_by c x e (inl f) = st.keys c x (any-filter (pi_has_key x) (λ w. not (pi_is_of s w)) (V c).waiters (ap (λ (l : PiLine). list_any (pi_has_key x) l.waiters) (sym (gone_here c f)) ∙ e))
      keys_by c x e (inr ne) = st.keys c x (ap (λ (l : PiLine). list_any (pi_has_key x) l.waiters) (sym (gone_other c ne)) ∙ e)

      waiters_by : (c : ℕ) → (c ≡ chain h.at) ⊎ (c ≢ chain h.at) → ArePiWaiters (pi_remove_at V h.at s c).waiters
      waiters_by c (inl f) = subst (λ (l : PiLine). ArePiWaiters l.waiters) (sym (gone_here c f)) ((stays_a_pi_line (V c) (st.waiters c)).removed s)
      waiters_by c (inr ne) = subst (λ (l : PiLine). ArePiWaiters l.waiters) (sym (gone_other c ne)) (st.waiters c)

      fit_by : (c : ℕ) → (c ≡ chain h.at) ⊎ (c ≢ chain h.at) → All (FitsPiSleeper sleepers') (pi_remove_at V h.at s c).waiters
      fit_by c (inl f) =
          subst (λ (l : PiLine). All (FitsPiSleeper sleepers') l.waiters) (sym (gone_here c f))
          (fits_others sleepers V st sleepers' s same (filter (λ w. not (pi_is_of s w)) (V c).waiters) (none-filter_not (pi_is_of s) (V c).waiters) (All-filter (FitsPiSleeper sleepers) (λ w. not (pi_is_of s w)) (V c).waiters (st.fit c)))
      fit_by c (inr ne) = subst (λ (l : PiLine). All (FitsPiSleeper sleepers') l.waiters) (sym (gone_other c ne)) (fits_others sleepers V st sleepers' s same (V c).waiters (absent_elsewhere c ne) (st.fit c))

      waits_by : (x : ℕ) (g : PiSleeper) → sleepers' x ≡ Some g → (x ≡ s) ⊎ (x ≢ s) → (chain g.at ≡ chain h.at) ⊎ (chain g.at ≢ chain h.at) → IsEnd (pi_finds (pi_remove_at V h.at s (chain g.at)) x)
      waits_by x g e (inl f) i = absurd (let j : None ≡ Some g = sym now ∙ sym (ap sleepers' f) ∙ e in cc)
      waits_by x g e (inr ne) (inl i) = subst IsEnd (sym (ap (λ (l : PiLine). pi_finds l x) (gone_here (chain g.at) i) ∙ pi_look_other (V (chain g.at)) s x (st.waiters (chain g.at)) ne)) (st.waits x g (sym (same x ne) ∙ e))
      waits_by x g e (inr ne) (inr i) = subst IsEnd (sym (ap (λ (l : PiLine). pi_finds l x) (gone_other (chain g.at) i))) (st.waits x g (sym (same x ne) ∙ e))
