-- A place of a wait queues.
use Rattle.std.proofs.Common.{◌≡◌, ◌≢◌, ℕ, Bool, true, false, ◌||◌, List, [], ◌∷◌, ◌++◌, map, Option, Some, None, refl, sym, ap, ◌∙◌, arith, ◌⊎◌, inl, inr, subst}
use Rattle.std.specs.Prelude.{slice_index_or}
use Rattle.std.specs.List.{All, filter, list_any}
use Rattle.std.proofs.lemmas.Grind.{common_steps}
use Rattle.std.proofs.lemmas.List.{append-nil, map-append}
use Rattle.std.proofs.lemmas.List.Elements.{All-push, filter-append}
use Rattle.std.proofs.lemmas.List.Folds.{list_any-append, list_any_at}
use Rattle.umtx_queue.specs.declared.waiter.Waiter.{Waiter}
use Rattle.umtx_queue.specs.declared.waiter.Looked.TheVariants as looked
use Rattle.umtx_queue.specs.Waiters.{has_key, is_of, is_queued, who, AreWaiters, IsWaiter}
use Rattle.umtx_queue.specs.Lines.{Line, finds, joined}
use Rattle.umtx_queue.proofs.LineLaws.{stays_a_line}
use Rattle.lx_machine.specs.declared.threads.LxWaiter.{LxWaiter}
use Rattle.places.specs.Places.{chain}
use Rattle.chains_stand.specs.Notes.{finds_in, FitsSleeper, IsAwaited, IsWaiterOf, NotesLead, Sleeper, Waits}
use Rattle.chains_stand.specs.Queues.{has_address, linux_waiter, QueueStands}
use Rattle.chains_stand.proofs.Lists.{is_other, is_same, same_or_not}
use Rattle.chains_stand.proofs.Numbers.{at_other, at_same}
use Rattle.chains_stand.proofs.Looks.{is_found, look_apart, look_joins}
use Rattle.chains_stand.proofs.Cuts.{filter-shown}
use Rattle.chains_stand.proofs.Ends.{awaited_kept, no_sleeper, queued_ends, waits_kept, SameBut}
use Rattle.chains_stand.proofs.Releases.{same_address}
use Rattle.chains_stand.proofs.Moves.{join_at}

-- the place of a wait for which a waiter stands, where it has queued just now
abbrev pub new_sleeper : Waiter → Sleeper
new_sleeper w = record { at = w.key; many = w.many }

only_key : (a : ℕ) (w : Waiter) → list_any (has_key a) (w ∷ []) ≡ true → a ≡ w.key
only_key a w h = grind (arith, common_steps)

none_apart : (a : ℕ) (w : Waiter) → a ≢ w.key → filter (has_key a) (w ∷ []) ≡ []
none_apart a w ne = grind (arith, common_steps)

own_number : (w : Waiter) → is_queued (who w) (w ∷ []) ≡ true
own_number w = let e = is_same (who w) (who w) refl in grind (arith, common_steps)

other_number : (i : ℕ) (w : Waiter) → i ≢ who w → is_queued i (w ∷ []) ≡ false
other_number i w ne = let e = is_other (who w) i (λ e. ne (sym e)) in grind (arith, common_steps)

module _ (sleepers sleepers' : ℕ → Option Sleeper) (V : ℕ → Line) (st : NotesLead sleepers V) (w : Waiter) where
  abbrev V' : ℕ → Line
  V' = join_at V w.key (w ∷ [])

  here : (c : ℕ) → c ≡ chain w.key → V' c ≡ joined (V c) (w ∷ [])
  here c e = at_same (chain w.key) (λ l. joined l (w ∷ [])) V c e

  other : (c : ℕ) → c ≢ chain w.key → V' c ≡ V c
  other c ne = at_other (chain w.key) (λ l. joined l (w ∷ [])) V c ne

  finds_same : (x : ℕ) → x ≢ who w → (c : ℕ) → finds_in V' x c ≡ finds_in V x c
  finds_same x ne c = by (same_or_not (chain w.key) c)
    where
      by : (c ≡ chain w.key) ⊎ (c ≢ chain w.key) → finds_in V' x c ≡ finds_in V x c
      by (inl e) = ap (λ (l : Line). finds l x) (here c e) ∙ look_apart (V c) (w ∷ []) x (st.waiters c) (other_number x w ne)
      by (inr f) = ap (λ (l : Line). finds l x) (other c f)

  finds_own : finds_in V' (who w) (chain w.key) ≡ Some looked.Queued
  finds_own = ap (λ (l : Line). finds l (who w)) (here (chain w.key) refl) ∙ look_joins (V (chain w.key)) (w ∷ []) (who w) (st.waiters (chain w.key)) (own_number w)

  pub insert_leads : IsWaiter w → sleepers (who w) ≡ None → sleepers' (who w) ≡ Some (new_sleeper w) → SameBut (who w) sleepers sleepers' → NotesLead sleepers' (join_at V w.key (w ∷ []))
  insert_leads is before now same = record {
    keys = λ c a e. keys_by c a e (same_or_not (chain w.key) c);
    waiters = λ c. waiters_by c (same_or_not (chain w.key) c);
    fit = λ c. fit_by c (same_or_not (chain w.key) c);
    awaited = λ c x e. awaited_by c x e (same_or_not (who w) x) (same_or_not (chain w.key) c);
    waits = λ x hx e. waits_by x hx e (same_or_not (who w) x);
  }
    where
      nowhere : (c : ℕ) → finds_in V (who w) c ≢ Some looked.Queued
      nowhere c e = no_sleeper sleepers V st (who w) before c e

      absent_by : (c : ℕ) (b : Bool) → is_queued (who w) (V c).waiters ≡ b → b ≡ false
      absent_by c false e = refl
      absent_by c true e = absurd (nowhere c (is_found (V c) (who w) e))

      absent : (c : ℕ) → is_queued (who w) (V c).waiters ≡ false
      absent c = absent_by c (is_queued (who w) (V c).waiters) refl

      keys_by : (c a : ℕ) → list_any (has_key a) (V' c).waiters ≡ true → (c ≡ chain w.key) ⊎ (c ≢ chain w.key) → chain a ≡ c
      keys_by c a e (inl f) = split (list_any (has_key a) (V c).waiters) (list_any (has_key a) (w ∷ [])) refl refl (sym (list_any-append (has_key a) (V c).waiters (w ∷ [])) ∙ ap (λ (l : Line). list_any (has_key a) l.waiters) (sym (here c f)) ∙ e)
        where
          split : (p q : Bool) → list_any (has_key a) (V c).waiters ≡ p → list_any (has_key a) (w ∷ []) ≡ q → (p || q) ≡ true → chain a ≡ c
          split true q g i j = st.keys c a g
          split false true g i j = ap chain (only_key a w i) ∙ sym f
          split false false g i j = absurd (cc)
      keys_by c a e (inr ne) = st.keys c a (ap (λ (l : Line). list_any (has_key a) l.waiters) (sym (other c ne)) ∙ e)

      waiters_by : (c : ℕ) → (c ≡ chain w.key) ⊎ (c ≢ chain w.key) → AreWaiters (V' c).waiters
      waiters_by c (inl f) = subst (λ (l : Line). AreWaiters l.waiters) (sym (here c f)) ((stays_a_line (V c) (st.waiters c)).inserted w is (absent c))
      waiters_by c (inr ne) = subst (λ (l : Line). AreWaiters l.waiters) (sym (other c ne)) (st.waiters c)

      still : (c : ℕ) (x : Waiter) → (who x ≡ who w → is_queued (who w) (V c).waiters ≡ true) → FitsSleeper sleepers x → FitsSleeper sleepers' x
      still c x there fits h hs = by (same_or_not (who w) (who x))
        where
          by : (who x ≡ who w) ⊎ (who x ≢ who w) → IsWaiterOf h x
          by (inl e) = absurd (let f : true ≡ false = sym (there e) ∙ absent c in cc)
          by (inr ne) = fits h (sym (same (who x) ne) ∙ hs)

      fits_still : (c : ℕ) → All (FitsSleeper sleepers') (V c).waiters
      fits_still c k d l =
          still c (slice_index_or (V c).waiters k d)
          (λ e. list_any_at (is_of (who w)) (V c).waiters k d l (is_same (who (slice_index_or (V c).waiters k d)) (who w) e)) (st.fit c k d l)

      own_fit : FitsSleeper sleepers' w
      own_fit h hs = subst (λ (g : Sleeper). IsWaiterOf g w) (let j : Some (new_sleeper w) ≡ Some h = sym now ∙ hs in let k : new_sleeper w ≡ h = cc in k) (record { many = refl; own = λ many. refl })

      fit_by : (c : ℕ) → (c ≡ chain w.key) ⊎ (c ≢ chain w.key) → All (FitsSleeper sleepers') (V' c).waiters
      fit_by c (inl f) = subst (λ (l : Line). All (FitsSleeper sleepers') l.waiters) (sym (here c f)) (All-push (FitsSleeper sleepers') (V c).waiters w (fits_still c) own_fit)
      fit_by c (inr ne) = subst (λ (l : Line). All (FitsSleeper sleepers') l.waiters) (sym (other c ne)) (fits_still c)

      awaited_by : (c x : ℕ) → finds_in V' x c ≡ Some looked.Queued → (x ≡ who w) ⊎ (x ≢ who w) → (c ≡ chain w.key) ⊎ (c ≢ chain w.key) → IsAwaited sleepers' V' x c
      awaited_by c x e (inr ne) f = awaited_kept sleepers sleepers' V V' x c (same x ne) (finds_same x ne) (st.awaited c x (sym (finds_same x ne c) ∙ e))
      awaited_by c x e (inl g) (inl f) = rw (g, f) (record { sleeper = new_sleeper w; sleeps = now; moves = 0; way = refl })
      awaited_by c x e (inl g) (inr ne) = absurd (nowhere c (ap (λ (l : Line). finds l (who w)) (sym (other c ne)) ∙ ap (λ z. finds_in V' z c) (sym g) ∙ e))

      waits_by : (x : ℕ) (hx : Sleeper) → sleepers' x ≡ Some hx → (x ≡ who w) ⊎ (x ≢ who w) → Waits V' x hx
      waits_by x hx e (inr ne) = waits_kept V V' x hx (finds_same x ne) (st.waits x hx (sym (same x ne) ∙ e))
      waits_by x hx e (inl g) =
          let j : Some (new_sleeper w) ≡ Some hx = sym now ∙ sym (ap sleepers' g) ∙ e in
          let i : new_sleeper w ≡ hx = cc in
          subst (λ (z : Sleeper). Waits V' x z) i (subst (λ (y : ℕ). Waits V' y (new_sleeper w)) (sym g) (record { last = chain w.key; moves = 0; way = refl; found = queued_ends (finds_in V' (who w) (chain w.key)) finds_own; stays = λ many. refl }))

-- Chains
module _ (tids : ℕ → ℕ) (V : ℕ → Line) (q : List LxWaiter) (st : QueueStands tids V q) (w : Waiter) where
  abbrev W' : ℕ → Line
  W' = join_at V w.key (w ∷ [])

  pub insert_stands : QueueStands tids (join_at V w.key (w ∷ [])) (q ++ linux_waiter tids w ∷ [])
  insert_stands = record {
    at = λ a.
        filter-append (has_address a) q (linux_waiter tids w ∷ [])
        ∙ ap (λ l. l ++ filter (has_address a) (linux_waiter tids w ∷ [])) (st.at a)
        ∙ ap (λ l. map (linux_waiter tids) (filter (has_key a) (V (chain a)).waiters) ++ l) (filter-shown (linux_waiter tids) has_address has_key (same_address tids) a (w ∷ []))
        ∙ queue_by a (same_or_not (chain w.key) (chain a));
  }
    where
      queue_by : (a : ℕ) → (chain a ≡ chain w.key) ⊎ (chain a ≢ chain w.key) → map (linux_waiter tids) (filter (has_key a) (V (chain a)).waiters) ++ map (linux_waiter tids) (filter (has_key a) (w ∷ [])) ≡ map (linux_waiter tids) (filter (has_key a) (W' (chain a)).waiters)
      queue_by a (inl e) =
          sym (map-append (linux_waiter tids) (filter (has_key a) (V (chain a)).waiters) (filter (has_key a) (w ∷ [])))
          ∙ ap (map (linux_waiter tids)) (sym (filter-append (has_key a) (V (chain a)).waiters (w ∷ [])))
          ∙ ap (λ (l : Line). map (linux_waiter tids) (filter (has_key a) l.waiters)) (sym (at_same (chain w.key) (λ l. joined l (w ∷ [])) V (chain a) e))
      queue_by a (inr ne) =
          ap (λ l. map (linux_waiter tids) (filter (has_key a) (V (chain a)).waiters) ++ map (linux_waiter tids) l) (none_apart a w (λ e. ne (ap chain e)))
          ∙ append-nil (map (linux_waiter tids) (filter (has_key a) (V (chain a)).waiters))
          ∙ ap (λ (l : Line). map (linux_waiter tids) (filter (has_key a) l.waiters)) (sym (at_other (chain w.key) (λ l. joined l (w ∷ [])) V (chain a) ne))
