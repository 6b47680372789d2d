-- A wait follows a note, and ends.
use Rattle.std.proofs.Common.{◌≡◌, ◌≢◌, ℕ, zero, suc, Bool, true, false, not, List, [], ◌∷◌, Option, Some, None, refl, sym, ap, ◌∙◌, arith, ◌⊎◌, inl, inr, subst}
use Rattle.std.specs.Prelude.{slice_index_or}
use Rattle.std.specs.List.{All, AllByRecursion, list_any}
use Rattle.std.proofs.lemmas.Grind.{common_steps}
use Rattle.std.proofs.lemmas.List.Elements.{All-weaker, recursion_from_All}
use Rattle.std.proofs.lemmas.List.Folds.{list_any_at}
use Rattle.umtx_queue.specs.declared.waiter.Waiter.{Waiter}
use Rattle.umtx_queue.specs.declared.waiter.Looked.TheVariants as looked
use Rattle.umtx_queue.specs.Waiters.{has_key, is_of, is_of_slot, is_queued, slot_of, who, AreWaiters, IsWaiter}
use Rattle.umtx_queue.specs.Lines.{Line, finds, removed}
use Rattle.umtx_queue.proofs.LineLaws.{stays_a_line}
use Rattle.umtx_queue.proofs.NoteMaps.{same_number, slot_is}
use Rattle.places.specs.Places.{chain}
use Rattle.chains_stand.specs.Chains.{at_chains}
use Rattle.chains_stand.specs.Notes.{finds_in, FitsSleeper, IsAwaited, IsWaiterOf, Leads, NotesLead, Sleeper, Waits}
use Rattle.chains_stand.proofs.Lists.{All-filter, any-filter, found_in, is_same, same_or_not}
use Rattle.chains_stand.proofs.Numbers.{in_others, in_these}
use Rattle.chains_stand.proofs.Looks.{is_found, queued_is, look_removed_other, look_removed_own}
use Rattle.chains_stand.proofs.Ends.{awaited_kept, no_note, no_note_queued, no_sleeper, only_here, place_ends, waits_kept, way_to, SameBut}

-- a waiter's slot is that of its number
pub own_slot : (w : Waiter) → IsWaiter w → slot_of (who w) ≡ w.slot
own_slot w is = slot_is w.slot w.place (let p = is.place in omega arith)

-- the sleepers of the other slots
abbrev pub SameButSlot : {A : Type 0} → ℕ → (ℕ → A) → (ℕ → A) → Type 0
SameButSlot s f g = (i : ℕ) → slot_of i ≢ s → g i ≡ f i

-- ---- Follow

module _ (sleepers sleepers' : ℕ → Option Sleeper) (V : ℕ → Line) (st : NotesLead sleepers V) (i : ℕ) (h : Sleeper) (hs : sleepers i ≡ Some h) where
  -- the sleeper looks at the next chain, and isn't one of many places
  pub follow_leads : (k : ℕ) → finds_in V i (chain h.at) ≡ Some (looked.Moved k) → sleepers' i ≡ Some (record { at = k; many = false }) → SameBut i sleepers sleepers' → NotesLead sleepers' V
  follow_leads k note now same = record {
    keys = st.keys;
    waiters = st.waiters;
    fit = λ c. All-weaker (FitsSleeper sleepers) (FitsSleeper sleepers') fits_still (V c).waiters (st.fit c);
    awaited = λ c x e. awaited_by c x e (same_or_not i x);
    waits = λ x hx e. waits_by x hx e (same_or_not i x);
  }
    where
      next : Sleeper
      next = record { at = k; many = false }

      plain : h.many ≡ false
      plain = by h.many refl
        where
          by : (b : Bool) → h.many ≡ b → b ≡ false
          by false e = refl
          by true e = absurd (no_note (finds_in V i (chain h.at)) (place_ends sleepers V st i h hs e) k note)

      fits_still : (w : Waiter) → FitsSleeper sleepers w → FitsSleeper sleepers' w
      fits_still w fits g hg = by (same_or_not i (who w))
        where
          by : (who w ≡ i) ⊎ (who w ≢ i) → IsWaiterOf g w
          by (inl e) =
              let old = fits h (ap sleepers e ∙ hs) in
              let j : Some (record { at = k; many = false }) ≡ Some g = sym now ∙ sym (ap sleepers' e) ∙ hg in
              let is : record { at = k; many = false } ≡ g = cc in
              subst (λ (z : Sleeper). IsWaiterOf z w) is (record { many = old.many ∙ plain; own = λ many. absurd (let f : true ≡ false = sym many in cc) })
          by (inr ne) = fits g (sym (same (who w) ne) ∙ hg)

      shorter : (n c : ℕ) → ((j : ℕ) → finds_in V i c ≢ Some (looked.Moved j)) → Leads n (finds_in V i) (chain h.at) c → (m : ℕ) × Leads m (finds_in V i) (chain k) c
      shorter zero c end e = absurd (end k (ap (finds_in V i) (sym e) ∙ note))
      shorter (suc n) c end (j, other, way) = let e : j ≡ k = let g : Some (looked.Moved j) ≡ Some (looked.Moved k) = sym other ∙ note in cc in (n, rw (sym e) way)

      awaited_by : (c x : ℕ) → finds_in V x c ≡ Some looked.Queued → (x ≡ i) ⊎ (x ≢ i) → IsAwaited sleepers' V x c
      awaited_by c x e (inl f) =
          let e' : finds_in V i c ≡ Some looked.Queued = ap (λ z. finds_in V z c) (sym f) ∙ e in
          let way = way_to sleepers V st i h c hs e' in
          let r = shorter way.0 c (no_note_queued (finds_in V i c) e') way.1 in
          subst (λ (y : ℕ). IsAwaited sleepers' V y c) (sym f) (record { sleeper = record { at = k; many = false }; sleeps = now; moves = r.0; way = r.1 })
      awaited_by c x e (inr ne) = awaited_kept sleepers sleepers' V V x c (same x ne) (λ d. refl) (st.awaited c x e)

      waits_by : (x : ℕ) (hx : Sleeper) → sleepers' x ≡ Some hx → (x ≡ i) ⊎ (x ≢ i) → Waits V x hx
      waits_by x hx e (inr ne) = st.waits x hx (sym (same x ne) ∙ e)
      waits_by x hx e (inl g) =
          let old = st.waits i h hs in
          let r = shorter old.moves old.last (no_note (finds_in V i old.last) old.found) old.way in
          let j : Some (record { at = k; many = false }) ≡ Some hx = sym now ∙ sym (ap sleepers' g) ∙ e in
          let is : record { at = k; many = false } ≡ hx = cc in
          subst (λ (z : Sleeper). Waits V x z) is (subst (λ (y : ℕ). Waits V y (record { at = k; many = false })) (sym g) (record { last = old.last; moves = r.0; way = r.1; found = old.found; stays = λ many. absurd (let f : true ≡ false = sym many in cc) }))

-- ---- a slot that stands nowhere

module _ (sleepers : ℕ → Option Sleeper) (V : ℕ → Line) (st : NotesLead sleepers V) (s : ℕ) where
  -- a waiter of the slot is one of its places
  pub slot_queued : (c : ℕ) → list_any (is_of_slot s) (V c).waiters ≡ true → (i : ℕ) × (slot_of i ≡ s) × (finds_in V i c ≡ Some looked.Queued)
  slot_queued c h =
      let r = found_in (λ (w : Waiter). IsWaiter w × (is_queued (who w) (V c).waiters ≡ true)) (is_of_slot s) (V c).waiters (λ k d l. ((st.waiters c).each k d l, stands c k d l)) h in
      (who r.0, own_slot r.0 r.1.0 ∙ same_number r.0.slot s r.2, is_found (V c) (who r.0) r.1.1)
    where
      stands : (c : ℕ) → All (λ w. is_queued (who w) (V c).waiters ≡ true) (V c).waiters
      stands c k d l = list_any_at (is_of (who (slice_index_or (V c).waiters k d))) (V c).waiters k d l (is_same (who (slice_index_or (V c).waiters k d)) (who (slice_index_or (V c).waiters k d)) refl)

  -- where none of its places is queued, none of its waiters stands
  pub slot_absent : (c : ℕ) → ((i : ℕ) → slot_of i ≡ s → finds_in V i c ≢ Some looked.Queued) → list_any (is_of_slot s) (V c).waiters ≡ false
  slot_absent c none = by (list_any (is_of_slot s) (V c).waiters) refl
    where
      by : (b : Bool) → list_any (is_of_slot s) (V c).waiters ≡ b → b ≡ false
      by false e = refl
      by true e = let r = slot_queued c e in absurd (none r.0 r.1 r.2)

  -- and where one of them is queued, one stands
  pub slot_stands : (i c : ℕ) → slot_of i ≡ s → finds_in V i c ≡ Some looked.Queued → list_any (is_of_slot s) (V c).waiters ≡ true
  slot_stands i c is q = of_slot (V c).waiters (recursion_from_All IsWaiter (V c).waiters (st.waiters c).each) (queued_is (V c) i q)
    where
      same_slot : (w : Waiter) → IsWaiter w → is_of i w ≡ true → is_of_slot s w ≡ true
      same_slot w fits e = is_same w.slot s (sym (own_slot w fits) ∙ ap slot_of (same_number (who w) i e) ∙ is)

      of_slot : (ws : List Waiter) → AllByRecursion IsWaiter ws → is_queued i ws ≡ true → list_any (is_of_slot s) ws ≡ true
      of_slot [] e h = h
      of_slot (w ∷ ws) e h = let a = of_slot ws e.1 in let b = same_slot w e.0 in grind (arith, common_steps)

-- ---- a wait ends: its waiters and notes leave

module _ (sleepers sleepers' : ℕ → Option Sleeper) (V : ℕ → Line) (st : NotesLead sleepers V) (s : ℕ) (among : ℕ → Bool) where
  abbrev V' : ℕ → Line
  V' = at_chains among (λ l. removed l s) V

  left_here : (c : ℕ) → among c ≡ true → V' c ≡ removed (V c) s
  left_here c e = in_these among (λ l. removed l s) V c e

  left_other : (c : ℕ) → among c ≡ false → V' c ≡ V c
  left_other c e = in_others among (λ l. removed l s) V c e

  finds_same : (x : ℕ) → slot_of x ≢ s → (c : ℕ) → finds_in V' x c ≡ finds_in V x c
  finds_same x ne c = by (among c) refl
    where
      by : (b : Bool) → among c ≡ b → finds_in V' x c ≡ finds_in V x c
      by true e = ap (λ (l : Line). finds l x) (left_here c e) ∙ look_removed_other (V c) s x (st.waiters c) ne
      by false e = ap (λ (l : Line). finds l x) (left_other c e)

  -- these are all chains where its places are queued
  pub leave_leads : ((i c : ℕ) → slot_of i ≡ s → finds_in V i c ≡ Some looked.Queued → among c ≡ true) → ((i : ℕ) → slot_of i ≡ s → sleepers' i ≡ None) → SameButSlot s sleepers sleepers' → NotesLead sleepers' (at_chains among (λ l. removed l s) V)
  leave_leads all now same = record {
    keys = λ c a e. keys_by c a e (among c) refl;
    waiters = λ c. waiters_by c (among c) refl;
    fit = λ c. fit_by c (among c) refl;
    awaited = λ c x e. awaited_by c x e (same_or_not s (slot_of x));
    waits = λ x hx e. waits_by x hx e (same_or_not s (slot_of x));
  }
    where
      keys_by : (c a : ℕ) → list_any (has_key a) (V' c).waiters ≡ true → (b : Bool) → among c ≡ b → chain a ≡ c
      keys_by c a e true f = st.keys c a (any-filter (has_key a) (λ w. not (is_of_slot s w)) (V c).waiters (ap (λ (l : Line). list_any (has_key a) l.waiters) (sym (left_here c f)) ∙ e))
      keys_by c a e false f = st.keys c a (ap (λ (l : Line). list_any (has_key a) l.waiters) (sym (left_other c f)) ∙ e)

      waiters_by : (c : ℕ) (b : Bool) → among c ≡ b → AreWaiters (V' c).waiters
      waiters_by c true f = subst (λ (l : Line). AreWaiters l.waiters) (sym (left_here c f)) ((stays_a_line (V c) (st.waiters c)).removed s)
      waiters_by c false f = subst (λ (l : Line). AreWaiters l.waiters) (sym (left_other c f)) (st.waiters c)

      fits_still : (w : Waiter) → FitsSleeper sleepers w → FitsSleeper sleepers' w
      fits_still w fits g hg = by (same_or_not s (slot_of (who w)))
        where
          by : (slot_of (who w) ≡ s) ⊎ (slot_of (who w) ≢ s) → IsWaiterOf g w
          by (inl e) = absurd (let j : None ≡ Some g = sym (now (who w) e) ∙ hg in cc)
          by (inr ne) = fits g (sym (same (who w) ne) ∙ hg)

      fit_by : (c : ℕ) (b : Bool) → among c ≡ b → All (FitsSleeper sleepers') (V' c).waiters
      fit_by c true f = subst (λ (l : Line). All (FitsSleeper sleepers') l.waiters) (sym (left_here c f)) (All-filter (FitsSleeper sleepers') (λ w. not (is_of_slot s w)) (V c).waiters (All-weaker (FitsSleeper sleepers) (FitsSleeper sleepers') fits_still (V c).waiters (st.fit c)))
      fit_by c false f = subst (λ (l : Line). All (FitsSleeper sleepers') l.waiters) (sym (left_other c f)) (All-weaker (FitsSleeper sleepers) (FitsSleeper sleepers') fits_still (V c).waiters (st.fit c))

      gone : (c x : ℕ) → slot_of x ≡ s → finds_in V' x c ≡ Some looked.Queued → (b : Bool) → among c ≡ b → ⊥
      gone c x g e true f = let i : None ≡ Some looked.Queued = sym (look_removed_own (V c) s x (st.waiters c) g) ∙ sym (ap (λ (l : Line). finds l x) (left_here c f)) ∙ e in cc
      gone c x g e false f = let i : true ≡ false = sym (all x c g (sym (ap (λ (l : Line). finds l x) (left_other c f)) ∙ e)) ∙ f in cc

      awaited_by : (c x : ℕ) → finds_in V' x c ≡ Some looked.Queued → (slot_of x ≡ s) ⊎ (slot_of x ≢ s) → IsAwaited sleepers' V' x c
      awaited_by c x e (inr ne) = awaited_kept sleepers sleepers' V V' x c (same x ne) (finds_same x ne) (st.awaited c x (sym (finds_same x ne c) ∙ e))
      awaited_by c x e (inl g) = absurd (gone c x g e (among c) refl)

      waits_by : (x : ℕ) (hx : Sleeper) → sleepers' x ≡ Some hx → (slot_of x ≡ s) ⊎ (slot_of x ≢ s) → Waits V' x hx
      waits_by x hx e (inl g) = absurd (let j : None ≡ Some hx = sym (now x g) ∙ e in cc)
      waits_by x hx e (inr ne) = waits_kept V V' x hx (finds_same x ne) (st.waits x hx (sym (same x ne) ∙ e))

-- ---- where the places of a slot are queued

module _ (sleepers : ℕ → Option Sleeper) (V : ℕ → Line) (st : NotesLead sleepers V) (s : ℕ) (among : ℕ → Bool) where
  -- a plain wait that is not sent on: it is queued where it looks, or nowhere
  pub plain_within : (at : ℕ) (h : Sleeper) → sleepers at ≡ Some h → ((k : ℕ) → finds_in V at (chain h.at) ≢ Some (looked.Moved k)) → ((i : ℕ) → slot_of i ≡ s → i ≢ at → sleepers i ≡ None) → among (chain h.at) ≡ true → (i c : ℕ) → slot_of i ≡ s → finds_in V i c ≡ Some looked.Queued → among c ≡ true
  plain_within at h hs end alone here i c is q = by (same_or_not at i)
    where
      by : (i ≡ at) ⊎ (i ≢ at) → among c ≡ true
      by (inl e) = ap among (only_here sleepers V st at h hs end c (ap (λ (z : ℕ). finds_in V z c) (sym e) ∙ q)) ∙ here
      by (inr ne) = absurd (no_sleeper sleepers V st i (alone i is ne) c q)

  -- many places: each is queued in the chain of its own address
  pub many_within : ((i : ℕ) (h : Sleeper) → slot_of i ≡ s → sleepers i ≡ Some h → (h.many ≡ true) × (among (chain h.at) ≡ true)) → (i c : ℕ) → slot_of i ≡ s → finds_in V i c ≡ Some looked.Queued → among c ≡ true
  many_within each i c is q =
      let w = st.awaited c i q in
      let e = each i w.sleeper is w.sleeps in
      ap among (only_here sleepers V st i w.sleeper w.sleeps (no_note (finds_in V i (chain w.sleeper.at)) (place_ends sleepers V st i w.sleeper w.sleeps e.0)) c q) ∙ e.1
