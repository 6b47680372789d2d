-- A requeue's move, out of one chain and into another or the same, and the Linux requeue.
use Rattle.std.proofs.Common.{◌≡◌, ◌≢◌, ℕ, Bool, true, false, ◌||◌, List, ◌++◌, map, Option, Some, length, refl, sym, ap, ◌∙◌, arith, ◌⊎◌, inl, inr, subst}
use Rattle.std.specs.Prelude.{slice_index_or}
use Rattle.std.specs.List.{All, filter, list_any}
use Rattle.std.proofs.lemmas.Grind.{common_steps}
use Rattle.std.proofs.lemmas.List.{append-nil, length-map, map-append}
use Rattle.std.proofs.lemmas.List.Elements.{All-append, All-map, filter-append}
use Rattle.std.proofs.lemmas.List.Folds.{list_any-append, list_any_at}
use Rattle.umtx_queue.specs.declared.waiter.Waiter.{Waiter}
use Rattle.umtx_queue.specs.declared.waiter.Looked.TheVariants as looked
use Rattle.umtx_queue.specs.declared.waiter.Note.TheVariants as notes
use Rattle.umtx_queue.specs.Lists.{first_of, without_first}
use Rattle.umtx_queue.specs.Waiters.{has_key, is_of, is_plain_at, is_queued, who, with_key, AreWaiters}
use Rattle.umtx_queue.specs.Lines.{Line, carried, finds, joined, taken}
use Rattle.umtx_queue.specs.Carries.{AreApart}
use Rattle.umtx_queue.proofs.LineLaws.{itself, stays_a_line}
use Rattle.umtx_queue.proofs.Tallies.{none_tally, tally_any, tally_split}
use Rattle.lx_machine.specs.declared.threads.LxWaiter.{LxWaiter}
use Rattle.lx_machine.specs.Queue as queue
use Rattle.places.specs.Places.{chain}
use Rattle.chains_stand.specs.Chains.{at_chain}
use Rattle.chains_stand.specs.Notes.{finds_in, FitsSleeper, IsAwaited, Leads, NotesLead, Sleeper, Waits}
use Rattle.chains_stand.specs.Queues.{has_address, linux_waiter, QueueStands}
use Rattle.chains_stand.proofs.Lists.{All-first_of, All-without_first, all_pass, any-without_first, filter-without_first_apart, first_is, same_or_not, without_is}
use Rattle.chains_stand.proofs.Numbers.{at_other, at_same}
use Rattle.chains_stand.proofs.Ways.{leads_moved}
use Rattle.chains_stand.proofs.Looks.{is_found, look_apart, look_first, look_joins, look_left, look_stays}
use Rattle.chains_stand.proofs.Cuts.{filter-shown, queue_cut, rekeyed_any, rekeyed_key, rekeyed_none, same_first, same_rekeyed, Within}
use Rattle.chains_stand.proofs.Ends.{awaited_kept, no_note_queued, one_chain, plain_sleeper, queued_ends, waits_kept, way_to}
use Rattle.chains_stand.proofs.Releases.{elsewhere, same_address}

-- the chains with those that move taken out, with these put in, and after both
abbrev pub take_at : (ℕ → Line) → ℕ → ℕ → ℕ → ℕ → Line
take_at V a n b = at_chain (chain a) (λ l. taken l a n b) V

abbrev pub join_at : (ℕ → Line) → ℕ → List Waiter → ℕ → Line
join_at V b ws = at_chain (chain b) (λ l. joined l ws) V

abbrev pub move_at : (ℕ → Line) → ℕ → ℕ → ℕ → ℕ → Line
move_at V a n b = join_at (take_at V a n b) b (carried (V (chain a)) a n b)

within_address : (a : ℕ) → Within (queue.is_plain_at a) (has_address a)
within_address a w h = grind (arith, common_steps)

pub plain_passes : (a : ℕ) (w : Waiter) → is_plain_at a w ≡ true → w.many ≡ false
plain_passes a w h = grind (arith, common_steps)

module _ (sleepers : ℕ → Option Sleeper) (V : ℕ → Line) (st : NotesLead sleepers V) (a n b : ℕ) where
  abbrev first : List Waiter
  first = first_of (is_plain_at a) n (V (chain a)).waiters

  abbrev carry : List Waiter
  carry = carried (V (chain a)) a n b

  -- the chains with the carry out
  abbrev V1 : ℕ → Line
  V1 = take_at V a n b

  abbrev V' : ℕ → Line
  V' = move_at V a n b

  taken_here : (c : ℕ) → c ≡ chain a → V1 c ≡ taken (V c) a n b
  taken_here c e = at_same (chain a) (λ l. taken l a n b) V c e

  taken_other : (c : ℕ) → c ≢ chain a → V1 c ≡ V c
  taken_other c ne = at_other (chain a) (λ l. taken l a n b) V c ne

  joined_here : (c : ℕ) → c ≡ chain b → V' c ≡ joined (V1 c) carry
  joined_here c e = at_same (chain b) (λ l. joined l carry) V1 c e

  joined_other : (c : ℕ) → c ≢ chain b → V' c ≡ V1 c
  joined_other c ne = at_other (chain b) (λ l. joined l carry) V1 c ne

  in_carry : (x : ℕ) → is_queued x carry ≡ is_queued x first
  in_carry x = rekeyed_any b x first

  was_queued : (x : ℕ) → is_queued x first ≡ true → finds_in V x (chain a) ≡ Some looked.Queued
  was_queued x h = look_first (V (chain a)) (is_plain_at a) n x h

  waiters_out : (c : ℕ) → AreWaiters (V1 c).waiters
  waiters_out c = by (same_or_not (chain a) c)
    where
      by : (c ≡ chain a) ⊎ (c ≢ chain a) → AreWaiters (V1 c).waiters
      by (inl e) = subst (λ (l : Line). AreWaiters l.waiters) (sym (taken_here c e)) ((stays_a_line (V c) (st.waiters c)).left (is_plain_at a) n (notes.Moved b))
      by (inr ne) = subst (λ (l : Line). AreWaiters l.waiters) (sym (taken_other c ne)) (st.waiters c)

  -- what each finds while the carry is out
  rest_out : (x : ℕ) → is_queued x first ≡ false → (c : ℕ) → finds_in V1 x c ≡ finds_in V x c
  rest_out x h c = by (same_or_not (chain a) c)
    where
      by : (c ≡ chain a) ⊎ (c ≢ chain a) → finds_in V1 x c ≡ finds_in V x c
      by (inl e) = ap (λ (l : Line). finds l x) (taken_here c e) ∙ rw e (look_stays (V (chain a)) (is_plain_at a) n (notes.Moved b) x (st.waiters (chain a)) h)
      by (inr ne) = ap (λ (l : Line). finds l x) (taken_other c ne)

  moved_out : (x : ℕ) → is_queued x first ≡ true → finds_in V1 x (chain a) ≡ Some (looked.Moved b)
  moved_out x h = ap (λ (l : Line). finds l x) (taken_here (chain a) refl) ∙ look_left (V (chain a)) (is_plain_at a) n (notes.Moved b) x (st.waiters (chain a)) h

  -- and afterwards
  finds_rest : (x : ℕ) → is_queued x first ≡ false → (c : ℕ) → finds_in V' x c ≡ finds_in V x c
  finds_rest x h c = by (same_or_not (chain b) c)
    where
      by : (c ≡ chain b) ⊎ (c ≢ chain b) → finds_in V' x c ≡ finds_in V x c
      by (inl e) = ap (λ (l : Line). finds l x) (joined_here c e) ∙ look_apart (V1 c) carry x (waiters_out c) (in_carry x ∙ h) ∙ rest_out x h c
      by (inr ne) = ap (λ (l : Line). finds l x) (joined_other c ne) ∙ rest_out x h c

  finds_queued : (x : ℕ) → is_queued x first ≡ true → finds_in V' x (chain b) ≡ Some looked.Queued
  finds_queued x h = ap (λ (l : Line). finds l x) (joined_here (chain b) refl) ∙ look_joins (V1 (chain b)) carry x (waiters_out (chain b)) (in_carry x ∙ h)

  finds_note : (x : ℕ) → is_queued x first ≡ true → chain a ≢ chain b → finds_in V' x (chain a) ≡ Some (looked.Moved b)
  finds_note x h ne = ap (λ (l : Line). finds l x) (joined_other (chain a) ne) ∙ moved_out x h

  finds_other : (x c : ℕ) → c ≢ chain a → c ≢ chain b → finds_in V' x c ≡ finds_in V x c
  finds_other x c ne ne' = ap (λ (l : Line). finds l x) (joined_other c ne' ∙ taken_other c ne)

  notes_kept : (x : ℕ) → is_queued x first ≡ true → (d k : ℕ) → d ≢ chain b → finds_in V x d ≡ Some (looked.Moved k) → finds_in V' x d ≡ Some (looked.Moved k)
  notes_kept x h d k ne e = by (same_or_not (chain a) d)
    where
      by : (d ≡ chain a) ⊎ (d ≢ chain a) → finds_in V' x d ≡ Some (looked.Moved k)
      by (inl f) = let g : Some looked.Queued ≡ Some (looked.Moved k) = sym (was_queued x h) ∙ sym (ap (finds_in V x) f) ∙ e in absurd (cc)
      by (inr ne') = finds_other x d ne' ne ∙ e

  -- who is carried stands in no chain
  not_there : (x : ℕ) → is_queued x carry ≡ true → is_queued x (V1 (chain b)).waiters ≡ false
  not_there x h = by (is_queued x (V1 (chain b)).waiters) refl (same_or_not (chain a) (chain b))
    where
      h' : is_queued x first ≡ true
      h' = sym (in_carry x) ∙ h

      gone : is_queued x (without_first (is_plain_at a) n (V (chain a)).waiters) ≡ false
      gone =
          let s = tally_split (is_plain_at a) (is_of x) n (V (chain a)).waiters in
          let o = (st.waiters (chain a)).once x in
          let t = tally_any (is_of x) first h' in
          none_tally (is_of x) (without_first (is_plain_at a) n (V (chain a)).waiters) (omega arith)

      by : (q : Bool) → is_queued x (V1 (chain b)).waiters ≡ q → (chain b ≡ chain a) ⊎ (chain b ≢ chain a) → q ≡ false
      by false e f = refl
      by true e (inl f) =
          let g : is_queued x (V1 (chain b)).waiters ≡ false = ap (λ c. is_queued x (V1 c).waiters) f ∙ ap (λ (l : Line). is_queued x l.waiters) (taken_here (chain a) refl) ∙ gone in
          sym e ∙ g
      by true e (inr ne) =
          absurd (ne (one_chain sleepers V st x (chain b) (chain a) (is_found (V (chain b)) x (sym (ap (λ (l : Line). is_queued x l.waiters) (taken_other (chain b) ne)) ∙ e)) (was_queued x h')))

  apart_of_carry : AreApart carry (V1 (chain b)).waiters
  apart_of_carry k d h = not_there (who (slice_index_or carry k d)) (list_any_at (is_of (who (slice_index_or carry k d))) carry k d h (itself (who (slice_index_or carry k d))))

  plain_first : All (λ w. w.many ≡ false) first
  plain_first k d h = plain_passes a (slice_index_or first k d) (all_pass (is_plain_at a) n (V (chain a)).waiters k d h)

  fit_first : All (FitsSleeper sleepers) first
  fit_first = All-first_of (FitsSleeper sleepers) (is_plain_at a) n (V (chain a)).waiters (st.fit (chain a))

  -- a plain wait that gets another key is one still
  fit_moved : (w : Waiter) → FitsSleeper sleepers w → w.many ≡ false → FitsSleeper sleepers (with_key b w)
  fit_moved w f plain h hs =
      let g = f h hs in
      record { many = g.many; own = λ many. absurd (let i : true ≡ false = sym many ∙ sym g.many ∙ plain in cc) }

  fit_carry : All (FitsSleeper sleepers) carry
  fit_carry = All-map (FitsSleeper sleepers) (with_key b) first (λ k d h. fit_moved (slice_index_or first k d) (fit_first k d h) (plain_first k d h))

  -- a sleeper that is moved isn't one of many places
  moved_plain : (x : ℕ) (h : Sleeper) → is_queued x first ≡ true → sleepers x ≡ Some h → h.many ≡ false
  moved_plain x h q hs = plain_sleeper sleepers V st x h (chain a) first fit_first plain_first q hs

  -- the clauses afterwards
  keys_out : (c x : ℕ) → list_any (has_key x) (V1 c).waiters ≡ true → chain x ≡ c
  keys_out c x h = by (same_or_not (chain a) c)
    where
      by : (c ≡ chain a) ⊎ (c ≢ chain a) → chain x ≡ c
      by (inl e) = st.keys c x (any-without_first (is_plain_at a) (has_key x) n (V c).waiters (ap (λ (l : Line). list_any (has_key x) l.waiters) (sym (taken_here c e)) ∙ h))
      by (inr ne) = st.keys c x (ap (λ (l : Line). list_any (has_key x) l.waiters) (sym (taken_other c ne)) ∙ h)

  keys_after : (c x : ℕ) → list_any (has_key x) (V' c).waiters ≡ true → chain x ≡ c
  keys_after c x h = by (same_or_not (chain b) c)
    where
      split : (p q : Bool) → list_any (has_key x) (V1 c).waiters ≡ p → list_any (has_key x) carry ≡ q → (p || q) ≡ true → c ≡ chain b → chain x ≡ c
      split true q e f g i = keys_out c x e
      split false true e f g i = ap chain (rekeyed_key b x first f) ∙ sym i
      split false false e f g i = absurd (cc)

      by : (c ≡ chain b) ⊎ (c ≢ chain b) → chain x ≡ c
      by (inl e) = split (list_any (has_key x) (V1 c).waiters) (list_any (has_key x) carry) refl refl (sym (list_any-append (has_key x) (V1 c).waiters carry) ∙ ap (λ (l : Line). list_any (has_key x) l.waiters) (sym (joined_here c e)) ∙ h) e
      by (inr ne) = keys_out c x (ap (λ (l : Line). list_any (has_key x) l.waiters) (sym (joined_other c ne)) ∙ h)

  waiters_after : (c : ℕ) → AreWaiters (V' c).waiters
  waiters_after c = by (same_or_not (chain b) c)
    where
      by : (c ≡ chain b) ⊎ (c ≢ chain b) → AreWaiters (V' c).waiters
      by (inl e) =
          subst (λ (l : Line). AreWaiters l.waiters) (sym (joined_here c e))
          ((stays_a_line (V1 c) (waiters_out c)).requeued carry ((stays_a_line (V (chain a)) (st.waiters (chain a))).carried a n b) (subst (λ (d : ℕ). AreApart carry (V1 d).waiters) (sym e) apart_of_carry))
      by (inr ne) = subst (λ (l : Line). AreWaiters l.waiters) (sym (joined_other c ne)) (waiters_out c)

  fit_out : (c : ℕ) → All (FitsSleeper sleepers) (V1 c).waiters
  fit_out c = by (same_or_not (chain a) c)
    where
      by : (c ≡ chain a) ⊎ (c ≢ chain a) → All (FitsSleeper sleepers) (V1 c).waiters
      by (inl e) = subst (λ (l : Line). All (FitsSleeper sleepers) l.waiters) (sym (taken_here c e)) (All-without_first (FitsSleeper sleepers) (is_plain_at a) n (V c).waiters (st.fit c))
      by (inr ne) = subst (λ (l : Line). All (FitsSleeper sleepers) l.waiters) (sym (taken_other c ne)) (st.fit c)

  fit_after : (c : ℕ) → All (FitsSleeper sleepers) (V' c).waiters
  fit_after c = by (same_or_not (chain b) c)
    where
      by : (c ≡ chain b) ⊎ (c ≢ chain b) → All (FitsSleeper sleepers) (V' c).waiters
      by (inl e) = subst (λ (l : Line). All (FitsSleeper sleepers) l.waiters) (sym (joined_here c e)) (All-append (FitsSleeper sleepers) (V1 c).waiters carry (fit_out c) fit_carry)
      by (inr ne) = subst (λ (l : Line). All (FitsSleeper sleepers) l.waiters) (sym (joined_other c ne)) (fit_out c)

  awaited_after : (c x : ℕ) → finds_in V' x c ≡ Some looked.Queued → IsAwaited sleepers V' x c
  awaited_after c x h = by (is_queued x first) refl (same_or_not (chain b) c) (same_or_not (chain a) c)
    where
      by : (q : Bool) → is_queued x first ≡ q → (c ≡ chain b) ⊎ (c ≢ chain b) → (c ≡ chain a) ⊎ (c ≢ chain a) → IsAwaited sleepers V' x c
      by false e f g = awaited_kept sleepers sleepers V V' x c refl (finds_rest x e) (st.awaited c x (sym (finds_rest x e c) ∙ h))
      by true e (inl f) g =
          let old = st.awaited (chain a) x (was_queued x e) in
          let way = leads_moved old.moves (finds_in V x) (finds_in V' x) (chain old.sleeper.at) (chain a) b (no_note_queued (finds_in V x (chain a)) (was_queued x e)) (finds_note x e) (notes_kept x e) old.way in
          record { sleeper = old.sleeper; sleeps = old.sleeps; moves = way.0; way = subst (λ (d : ℕ). Leads way.0 (finds_in V' x) (chain old.sleeper.at) d) (sym f) way.2 }
      by true e (inr ne) (inl g) = let i : Some (looked.Moved b) ≡ Some looked.Queued = sym (finds_note x e (λ j. ne (g ∙ j))) ∙ sym (ap (finds_in V' x) g) ∙ h in absurd (cc)
      by true e (inr ne) (inr ne') = absurd (ne' (one_chain sleepers V st x c (chain a) (sym (finds_other x c ne' ne) ∙ h) (was_queued x e)))

  waits_after : (x : ℕ) (h : Sleeper) → sleepers x ≡ Some h → Waits V' x h
  waits_after x h hs = by (is_queued x first) refl
    where
      by : (q : Bool) → is_queued x first ≡ q → Waits V' x h
      by false e = waits_kept V V' x h (finds_rest x e) (st.waits x h hs)
      by true e =
          let old = way_to sleepers V st x h (chain a) hs (was_queued x e) in
          let way = leads_moved old.0 (finds_in V x) (finds_in V' x) (chain h.at) (chain a) b (no_note_queued (finds_in V x (chain a)) (was_queued x e)) (finds_note x e) (notes_kept x e) old.1 in
          record {
            last = chain b;
            moves = way.0;
            way = way.2;
            found = queued_ends (finds_in V' x (chain b)) (finds_queued x e);
            stays = λ many. absurd (let i : true ≡ false = sym many ∙ moved_plain x h e hs in cc);
          }

  pub move_leads : NotesLead sleepers (move_at V a n b)
  move_leads = record { keys = keys_after; waiters = waiters_after; fit = fit_after; awaited = awaited_after; waits = waits_after }

-- Chains
module _ (tids : ℕ → ℕ) (V : ℕ → Line) (q : List LxWaiter) (st : QueueStands tids V q) (a n b : ℕ) where
  abbrev first' : List Waiter
  first' = first_of (is_plain_at a) n (V (chain a)).waiters

  abbrev carry' : List Waiter
  carry' = carried (V (chain a)) a n b

  abbrev W1 : ℕ → Line
  W1 = take_at V a n b

  abbrev W' : ℕ → Line
  W' = move_at V a n b

  same_waiters : first_of (queue.is_plain_at a) n q ≡ map (linux_waiter tids) first'
  same_waiters = same_first (linux_waiter tids) has_address has_key (same_address tids) (queue.is_plain_at a) a (within_address a) n q (V (chain a)).waiters (st.at a)

  taken_here2 : (c : ℕ) → c ≡ chain a → W1 c ≡ taken (V c) a n b
  taken_here2 c e = at_same (chain a) (λ l. taken l a n b) V c e

  taken_other2 : (c : ℕ) → c ≢ chain a → W1 c ≡ V c
  taken_other2 c ne = at_other (chain a) (λ l. taken l a n b) V c ne

  joined_here2 : (c : ℕ) → c ≡ chain b → W' c ≡ joined (W1 c) carry'
  joined_here2 c e = at_same (chain b) (λ l. joined l carry') W1 c e

  joined_other2 : (c : ℕ) → c ≢ chain b → W' c ≡ W1 c
  joined_other2 c ne = at_other (chain b) (λ l. joined l carry') W1 c ne

  queue_out : (x : ℕ) → filter (has_address x) (without_first (queue.is_plain_at a) n q) ≡ map (linux_waiter tids) (filter (has_key x) (W1 (chain x)).waiters)
  queue_out x = by (same_or_not (chain a) (chain x))
    where
      by : (chain x ≡ chain a) ⊎ (chain x ≢ chain a) → filter (has_address x) (without_first (queue.is_plain_at a) n q) ≡ map (linux_waiter tids) (filter (has_key x) (W1 (chain x)).waiters)
      by (inl e) =
          queue_cut (linux_waiter tids) has_address has_key (same_address tids) (queue.is_plain_at a) a x (within_address a) (elsewhere (queue.is_plain_at a) a x (within_address a)) n q (V (chain a)).waiters (st.at a) (st.at x ∙ ap (λ c. map (linux_waiter tids) (filter (has_key x) (V c).waiters)) e)
          ∙ ap (λ (l : Line). map (linux_waiter tids) (filter (has_key x) l.waiters)) (ap (λ c. taken (V c) a n b) (sym e) ∙ sym (taken_here2 (chain x) e))
      by (inr ne) =
          filter-without_first_apart (queue.is_plain_at a) (has_address x) (elsewhere (queue.is_plain_at a) a x (within_address a) (λ e. ne (ap chain e))) n q
          ∙ st.at x ∙ ap (λ (l : Line). map (linux_waiter tids) (filter (has_key x) l.waiters)) (sym (taken_other2 (chain x) ne))

  queue_after : (x : ℕ) → filter (has_address x) (without_first (queue.is_plain_at a) n q ++ map (queue.moved_to b) (first_of (queue.is_plain_at a) n q)) ≡ map (linux_waiter tids) (filter (has_key x) (W' (chain x)).waiters)
  queue_after x =
      filter-append (has_address x) (without_first (queue.is_plain_at a) n q) (map (queue.moved_to b) (first_of (queue.is_plain_at a) n q))
      ∙ ap (λ l. l ++ filter (has_address x) (map (queue.moved_to b) (first_of (queue.is_plain_at a) n q))) (queue_out x)
      ∙ ap (λ l. map (linux_waiter tids) (filter (has_key x) (W1 (chain x)).waiters) ++ filter (has_address x) l) (ap (map (queue.moved_to b)) same_waiters ∙ same_rekeyed tids b first')
      ∙ ap (λ l. map (linux_waiter tids) (filter (has_key x) (W1 (chain x)).waiters) ++ l) (filter-shown (linux_waiter tids) has_address has_key (same_address tids) x carry')
      ∙ by (same_or_not (chain b) (chain x))
    where
      by : (chain x ≡ chain b) ⊎ (chain x ≢ chain b) → map (linux_waiter tids) (filter (has_key x) (W1 (chain x)).waiters) ++ map (linux_waiter tids) (filter (has_key x) carry') ≡ map (linux_waiter tids) (filter (has_key x) (W' (chain x)).waiters)
      by (inl e) =
          sym (map-append (linux_waiter tids) (filter (has_key x) (W1 (chain x)).waiters) (filter (has_key x) carry'))
          ∙ ap (map (linux_waiter tids)) (sym (filter-append (has_key x) (W1 (chain x)).waiters carry'))
          ∙ ap (λ (l : Line). map (linux_waiter tids) (filter (has_key x) l.waiters)) (sym (joined_here2 (chain x) e))
      by (inr ne) =
          ap (λ l. map (linux_waiter tids) (filter (has_key x) (W1 (chain x)).waiters) ++ map (linux_waiter tids) l) (rekeyed_none b x first' (λ e. ne (ap chain e)))
          ∙ append-nil (map (linux_waiter tids) (filter (has_key x) (W1 (chain x)).waiters))
          ∙ ap (λ (l : Line). map (linux_waiter tids) (filter (has_key x) l.waiters)) (sym (joined_other2 (chain x) ne))

  pub move_stands : QueueStands tids (move_at V a n b) (queue.waiters_moved a b n q)
  move_stands = record { at = λ x. ap (filter (has_address x)) (moved_is) ∙ queue_after x }
    where
      moved_is : queue.waiters_moved a b n q ≡ without_first (queue.is_plain_at a) n q ++ map (queue.moved_to b) (first_of (queue.is_plain_at a) n q)
      moved_is = ap (λ l. l ++ map (queue.moved_to b) (queue.moving a n q)) (without_is n (queue.is_plain_at a) q) ∙ ap (λ l. without_first (queue.is_plain_at a) n q ++ map (queue.moved_to b) l) (first_is n (queue.is_plain_at a) q)

  -- as many are moved
  pub move_count : length (queue.moving a n q) ≡ length (carried (V (chain a)) a n b)
  move_count = ap length (first_is n (queue.is_plain_at a) q ∙ same_waiters) ∙ length-map first' (linux_waiter tids) ∙ sym (length-map first' (with_key b))
