-- A signal, and the Linux release.
use Rattle.std.proofs.Common.{◌≡◌, ◌≢◌, ℕ, Bool, true, false, List, map, Option, Some, length, refl, sym, ap, ◌∙◌, arith, ◌⊎◌, inl, inr, subst}
use Rattle.std.specs.List.{All, filter, list_any}
use Rattle.std.proofs.lemmas.Grind.{common_steps}
use Rattle.std.proofs.lemmas.List.{length-map}
use Rattle.umtx_queue.specs.declared.waiter.Waiter.{Waiter}
use Rattle.umtx_queue.specs.declared.waiter.Looked.TheVariants as looked
use Rattle.umtx_queue.specs.declared.waiter.Note.TheVariants as notes
use Rattle.umtx_queue.specs.Lists.{first_of, without_first}
use Rattle.umtx_queue.specs.Waiters.{has_key, is_queued, matches, AreWaiters}
use Rattle.umtx_queue.specs.Lines.{Line, finds, signalled}
use Rattle.umtx_queue.proofs.LineLaws.{stays_a_line}
use Rattle.lx_machine.specs.declared.threads.LxWaiter.{LxWaiter}
use Rattle.lx_machine.specs.Queue as queue
use Rattle.places.specs.Places.{chain}
use Rattle.chains_stand.specs.Chains.{at_chain}
use Rattle.chains_stand.specs.Notes.{finds_in, FitsSleeper, IsAwaited, NotesLead, Sleeper, Waits}
use Rattle.chains_stand.specs.Queues.{has_address, linux_waiter, QueueStands}
use Rattle.chains_stand.proofs.Lists.{All-without_first, any-without_first, filter-without_first_apart, first_is, same_or_not, without_is}
use Rattle.chains_stand.proofs.Numbers.{at_other, at_same}
use Rattle.chains_stand.proofs.Ways.{leads_kept}
use Rattle.chains_stand.proofs.Looks.{look_first, look_left, look_stays}
use Rattle.chains_stand.proofs.Cuts.{queue_cut, same_first, Within}
use Rattle.chains_stand.proofs.Ends.{awaited_kept, one_chain, place_moves, waits_kept, way_to, woken_ends}

-- the chains after a signal
abbrev pub signal_at : (ℕ → Line) → ℕ → ℕ → ℕ → ℕ → Line
signal_at V a n bits = at_chain (chain a) (λ l. signalled l a n bits) V

pub same_address : (tids : ℕ → ℕ) (a : ℕ) (w : Waiter) → has_address a (linux_waiter tids w) ≡ has_key a w
same_address tids a w = refl

-- what passes at one address stands at no other
pub elsewhere : (p : LxWaiter → Bool) (a b : ℕ) → Within p (has_address a) → b ≢ a → (w : LxWaiter) → p w ≡ true → has_address b w ≡ false
elsewhere p a b within ne w h = let e = within w h in grind (arith, common_steps)

within_address : (a bits : ℕ) → Within (queue.matches a bits) (has_address a)
within_address a bits w h = grind (arith, common_steps)

module _ (sleepers : ℕ → Option Sleeper) (V : ℕ → Line) (st : NotesLead sleepers V) (a n bits : ℕ) where
  abbrev first : List Waiter
  first = first_of (matches a bits) n (V (chain a)).waiters

  abbrev V' : ℕ → Line
  V' = signal_at V a n bits

  here : (c : ℕ) → c ≡ chain a → V' c ≡ signalled (V c) a n bits
  here c e = at_same (chain a) (λ l. signalled l a n bits) V c e

  there : (c : ℕ) → c ≢ chain a → V' c ≡ V c
  there c ne = at_other (chain a) (λ l. signalled l a n bits) V c ne

  -- what each finds afterwards
  finds_rest : (x : ℕ) → is_queued x first ≡ false → (c : ℕ) → finds_in V' x c ≡ finds_in V x c
  finds_rest x h c = by (same_or_not (chain a) c)
    where
      by : (c ≡ chain a) ⊎ (c ≢ chain a) → finds_in V' x c ≡ finds_in V x c
      by (inl e) = ap (λ (l : Line). finds l x) (here c e) ∙ rw e (look_stays (V (chain a)) (matches a bits) n notes.Woken x (st.waiters (chain a)) h)
      by (inr ne) = ap (λ (l : Line). finds l x) (there c ne)

  finds_other : (x c : ℕ) → c ≢ chain a → finds_in V' x c ≡ finds_in V x c
  finds_other x c ne = ap (λ (l : Line). finds l x) (there c ne)

  was_queued : (x : ℕ) → is_queued x first ≡ true → finds_in V x (chain a) ≡ Some looked.Queued
  was_queued x h = look_first (V (chain a)) (matches a bits) n x h

  finds_woken : (x : ℕ) → is_queued x first ≡ true → finds_in V' x (chain a) ≡ Some looked.Woken
  finds_woken x h = ap (λ (l : Line). finds l x) (here (chain a) refl) ∙ look_left (V (chain a)) (matches a bits) n notes.Woken x (st.waiters (chain a)) h

  notes_kept : (x : ℕ) → is_queued x first ≡ true → (d k : ℕ) → finds_in V x d ≡ Some (looked.Moved k) → finds_in V' x d ≡ Some (looked.Moved k)
  notes_kept x h d k e = by (same_or_not (chain a) d)
    where
      by : (d ≡ chain a) ⊎ (d ≢ chain a) → finds_in V' x d ≡ Some (looked.Moved k)
      by (inl f) = let g : Some looked.Queued ≡ Some (looked.Moved k) = sym (was_queued x h) ∙ sym (ap (finds_in V x) f) ∙ e in absurd (cc)
      by (inr ne) = finds_other x d ne ∙ e

  -- the clauses
  keys_after : (c x : ℕ) → list_any (has_key x) (V' c).waiters ≡ true → chain x ≡ c
  keys_after c x h = by (same_or_not (chain a) c)
    where
      by : (c ≡ chain a) ⊎ (c ≢ chain a) → chain x ≡ c
      by (inl e) = st.keys c x (any-without_first (matches a bits) (has_key x) n (V c).waiters (ap (λ (l : Line). list_any (has_key x) l.waiters) (sym (here c e)) ∙ h))
      by (inr ne) = st.keys c x (ap (λ (l : Line). list_any (has_key x) l.waiters) (sym (there c ne)) ∙ h)

  waiters_after : (c : ℕ) → AreWaiters (V' c).waiters
  waiters_after c = by (same_or_not (chain a) c)
    where
      by : (c ≡ chain a) ⊎ (c ≢ chain a) → AreWaiters (V' c).waiters
      by (inl e) = subst (λ (l : Line). AreWaiters l.waiters) (sym (here c e)) ((stays_a_line (V c) (st.waiters c)).left (matches a bits) n notes.Woken)
      by (inr ne) = subst (λ (l : Line). AreWaiters l.waiters) (sym (there c ne)) (st.waiters c)

  fit_after : (c : ℕ) → All (FitsSleeper sleepers) (V' c).waiters
  fit_after c = by (same_or_not (chain a) c)
    where
      by : (c ≡ chain a) ⊎ (c ≢ chain a) → All (FitsSleeper sleepers) (V' c).waiters
      by (inl e) = subst (λ (l : Line). All (FitsSleeper sleepers) l.waiters) (sym (here c e)) (All-without_first (FitsSleeper sleepers) (matches a bits) n (V c).waiters (st.fit c))
      by (inr ne) = subst (λ (l : Line). All (FitsSleeper sleepers) l.waiters) (sym (there c ne)) (st.fit c)

  awaited_after : (c x : ℕ) → finds_in V' x c ≡ Some looked.Queued → IsAwaited sleepers V' x c
  awaited_after c x h = by (is_queued x first) refl (same_or_not (chain a) c)
    where
      by : (b : Bool) → is_queued x first ≡ b → (c ≡ chain a) ⊎ (c ≢ chain a) → IsAwaited sleepers V' x c
      by false e f = awaited_kept sleepers sleepers V V' x c refl (finds_rest x e) (st.awaited c x (sym (finds_rest x e c) ∙ h))
      by true e (inl f) = let g : Some looked.Woken ≡ Some looked.Queued = sym (finds_woken x e) ∙ sym (ap (finds_in V' x) f) ∙ h in absurd (cc)
      by true e (inr ne) = absurd (ne (one_chain sleepers V st x c (chain a) (sym (finds_other x c ne) ∙ h) (was_queued x e)))

  waits_after : (x : ℕ) (h : Sleeper) → sleepers x ≡ Some h → Waits V' x h
  waits_after x h hs = by (is_queued x first) refl
    where
      by : (b : Bool) → is_queued x first ≡ b → Waits V' x h
      by false e = waits_kept V V' x h (finds_rest x e) (st.waits x h hs)
      by true e =
          let way = way_to sleepers V st x h (chain a) hs (was_queued x e) in
          record {
            last = chain a;
            moves = way.0;
            way = leads_kept way.0 (finds_in V x) (finds_in V' x) (chain h.at) (chain a) (notes_kept x e) way.1;
            found = woken_ends (finds_in V' x (chain a)) (finds_woken x e);
            stays = λ many. place_moves sleepers V st x h (chain a) way.0 hs (was_queued x e) many way.1;
          }

  -- Notes
  pub release_leads : NotesLead sleepers (signal_at V a n bits)
  release_leads = record { keys = keys_after; waiters = waiters_after; fit = fit_after; awaited = awaited_after; waits = waits_after }

-- Chains
module _ (tids : ℕ → ℕ) (V : ℕ → Line) (q : List LxWaiter) (st : QueueStands tids V q) (a n bits : ℕ) where
  abbrev V'' : ℕ → Line
  V'' = signal_at V a n bits

  queue_after : (x : ℕ) → filter (has_address x) (without_first (queue.matches a bits) n q) ≡ map (linux_waiter tids) (filter (has_key x) (V'' (chain x)).waiters)
  queue_after x = by (same_or_not (chain a) (chain x))
    where
      by : (chain x ≡ chain a) ⊎ (chain x ≢ chain a) → filter (has_address x) (without_first (queue.matches a bits) n q) ≡ map (linux_waiter tids) (filter (has_key x) (V'' (chain x)).waiters)
      by (inl e) =
          queue_cut (linux_waiter tids) has_address has_key (same_address tids) (queue.matches a bits) a x (within_address a bits) (elsewhere (queue.matches a bits) a x (within_address a bits)) n q (V (chain a)).waiters (st.at a) (st.at x ∙ ap (λ c. map (linux_waiter tids) (filter (has_key x) (V c).waiters)) e)
          ∙ ap (λ (l : Line). map (linux_waiter tids) (filter (has_key x) l.waiters)) (ap (λ c. signalled (V c) a n bits) (sym e) ∙ sym (at_same (chain a) (λ l. signalled l a n bits) V (chain x) e))
      by (inr ne) =
          filter-without_first_apart (queue.matches a bits) (has_address x) (elsewhere (queue.matches a bits) a x (within_address a bits) (λ e. ne (ap chain e))) n q
          ∙ st.at x ∙ ap (λ (l : Line). map (linux_waiter tids) (filter (has_key x) l.waiters)) (sym (at_other (chain a) (λ l. signalled l a n bits) V (chain x) ne))

  pub release_stands : QueueStands tids (signal_at V a n bits) (queue.released a n bits q)
  release_stands = record { at = λ x. ap (filter (has_address x)) (without_is n (queue.matches a bits) q) ∙ queue_after x }

  -- as many are released
  pub release_count : length (queue.leaving a n bits q) ≡ length (first_of (matches a bits) n (V (chain a)).waiters)
  release_count =
      ap length (first_is n (queue.matches a bits) q ∙ same_first (linux_waiter tids) has_address has_key (same_address tids) (queue.matches a bits) a (within_address a bits) n q (V (chain a)).waiters (st.at a))
      ∙ length-map (first_of (matches a bits) n (V (chain a)).waiters) (linux_waiter tids)
