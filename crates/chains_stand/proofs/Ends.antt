-- A slot and place that is queued, and the chain where it is.
use Rattle.std.proofs.Common.{◌≡◌, ◌≢◌, ℕ, true, false, List, Option, Some, None, refl, sym, ap, ◌∙◌, subst}
use Rattle.std.specs.List.{All}
use Rattle.umtx_queue.specs.declared.waiter.Waiter.{Waiter}
use Rattle.umtx_queue.specs.declared.waiter.Looked.{Looked}
use Rattle.umtx_queue.specs.declared.waiter.Looked.TheVariants as looked
use Rattle.umtx_queue.specs.Waiters.{is_of, is_queued, who}
use Rattle.umtx_queue.specs.Lines.{Line}
use Rattle.umtx_queue.proofs.NoteMaps.{same_number}
use Rattle.places.specs.Places.{chain}
use Rattle.chains_stand.specs.Notes.{finds_in, FitsSleeper, IsAwaited, IsEnd, Leads, NotesLead, Sleeper, Waits}
use Rattle.chains_stand.proofs.Lists.{found_in}
use Rattle.chains_stand.proofs.Ways.{leads_kept, leads_length, leads_once}

-- what a wait finds at its end is no note of a move
pub no_note : (l : Option Looked) → IsEnd l → (k : ℕ) → l ≢ Some (looked.Moved k)
no_note None f k e = absurd f
no_note (Some looked.Queued) f k e = cc
no_note (Some looked.Woken) f k e = cc
no_note (Some (looked.Moved j)) f k e = absurd f

pub no_note_queued : (l : Option Looked) → l ≡ Some looked.Queued → (k : ℕ) → l ≢ Some (looked.Moved k)
no_note_queued l h k e = cc

pub queued_ends : (l : Option Looked) → l ≡ Some looked.Queued → IsEnd l
queued_ends l h = subst IsEnd (sym h) tt

pub woken_ends : (l : Option Looked) → l ≡ Some looked.Woken → IsEnd l
woken_ends l h = subst IsEnd (sym h) tt

-- the sleepers of the other slots and places
abbrev pub SameBut : {A : Type 0} → ℕ → (ℕ → A) → (ℕ → A) → Type 0
SameBut i f g = (x : ℕ) → x ≢ i → g x ≡ f x

module _ (sleepers : ℕ → Option Sleeper) (V : ℕ → Line) (st : NotesLead sleepers V) where
  -- who is queued is at the end of its way
  pub way_to : (i : ℕ) (h : Sleeper) (c : ℕ) → sleepers i ≡ Some h → finds_in V i c ≡ Some looked.Queued → (n : ℕ) × Leads n (finds_in V i) (chain h.at) c
  way_to i h c hs hc =
      let x = st.awaited c i hc in
      let e : x.sleeper ≡ h = let p = x.sleeps in cc in
      (x.moves, subst (λ (z : Sleeper). Leads x.moves (finds_in V i) (chain z.at) c) e x.way)

  -- a slot and place is queued in one chain
  pub one_chain : (i c d : ℕ) → finds_in V i c ≡ Some looked.Queued → finds_in V i d ≡ Some looked.Queued → c ≡ d
  one_chain i c d hc hd =
      let x = st.awaited c i hc in
      let y = way_to i x.sleeper d x.sleeps hd in
      leads_once x.moves y.0 (finds_in V i) (chain x.sleeper.at) c d (no_note_queued (finds_in V i c) hc) (no_note_queued (finds_in V i d) hd) x.way y.1

  -- who is no sleeper is queued nowhere
  pub no_sleeper : (i : ℕ) → sleepers i ≡ None → (c : ℕ) → finds_in V i c ≢ Some looked.Queued
  no_sleeper i none c hc = let x = st.awaited c i hc in let j : None ≡ Some x.sleeper = sym none ∙ x.sleeps in cc

  -- where it looks and is not sent on, there it is queued, or nowhere
  pub only_here : (i : ℕ) (h : Sleeper) → sleepers i ≡ Some h → ((k : ℕ) → finds_in V i (chain h.at) ≢ Some (looked.Moved k)) → (c : ℕ) → finds_in V i c ≡ Some looked.Queued → c ≡ chain h.at
  only_here i h hs end c hc =
      let way = way_to i h c hs hc in
      leads_once way.0 0 (finds_in V i) (chain h.at) c (chain h.at) (no_note_queued (finds_in V i c) hc) end way.1 refl

  -- who is woken is queued nowhere
  pub woken_nowhere : (i : ℕ) (h : Sleeper) → sleepers i ≡ Some h → finds_in V i (chain h.at) ≡ Some looked.Woken → (c : ℕ) → finds_in V i c ≢ Some looked.Queued
  woken_nowhere i h hs woken c hc =
      let f = only_here i h hs (λ k j. let g : Some looked.Woken ≡ Some (looked.Moved k) = sym woken ∙ j in cc) c hc in
      let g : Some looked.Woken ≡ Some looked.Queued = sym woken ∙ ap (finds_in V i) (sym f) ∙ hc in
      cc

  -- one of many places is queued or was woken where it looks
  pub place_ends : (i : ℕ) (h : Sleeper) → sleepers i ≡ Some h → h.many ≡ true → IsEnd (finds_in V i (chain h.at))
  place_ends i h hs many =
      let w = st.waits i h hs in
      let way : Leads 0 (finds_in V i) (chain h.at) w.last = subst (λ (n : ℕ). Leads n (finds_in V i) (chain h.at) w.last) (w.stays many) w.way in
      subst (λ (c : ℕ). IsEnd (finds_in V i c)) (sym way) w.found

  -- and where it is queued no note has led it
  pub place_moves : (i : ℕ) (h : Sleeper) (c n : ℕ) → sleepers i ≡ Some h → finds_in V i c ≡ Some looked.Queued → h.many ≡ true → Leads n (finds_in V i) (chain h.at) c → n ≡ 0
  place_moves i h c n hs hc many way =
      let w = st.waits i h hs in
      let e : c ≡ w.last = leads_once n w.moves (finds_in V i) (chain h.at) c w.last (no_note_queued (finds_in V i c) hc) (no_note (finds_in V i w.last) w.found) way w.way in
      leads_length n w.moves (finds_in V i) (chain h.at) c (no_note_queued (finds_in V i c) hc) way (subst (Leads w.moves (finds_in V i) (chain h.at)) (sym e) w.way) ∙ w.stays many

  -- a sleeper of which the waiter is no place of many isn't one of many
  pub plain_sleeper : (i : ℕ) (h : Sleeper) (c : ℕ) (ws : List Waiter) → All (FitsSleeper sleepers) ws → All (λ w. w.many ≡ false) ws → is_queued i ws ≡ true → sleepers i ≡ Some h → h.many ≡ false
  plain_sleeper i h c ws fit plain q hs =
      let r = found_in (λ (w : Waiter). FitsSleeper sleepers w × (w.many ≡ false)) (is_of i) ws (λ k d l. (fit k d l, plain k d l)) q in
      let same : who r.0 ≡ i = same_number (who r.0) i r.2 in
      let of = r.1.0 h (ap sleepers same ∙ hs) in
      sym of.many ∙ r.1.1

-- where a slot and place finds the same as before
pub waits_kept : (V V' : ℕ → Line) (i : ℕ) (h : Sleeper) → ((c : ℕ) → finds_in V' i c ≡ finds_in V i c) → Waits V i h → Waits V' i h
waits_kept V V' i h same w = record {
  last = w.last;
  moves = w.moves;
  way = leads_kept w.moves (finds_in V i) (finds_in V' i) (chain h.at) w.last (λ d k e. same d ∙ e) w.way;
  found = subst IsEnd (sym (same w.last)) w.found;
  stays = w.stays;
}

pub awaited_kept : (sleepers sleepers' : ℕ → Option Sleeper) (V V' : ℕ → Line) (i c : ℕ) → sleepers' i ≡ sleepers i → ((d : ℕ) → finds_in V' i d ≡ finds_in V i d) → IsAwaited sleepers V i c → IsAwaited sleepers' V' i c
awaited_kept sleepers sleepers' V V' i c asleep same w = record {
  sleeper = w.sleeper;
  sleeps = asleep ∙ w.sleeps;
  moves = w.moves;
  way = leads_kept w.moves (finds_in V i) (finds_in V' i) (chain w.sleeper.at) c (λ d k e. same d ∙ e) w.way;
}
