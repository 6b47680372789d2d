-- What a slot and place finds in a line after a call.
use Rattle.std.proofs.Common.{◌≡◌, ◌≢◌, ℕ, Bool, true, false, List, Option, Some, None, refl, ap, ◌∙◌, cond}
use Rattle.std.specs.Prelude.{option_map}
use Rattle.std.specs.FinMap as finite
use Rattle.umtx_queue.specs.declared.waiter.Waiter.{Waiter}
use Rattle.umtx_queue.specs.declared.waiter.Note.{Note}
use Rattle.umtx_queue.specs.declared.waiter.Note.TheVariants as notes
use Rattle.umtx_queue.specs.declared.waiter.Looked.{Looked}
use Rattle.umtx_queue.specs.declared.waiter.Looked.TheVariants as looked
use Rattle.umtx_queue.specs.Lists.{first_of}
use Rattle.umtx_queue.specs.Notes.{told}
use Rattle.umtx_queue.specs.Waiters.{is_of, is_queued, slot_of, AreWaiters}
use Rattle.umtx_queue.specs.Lines.{Line, finds, left, joined, removed}
use Rattle.umtx_queue.proofs.LineLaws.{finds_after}
use Rattle.chains_stand.proofs.Lists.{any-first_of, is_other, is_same}

-- who is queued finds that
pub is_found : (line : Line) (i : ℕ) → is_queued i line.waiters ≡ true → finds line i ≡ Some looked.Queued
is_found line i h = ap (λ b. cond b (Some looked.Queued) (option_map told (finite.get line.notes i))) h

pub queued_is : (line : Line) (i : ℕ) → finds line i ≡ Some looked.Queued → is_queued i line.waiters ≡ true
queued_is line i h = by (is_queued i line.waiters) (finite.get line.notes i) h
  where
    by : (b : Bool) (n : Option Note) → ◌≡◌ {A = Option Looked} (cond b (Some looked.Queued) (option_map told n)) (Some looked.Queued) → b ≡ true
    by true n e = refl
    by false None e = cc
    by false (Some notes.Woken) e = cc
    by false (Some (notes.Moved k)) e = cc

-- who leaves finds the note
pub look_left : (line : Line) (p : Waiter → Bool) (n : ℕ) (note : Note) (i : ℕ) → AreWaiters line.waiters → is_queued i (first_of p n line.waiters) ≡ true → finds (left line p n note) i ≡ Some (told note)
look_left line p n note i are h = (finds_after line i are).left p n note ∙ ap (λ b. cond b (Some (told note)) (finds line i)) h

-- who stays finds what it found
pub look_stays : (line : Line) (p : Waiter → Bool) (n : ℕ) (note : Note) (i : ℕ) → AreWaiters line.waiters → is_queued i (first_of p n line.waiters) ≡ false → finds (left line p n note) i ≡ finds line i
look_stays line p n note i are h = (finds_after line i are).left p n note ∙ ap (λ b. cond b (Some (told note)) (finds line i)) h

-- who was to leave was queued
pub look_first : (line : Line) (p : Waiter → Bool) (n i : ℕ) → is_queued i (first_of p n line.waiters) ≡ true → finds line i ≡ Some looked.Queued
look_first line p n i h = is_found line i (any-first_of p (is_of i) n line.waiters h)

-- who joins is queued
pub look_joins : (line : Line) (ws : List Waiter) (i : ℕ) → AreWaiters line.waiters → is_queued i ws ≡ true → finds (joined line ws) i ≡ Some looked.Queued
look_joins line ws i are h = (finds_after line i are).joined ws ∙ ap (λ b. cond b (Some looked.Queued) (finds line i)) h

-- who does not join finds what it found
pub look_apart : (line : Line) (ws : List Waiter) (i : ℕ) → AreWaiters line.waiters → is_queued i ws ≡ false → finds (joined line ws) i ≡ finds line i
look_apart line ws i are h = (finds_after line i are).joined ws ∙ ap (λ b. cond b (Some looked.Queued) (finds line i)) h

-- a slot that is removed finds nothing
pub look_removed_own : (line : Line) (s i : ℕ) → AreWaiters line.waiters → slot_of i ≡ s → finds (removed line s) i ≡ None
look_removed_own line s i are e = (finds_after line i are).removed s ∙ ap (λ b. cond b None (finds line i)) (is_same (slot_of i) s e)

-- and others what they found
pub look_removed_other : (line : Line) (s i : ℕ) → AreWaiters line.waiters → slot_of i ≢ s → finds (removed line s) i ≡ finds line i
look_removed_other line s i are ne = (finds_after line i are).removed s ∙ ap (λ b. cond b None (finds line i)) (is_other (slot_of i) s ne)
