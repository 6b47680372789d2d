-- Which step puts a place of a wait into the futex queue.
use Rattle.std.proofs.Common.{◌≡◌, ℕ, Bool, true, false, ◌&&◌, ◌||◌, List, [], ◌∷◌, refl, sym, ap, ◌∙◌, arith, ◌==◌}
use Rattle.lx_machine.specs.Queue.{is_place, is_place_queued, is_queued, is_thread}
use Rattle.lx_machine.specs.Shape.{stage_of}
use Rattle.lx_machine.specs.declared.calls.Stage.{Stage}
use Rattle.lx_machine.specs.declared.calls.Stage.TheVariants as stage
use Rattle.lx_machine.specs.declared.label.Label.{Label}
use Rattle.lx_machine.specs.declared.label.Label.TheVariants as label
use Rattle.lx_machine.specs.declared.state.LinuxState.{LinuxState}
use Rattle.lx_machine.specs.declared.threads.LxWaiter.{LxWaiter}
use Rattle.lx_laws.specs.Waiters.{IsQueueOf, OnlyItsOwnQueues, OnlyQueueQueues, QueuesPlace}
use Rattle.lx_laws.proofs.Apart.{both, equal}
use Rattle.lx_laws.proofs.Callers.{follow}
use Rattle.lx_laws.proofs.Frame.{Changes, NoLocks, QueuedTo, StaysBut, changes}
use Rattle.lx_laws.proofs.Lists.{neither}
use Rattle.lx_laws.proofs.Queues.{NoneNew, not_both}

-- a place that is new is its thread's, and is what comes next
is_new : (st : Stage) (own : ℕ) (ws ws' : List LxWaiter) (tid place : ℕ) → QueuedTo st own ws ws' → is_place_queued tid place ws ≡ false → is_place_queued tid place ws' ≡ true → (own ≡ tid) × QueuesPlace st place
is_new (stage.Queue w) own ws ws' tid place h before after =
    let two = both (own == tid) (w.place == place) (h (is_place tid place) (λ v to. refl) before after) in (sym (equal own tid two.0), sym (equal w.place place two.1))
is_new _ own ws ws' tid place h before after = absurd h

not_new : (ws ws' : List LxWaiter) (tid place : ℕ) → NoneNew ws ws' → is_place_queued tid place ws ≡ false → is_place_queued tid place ws' ≡ true → ⊥
not_new ws ws' tid place h before after = not_both (is_place_queued tid place ws') (h (is_place tid place) (λ v to. refl) before) after

same_place : (ws ws' : List LxWaiter) (tid place : ℕ) → ws' ≡ ws → is_place_queued tid place ws ≡ false → is_place_queued tid place ws' ≡ true → ⊥
same_place ws ws' tid place e before after = not_both (is_place_queued tid place ws) before (sym (ap (is_place_queued tid place) e) ∙ after)

by_label : (L next : LinuxState) (l : Label) (tid place : ℕ) → Changes L l next → is_place_queued tid place L.queue ≡ false → is_place_queued tid place next.queue ≡ true → IsQueueOf L l tid place
by_label L next (label.Queue s) tid place h before after =
    follow L s (λ t c. StaysBut (QueuedTo (stage_of c) t.tid) (NoLocks (stage_of c) t.tid) L next) (λ t c. (t.tid ≡ tid) × QueuesPlace (stage_of c) place)
    (λ t c k. is_new (stage_of c) t.tid L.queue next.queue tid place k.waiters before after) h
by_label L next (label.Time t) tid place h before after = absurd (same_place L.queue next.queue tid place h.2 before after)
by_label L next (label.Drain which n) tid place h before after = absurd (same_place L.queue next.queue tid place h.2 before after)
by_label L next (label.PiLock s) tid place h before after = absurd (not_new L.queue next.queue tid place h.holds.waiters before after)
by_label L next (label.PiUnlock s) tid place h before after = absurd (not_new L.queue next.queue tid place h.holds.waiters before after)
by_label L next (label.Mark s) tid place h before after = absurd (not_new L.queue next.queue tid place h.holds.waiters before after)
by_label L next (label.Expire s) tid place h before after = absurd (not_new L.queue next.queue tid place h.holds.waiters before after)
by_label L next (label.Interrupt s list sig) tid place h before after = absurd (not_new L.queue next.queue tid place h.holds.waiters before after)
by_label L next _ tid place h before after = absurd (not_new L.queue next.queue tid place h.waiters before after)

pub only_queue : OnlyQueueQueues
only_queue L next l tid place e = by_label L next l tid place (changes L next l e)

-- ---- a thread

-- a thread that is queued has a place that is
some_place : (tid : ℕ) (ws : List LxWaiter) → is_queued tid ws ≡ true → (place : ℕ) × (is_place_queued tid place ws ≡ true)
some_place tid [] e = absurd (cc)
some_place tid (w ∷ ws) e = by (some_place tid ws) (is_thread tid w) refl e
  where
    same : (n : ℕ) → (n == n) ≡ true
    same n = grind arith

    by : (is_queued tid ws ≡ true → (place : ℕ) × (is_place_queued tid place ws ≡ true)) → (b : Bool) → (w.tid == tid) ≡ b → (b || is_queued tid ws) ≡ true → (place : ℕ) × (is_place_queued tid place (w ∷ ws) ≡ true)
    by ih true f g = (w.place, ap (λ (b : Bool). (b && (w.place == w.place)) || is_place_queued tid w.place ws) f ∙ ap (λ (b : Bool). b || is_place_queued tid w.place ws) (same w.place))
    by ih false f g = let rest = ih g in (rest.0, or_true (is_place tid rest.0 w) (is_place_queued tid rest.0 ws) rest.1)
      where
        or_true : (a b : Bool) → b ≡ true → (a || b) ≡ true
        or_true true b h = refl
        or_true false b h = h

-- and one that isn't has none
no_places : (tid place : ℕ) (ws : List LxWaiter) → is_queued tid ws ≡ false → is_place_queued tid place ws ≡ false
no_places tid place [] e = refl
no_places tid place (w ∷ ws) e =
    let two = neither (is_thread tid w) (is_queued tid ws) e in
    ap (λ (b : Bool). (b && (w.place == place)) || is_place_queued tid place ws) two.0 ∙ no_places tid place ws two.1

pub only_own : OnlyItsOwnQueues
only_own L next l tid e before after =
    let there = some_place tid next.queue after in (there.0, only_queue L next l tid there.0 e (no_places tid there.0 L.queue before) there.1)
