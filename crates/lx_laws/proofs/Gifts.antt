-- Which step lets a thread wait for a lock, and which gives it one.
use Rattle.std.proofs.Common.{◌≡◌, ℕ, true, false, List, sym, ◌∙◌}
use Rattle.lx_machine.specs.Shape.{stage_of}
use Rattle.lx_machine.specs.declared.calls.Stage.TheVariants as stage
use Rattle.lx_machine.specs.declared.label.Label.{Label}
use Rattle.lx_machine.specs.declared.label.Label.TheVariants as label
use Rattle.lx_machine.specs.declared.state.LinuxState.{LinuxState}
use Rattle.lx_machine.specs.declared.threads.PiWaiter.{PiWaiter}
use Rattle.lx_laws.specs.Callers.{IsInCall}
use Rattle.lx_laws.specs.Locks.{AsksForLock, GivesLock, IsFirst, IsPiLockOf, LeavesLock, OnlyPiLockWaits, OnlyTheGivenLeave, awaits}
use Rattle.lx_laws.proofs.Callers.{follow}
use Rattle.lx_laws.proofs.Frame.{Changes, GivenOf, NoPlaces, StaysBut, StaysOf, changes}
use Rattle.lx_laws.proofs.Locks.{EndedTo, LockedTo, asks, ended_leaves, ended_nobody, given_leaves, given_nobody, locked_stays, same_awaits}
use Rattle.lx_laws.proofs.Queues.{not_both}

-- ---- into the queue

nobody : (vs vs' : List PiWaiter) (tid at : ℕ) → vs' ≡ vs → awaits tid at vs ≡ false → awaits tid at vs' ≡ true → ⊥
nobody vs vs' tid at e before after = not_both (awaits tid at vs) before (sym (same_awaits vs vs' tid at e) ∙ after)

waits_by : (L next : LinuxState) (l : Label) (tid at : ℕ) → Changes L l next → awaits tid at L.pi_queue ≡ false → awaits tid at next.pi_queue ≡ true → IsPiLockOf L l tid at
waits_by L next (label.PiLock s) tid at h before after =
    follow L s (λ t c. StaysBut (NoPlaces (stage_of c) t.tid) (LockedTo (stage_of c) t.tid) L next) (λ t c. (t.tid ≡ tid) × AsksForLock (stage_of c) at)
    (λ t c k. asks (stage_of c) t.tid L.pi_queue next.pi_queue tid at k.locks before after) h
waits_by L next (label.PiUnlock s) tid at h before after = absurd (not_both (awaits tid at next.pi_queue) (given_nobody (stage_of h.call) L.pi_queue next.pi_queue h.holds.locks tid at before) after)
waits_by L next (label.Mark s) tid at h before after = absurd (not_both (awaits tid at next.pi_queue) (given_nobody (stage_of h.call) L.pi_queue next.pi_queue h.holds.locks tid at before) after)
waits_by L next (label.Expire s) tid at h before after =
    absurd (not_both (awaits tid at next.pi_queue) (ended_nobody (stage_of h.call) h.thread.tid L.pi_queue next.pi_queue h.holds.locks tid at before) after)
waits_by L next (label.Interrupt s list sig) tid at h before after =
    absurd (not_both (awaits tid at next.pi_queue) (ended_nobody (stage_of h.call) h.thread.tid L.pi_queue next.pi_queue h.holds.locks tid at before) after)
waits_by L next (label.Time t) tid at h before after = absurd (nobody L.pi_queue next.pi_queue tid at h.3 before after)
waits_by L next (label.Drain which n) tid at h before after = absurd (nobody L.pi_queue next.pi_queue tid at h.3 before after)
waits_by L next (label.Queue s) tid at h before after = absurd (nobody L.pi_queue next.pi_queue tid at h.holds.locks before after)
waits_by L next _ tid at h before after = absurd (nobody L.pi_queue next.pi_queue tid at h.locks before after)

pub only_pi_lock : OnlyPiLockWaits
only_pi_lock L next l tid at e = waits_by L next l tid at (changes L next l e)

-- ---- out of the queue

still : (vs vs' : List PiWaiter) (tid at : ℕ) → vs' ≡ vs → awaits tid at vs ≡ true → awaits tid at vs' ≡ false → ⊥
still vs vs' tid at e before after = not_both (awaits tid at vs) (sym (same_awaits vs vs' tid at e) ∙ after) before

given : (L next : LinuxState) (s tid at : ℕ) → StaysOf L s NoPlaces GivenOf next → awaits tid at L.pi_queue ≡ true → awaits tid at next.pi_queue ≡ false → IsFirst L tid at × IsInCall L s (λ t c. GivesLock (stage_of c) at)
given L next s tid at h before after =
    let known = given_leaves (stage_of h.call) tid at L.pi_queue next.pi_queue h.holds.locks before after in
    (known.1, record { thread = h.thread; call = h.call; in_place = h.in_place; in_call = h.in_call; holds = known.0 })

ended : (L next : LinuxState) (s tid at : ℕ) → StaysOf L s NoPlaces EndedTo next → awaits tid at L.pi_queue ≡ true → awaits tid at next.pi_queue ≡ false → IsInCall L s (λ t c. (t.tid ≡ tid) × (stage_of c ≡ stage.PiWait))
ended L next s tid at h before after =
    follow L s (λ t c. StaysBut (NoPlaces (stage_of c) t.tid) (EndedTo (stage_of c) t.tid) L next) (λ t c. (t.tid ≡ tid) × (stage_of c ≡ stage.PiWait))
    (λ t c k. ended_leaves (stage_of c) t.tid tid at L.pi_queue next.pi_queue k.locks before after) h

leaves_by : (L next : LinuxState) (l : Label) (tid at : ℕ) → Changes L l next → awaits tid at L.pi_queue ≡ true → awaits tid at next.pi_queue ≡ false → LeavesLock L l tid at
leaves_by L next (label.PiUnlock s) tid at h before after = given L next s tid at h before after
leaves_by L next (label.Mark s) tid at h before after = given L next s tid at h before after
leaves_by L next (label.Expire s) tid at h before after = ended L next s tid at h before after
leaves_by L next (label.Interrupt s list sig) tid at h before after = ended L next s tid at h before after
leaves_by L next (label.PiLock s) tid at h before after =
    absurd (not_both (awaits tid at next.pi_queue) after (locked_stays (stage_of h.call) h.thread.tid L.pi_queue next.pi_queue tid at h.holds.locks before))
leaves_by L next (label.Time t) tid at h before after = absurd (still L.pi_queue next.pi_queue tid at h.3 before after)
leaves_by L next (label.Drain which n) tid at h before after = absurd (still L.pi_queue next.pi_queue tid at h.3 before after)
leaves_by L next (label.Queue s) tid at h before after = absurd (still L.pi_queue next.pi_queue tid at h.holds.locks before after)
leaves_by L next _ tid at h before after = absurd (still L.pi_queue next.pi_queue tid at h.locks before after)

pub only_the_given : OnlyTheGivenLeave
only_the_given L next l tid at e = leaves_by L next l tid at (changes L next l e)
