-- What each step leaves of those that wait for locks.
use Rattle.std.proofs.Common.{◌≡◌, ℕ, Bool, true, false, cond, not, ◌&&◌, ◌||◌, List, [], ◌∷◌, ◌++◌, Option, Some, None, IfSome, ◌⊎◌, inl, inr, refl, sym, ap, ◌∙◌, if◌then◌else◌, ◌==◌}
use Rattle.std.proofs.lemmas.List.Folds.{list_any-append}
use Rattle.std.specs.Prelude.{find}
use Rattle.linux_abi.specs.declared.errno.LinuxErrno.{LinuxErrno}
use Rattle.linux_abi.specs.declared.errno.LinuxErrno.TheVariants as errno
use Rattle.lx_machine.specs.Calls.{refused, waits_no_more}
use Rattle.lx_machine.specs.Futex.{readable_word, writable_word}
use Rattle.lx_machine.specs.FutexPi.{LockOutcome, PiOutcome, has_owner, lock_awaited, lock_expired, lock_given_up, lock_refused, lock_taken, lock_word, lock_written, locked, locked_by, owner, pi_waiter, unlocked, unlocked_by, unlocked_for, awaited_word}
use Rattle.lx_machine.specs.PiQueue.{first_pi, is_pi_at, is_pi_queued, is_pi_thread, without_first_pi, without_pi_of}
use Rattle.lx_machine.specs.RobustList.{Futexes, hands_over, is_given_back, marked, marked_by, not_owned, one_released, orphans, owned, has_waiters}
use Rattle.lx_machine.specs.Time.{has_passed}
use Rattle.lx_machine.specs.declared.calls.LxCall.{LxCall}
use Rattle.lx_machine.specs.declared.calls.Stage.{Stage}
use Rattle.lx_machine.specs.declared.calls.Stage.TheVariants as stage
use Rattle.lx_machine.specs.declared.futexes.Mark.{Mark}
use Rattle.lx_machine.specs.declared.futexes.PiLock.{PiLock}
use Rattle.lx_machine.specs.declared.threads.LxThread.{LxThread}
use Rattle.lx_machine.specs.declared.threads.PiWaiter.{PiWaiter}
use Rattle.page_store.specs.Pages.{Pages}
use Rattle.lx_laws.specs.Locks.{AsksForLock, GivesLock, awaits}
use Rattle.lx_laws.proofs.Apart.{both, equal, some_is}
use Rattle.lx_laws.proofs.Lists.{neither, none_filtered, none_left}
use Rattle.lx_laws.proofs.Queues.{not_both}
use Rattle.lx_laws.proofs.Results.{if_of, if_of_at, of_if}

abbrev pub SameLocks : List PiWaiter → List PiWaiter → Type 0
SameLocks vs vs' = vs' ≡ vs

-- ---- what PiLock, PiUnlock and Mark, and the end of a wait, leave: by the stage of the call, and by its thread's tid

abbrev pub LockedTo : Stage → ℕ → List PiWaiter → List PiWaiter → Type 0
LockedTo (stage.PiLock l) own vs vs' = (vs' ≡ vs) ⊎ ((l.tries ≡ false) × (vs' ≡ vs ++ pi_waiter own l.at ∷ []))
LockedTo _ own vs vs' = ⊥

abbrev pub FirstLeft : ℕ → List PiWaiter → List PiWaiter → Type 0
FirstLeft at vs vs' = (w : PiWaiter) × (first_pi at vs ≡ Some w) × (vs' ≡ without_first_pi at vs)

abbrev pub GivenTo : Stage → List PiWaiter → List PiWaiter → Type 0
GivenTo (stage.PiUnlock at) vs vs' = (vs' ≡ vs) ⊎ FirstLeft at vs vs'
GivenTo (stage.Mark m) vs vs' = (vs' ≡ vs) ⊎ ((m.inherits ≡ true) × FirstLeft m.at vs vs')
GivenTo _ vs vs' = ⊥

abbrev pub EndedTo : Stage → ℕ → List PiWaiter → List PiWaiter → Type 0
EndedTo stage.PiWait own vs vs' = vs' ≡ without_pi_of own vs
EndedTo _ own vs vs' = vs' ≡ vs

-- ---- PiLock

module _ (pages : Pages) (threads : List (Option LxThread)) (own : ℕ) (vs : List PiWaiter) (c : LxCall) (l : PiLock) where
  abbrev Locked : LockOutcome → Type 0
  Locked o = LockedTo (stage.PiLock l) own vs o.pi_queue

  awaited : (word : ℕ) → Locked (lock_awaited pages own vs c l word)
  awaited word =
      if_of_at Locked l.tries (lock_refused pages vs c errno.EAGAIN) (lock_written pages (vs ++ pi_waiter own l.at ∷ []) (record c { waits = true }) l.at (awaited_word word)) (λ e. inl refl) (λ e. inr (e, refl))

  by_word : (o : Option ℕ) → Locked (locked_by pages threads own vs c l o)
  by_word None = inl refl
  by_word (Some word) =
      if_of Locked (owner word == own) (lock_refused pages vs c errno.EDEADLK) _ (inl refl)
      (if_of Locked (owner word == 0) (lock_taken pages own vs c l word) _ (inl refl)
      (if_of Locked (has_owner threads (owner word)) (lock_awaited pages own vs c l word) (lock_refused pages vs c errno.ESRCH) (awaited word) (inl refl)))

  pub locks : Locked (locked pages threads own vs c l)
  locks = by_word (lock_word pages l.at)

-- ---- PiUnlock and Mark

module _ (pages : Pages) (own : ℕ) (vs : List PiWaiter) (c : LxCall) (at : ℕ) where
  abbrev Unlocked : LockOutcome → Type 0
  Unlocked o = GivenTo (stage.PiUnlock at) vs o.pi_queue

  to_first : (o : Option PiWaiter) → first_pi at vs ≡ o → Unlocked (unlocked_for pages vs c at o)
  to_first None e = inl refl
  to_first (Some w) e = inr (w, e, refl)

  of_word : (o : Option ℕ) → Unlocked (unlocked_by pages own vs c at o)
  of_word None = inl refl
  of_word (Some word) = if_of Unlocked (owner word == own) (unlocked_for pages vs c at (first_pi at vs)) (lock_refused pages vs c errno.EPERM) (to_first (first_pi at vs) refl) (inl refl)

  pub unlocks : Unlocked (unlocked pages own vs c at)
  unlocks = of_word (lock_word pages at)

module _ (rules : ℕ) (pages : Pages) (own : ℕ) (fs : Futexes) (m : Mark) where
  abbrev Given : Futexes → Type 0
  Given gs = GivenTo (stage.Mark m) fs.pi_queue gs.pi_queue

  handed : (word : ℕ) (o : Option PiWaiter) → m.inherits ≡ true → first_pi m.at fs.pi_queue ≡ o → Given (hands_over pages fs m word o).left
  handed word None inherits e = inl refl
  handed word (Some w) inherits e = inr (inherits, (w, e, refl))

  released_if : (b : Bool) → Given (if b then one_released fs m else fs)
  released_if b = if_of Given b (one_released fs m) fs (inl refl) (inl refl)

  by_owner : (o : Option ℕ) → Given (owned pages fs m o).left
  by_owner None = inl refl
  by_owner (Some word) =
      if_of_at (λ o. Given o.left) m.inherits (hands_over pages fs m word (first_pi m.at fs.pi_queue)) (orphans pages fs m word) (λ e. handed word (first_pi m.at fs.pi_queue) e refl) (λ e. released_if (has_waiters word))

  of_marked : (o : Option ℕ) → Given (marked_by rules pages own fs m o).left
  of_marked None = inl refl
  of_marked (Some word) =
      if_of (λ o. Given o.left) (owner word == own) (owned pages fs m (writable_word pages m.at)) (not_owned rules pages fs m word) (by_owner (writable_word pages m.at)) (released_if (is_given_back rules m word))

  pub marks : Given (marked rules pages own fs m).left
  marks = of_marked (readable_word pages m.at)

-- ---- waits that end

abbrev pub Ended : ℕ → List PiWaiter → PiOutcome → Type 0
Ended own vs o = o.pi_queue ≡ without_pi_of own vs

pub given_up : (e : LinuxErrno) (own : ℕ) (vs : List PiWaiter) (c : LxCall) → IfSome (lock_given_up e own vs c) (Ended own vs)
given_up e own vs c = of_if (Ended own vs) (c.waits && is_pi_queued own vs) (Some (record { pi_queue = without_pi_of own vs; call = refused (waits_no_more c) e })) None refl tt

pub expired : (clock own : ℕ) (vs : List PiWaiter) (c : LxCall) → IfSome (lock_expired clock own vs c) (Ended own vs)
expired clock own vs c = of_if (Ended own vs) (has_passed clock c.deadline) (lock_given_up errno.ETIMEDOUT own vs c) None (given_up errno.ETIMEDOUT own vs c) tt

-- ---- who waits after it

abbrev is_waiter : ℕ → ℕ → PiWaiter → Bool
is_waiter tid at w = is_pi_thread tid w && is_pi_at at w

-- nobody new
abbrev NobodyNew : List PiWaiter → List PiWaiter → Type 0
NobodyNew vs vs' = (tid at : ℕ) → awaits tid at vs ≡ false → awaits tid at vs' ≡ false

pub same_awaits : (vs vs' : List PiWaiter) (tid at : ℕ) → vs' ≡ vs → awaits tid at vs' ≡ awaits tid at vs
same_awaits vs vs' tid at e = ap (awaits tid at) e

nobody_left : (there : ℕ) (vs vs' : List PiWaiter) → vs' ≡ without_first_pi there vs → NobodyNew vs vs'
nobody_left there vs vs' e tid at h = same_awaits (without_first_pi there vs) vs' tid at e ∙ none_left (is_waiter tid at) 1 (is_pi_at there) vs h

pub given_nobody : (st : Stage) (vs vs' : List PiWaiter) → GivenTo st vs vs' → NobodyNew vs vs'
given_nobody (stage.PiUnlock there) vs vs' (inl e) tid at h = same_awaits vs vs' tid at e ∙ h
given_nobody (stage.PiUnlock there) vs vs' (inr k) tid at h = nobody_left there vs vs' k.2 tid at h
given_nobody (stage.Mark m) vs vs' (inl e) tid at h = same_awaits vs vs' tid at e ∙ h
given_nobody (stage.Mark m) vs vs' (inr k) tid at h = nobody_left m.at vs vs' k.1.2 tid at h
given_nobody _ vs vs' k tid at h = absurd k

pub ended_nobody : (st : Stage) (own : ℕ) (vs vs' : List PiWaiter) → EndedTo st own vs vs' → NobodyNew vs vs'
ended_nobody stage.PiWait own vs vs' e tid at h = same_awaits (without_pi_of own vs) vs' tid at e ∙ none_filtered (is_waiter tid at) (λ w. not (is_pi_thread own w)) vs h
ended_nobody _ own vs vs' e tid at h = same_awaits vs vs' tid at e ∙ h

-- PiLock: its own thread, at its lock
pushed : (own there tid at : ℕ) (vs : List PiWaiter) → awaits tid at (vs ++ pi_waiter own there ∷ []) ≡ (awaits tid at vs || ((own == tid) && (there == at)))
pushed own there tid at vs = list_any-append (is_waiter tid at) vs (pi_waiter own there ∷ []) ∙ last ((own == tid) && (there == at))
  where
    last : (b : Bool) → (awaits tid at vs || (b || false)) ≡ (awaits tid at vs || b)
    last true = refl
    last false = refl

names_it : (own there tid at : ℕ) → ((own == tid) && (there == at)) ≡ true → (own ≡ tid) × (there ≡ at)
names_it own there tid at e = let two = both (own == tid) (there == at) e in (sym (equal own tid two.0), sym (equal there at two.1))

pub asks : (st : Stage) (own : ℕ) (vs vs' : List PiWaiter) (tid at : ℕ) → LockedTo st own vs vs' → awaits tid at vs ≡ false → awaits tid at vs' ≡ true → (own ≡ tid) × AsksForLock st at
asks (stage.PiLock l) own vs vs' tid at (inl e) h k = absurd (not_both (awaits tid at vs) h (sym (same_awaits vs vs' tid at e) ∙ k))
asks (stage.PiLock l) own vs vs' tid at (inr e) h k =
    let now = sym (ap (λ (b : Bool). b || ((own == tid) && (l.at == at))) h) ∙ sym (pushed own l.at tid at vs) ∙ sym (same_awaits (vs ++ pi_waiter own l.at ∷ []) vs' tid at e.1) ∙ k in
    let two = names_it own l.at tid at now in (two.0, (two.1, e.0))
asks _ own vs vs' tid at h before after = absurd h

-- whoever waits still waits after PiLock
pub locked_stays : (st : Stage) (own : ℕ) (vs vs' : List PiWaiter) (tid at : ℕ) → LockedTo st own vs vs' → awaits tid at vs ≡ true → awaits tid at vs' ≡ true
locked_stays (stage.PiLock l) own vs vs' tid at (inl e) h = same_awaits vs vs' tid at e ∙ h
locked_stays (stage.PiLock l) own vs vs' tid at (inr e) h =
    same_awaits (vs ++ pi_waiter own l.at ∷ []) vs' tid at e.1 ∙ pushed own l.at tid at vs ∙ ap (λ (b : Bool). b || ((own == tid) && (l.at == at))) h
locked_stays _ own vs vs' tid at h before = absurd h

-- ---- who leaves

leaves_first : (there tid at : ℕ) (vs : List PiWaiter) (w : PiWaiter) → first_pi there vs ≡ Some w → awaits tid at vs ≡ true → awaits tid at (without_first_pi there vs) ≡ false → (there ≡ at) × (w.tid ≡ tid)
leaves_first there tid at [] w e before after = absurd (cc)
leaves_first there tid at (v ∷ vs) w e before after = by (leaves_first there tid at vs w) (is_pi_at there v) refl e after
  where
    or_right : (a b : Bool) → a ≡ false → (a || b) ≡ true → b ≡ true
    or_right false b f g = g
    or_right true b f g = absurd (cc)

    or_left : (a b : Bool) → b ≡ false → (a || b) ≡ true → a ≡ true
    or_left true b f g = refl
    or_left false b f g = absurd (not_both b f g)

    by : (first_pi there vs ≡ Some w → awaits tid at vs ≡ true → awaits tid at (without_first_pi there vs) ≡ false → (there ≡ at) × (w.tid ≡ tid)) → (b : Bool) → is_pi_at there v ≡ b → (if b then Some v else find (is_pi_at there) vs) ≡ Some w →
        awaits tid at (if b then vs else (v ∷ without_first_pi there vs)) ≡ false → (there ≡ at) × (w.tid ≡ tid)
    by ih true is f g =
        let own = both (is_pi_thread tid v) (is_pi_at at v) (or_left (is_waiter tid at v) (awaits tid at vs) g before) in
        (equal v.address there is ∙ sym (equal v.address at own.1), ap (λ (u : PiWaiter). u.tid) (sym (some_is v w f)) ∙ sym (equal v.tid tid own.0))
    by ih false is f g =
        let two = neither (is_waiter tid at v) (awaits tid at (without_first_pi there vs)) g in
        ih f (or_right (is_waiter tid at v) (awaits tid at vs) two.0 before) two.1

pub given_leaves : (st : Stage) (tid at : ℕ) (vs vs' : List PiWaiter) → GivenTo st vs vs' → awaits tid at vs ≡ true → awaits tid at vs' ≡ false → GivesLock st at × ((w : PiWaiter) × (first_pi at vs ≡ Some w) × (w.tid ≡ tid))
given_leaves (stage.PiUnlock there) tid at vs vs' (inl e) h k = absurd (not_both (awaits tid at vs) (sym (same_awaits vs vs' tid at e) ∙ k) h)
given_leaves (stage.PiUnlock there) tid at vs vs' (inr g) h k =
    let two = leaves_first there tid at vs g.0 g.1 h (sym (same_awaits (without_first_pi there vs) vs' tid at g.2) ∙ k) in
    (two.0, (g.0, ap (λ (n : ℕ). first_pi n vs) (sym two.0) ∙ g.1, two.1))
given_leaves (stage.Mark m) tid at vs vs' (inl e) h k = absurd (not_both (awaits tid at vs) (sym (same_awaits vs vs' tid at e) ∙ k) h)
given_leaves (stage.Mark m) tid at vs vs' (inr g) h k =
    let first = g.1 in
    let two = leaves_first m.at tid at vs first.0 first.1 h (sym (same_awaits (without_first_pi m.at vs) vs' tid at first.2) ∙ k) in
    ((two.0, g.0), (first.0, ap (λ (n : ℕ). first_pi n vs) (sym two.0) ∙ first.1, two.1))
given_leaves _ tid at vs vs' g h k = absurd g

others_stay : (own tid at : ℕ) (vs : List PiWaiter) → (own == tid) ≡ false → awaits tid at (without_pi_of own vs) ≡ awaits tid at vs
others_stay own tid at [] e = refl
others_stay own tid at (v ∷ vs) e = by (others_stay own tid at vs e) (is_pi_thread own v) refl
  where
    not_it : (v.tid == own) ≡ true → is_waiter tid at v ≡ false
    not_it f = ap (λ (n : ℕ). (n == tid) && is_pi_at at v) (sym (equal v.tid own f)) ∙ ap (λ (b : Bool). b && is_pi_at at v) e

    by : awaits tid at (without_pi_of own vs) ≡ awaits tid at vs → (b : Bool) → (v.tid == own) ≡ b → awaits tid at (cond (not b) (v ∷ without_pi_of own vs) (without_pi_of own vs)) ≡ (is_waiter tid at v || awaits tid at vs)
    by ih true f = ih ∙ sym (ap (λ (b : Bool). b || awaits tid at vs) (not_it f))
    by ih false f = ap (λ (b : Bool). is_waiter tid at v || b) ih

leaves_own : (own tid at : ℕ) (vs : List PiWaiter) → awaits tid at vs ≡ true → awaits tid at (without_pi_of own vs) ≡ false → own ≡ tid
leaves_own own tid at vs h k = by (own == tid) refl
  where
    by : (b : Bool) → (own == tid) ≡ b → own ≡ tid
    by true e = sym (equal own tid e)
    by false e = absurd (not_both (awaits tid at vs) (sym (others_stay own tid at vs e) ∙ k) h)

pub ended_leaves : (st : Stage) (own tid at : ℕ) (vs vs' : List PiWaiter) → EndedTo st own vs vs' → awaits tid at vs ≡ true → awaits tid at vs' ≡ false → (own ≡ tid) × (st ≡ stage.PiWait)
ended_leaves stage.PiWait own tid at vs vs' e h k = (leaves_own own tid at vs h (sym (same_awaits (without_pi_of own vs) vs' tid at e) ∙ k), refl)
ended_leaves _ own tid at vs vs' e h k = absurd (not_both (awaits tid at vs) (sym (same_awaits vs vs' tid at e) ∙ k) h)
