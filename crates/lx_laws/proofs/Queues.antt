-- What the steps on the futex queue leave of it: only Queue puts a waiter there. Whatever is asked of waiters but their address.
use Rattle.std.proofs.Common.{◌≡◌, ℕ, zero, suc, Bool, true, false, not, ◌&&◌, ◌||◌, List, [], ◌∷◌, ◌++◌, map, Option, Some, None, IfSome, refl, sym, ap, ◌∙◌, if◌then◌else◌, ◌==◌, ◌+◌}
use Rattle.std.specs.List.{list_any}
use Rattle.linux_abi.specs.declared.errno.LinuxErrno.{LinuxErrno}
use Rattle.linux_abi.specs.declared.errno.LinuxErrno.TheVariants as errno
use Rattle.lx_machine.specs.Calls.{refused}
use Rattle.lx_machine.specs.Futex.{after_wake_op, after_wake_op_by, left_queue, moves_on, place_queued, place_refused, queued, queued_by, readable_word, requeue_moves, requeue_releases, requeued, requeued_by, requeued_from, wait_expired, wait_given_up, waiter, wakes_after, writable_word}
use Rattle.lx_machine.specs.FutexPi.{owner}
use Rattle.lx_machine.specs.FutexWaitv.{answers_places, waitv_answered, waitv_expired, waitv_given_up, waitv_resumed}
use Rattle.lx_machine.specs.PiQueue.{first_pi}
use Rattle.lx_machine.specs.Queue.{QueueOutcome, after_requeue, all_bits, first_of, is_plain_at, is_queued, is_thread, matches, moved_to, moving, queue_outcome, released, waiters_moved, without_first, without_waiters_of}
use Rattle.lx_machine.specs.RobustList.{Futexes, hands_over, has_waiters, is_given_back, marked, marked_by, not_owned, one_released, orphans, owned}
use Rattle.lx_machine.specs.Time.{has_passed}
use Rattle.lx_machine.specs.declared.calls.LxCall.{LxCall}
use Rattle.lx_machine.specs.declared.futexes.Mark.{Mark}
use Rattle.lx_machine.specs.declared.futexes.Requeue.{Requeue}
use Rattle.lx_machine.specs.declared.futexes.Wait.{Wait}
use Rattle.lx_machine.specs.declared.futexes.WakeOp.{WakeOp}
use Rattle.lx_machine.specs.declared.threads.LxWaiter.{LxWaiter}
use Rattle.lx_machine.specs.declared.threads.PiWaiter.{PiWaiter}
use Rattle.page_store.specs.Pages.{Pages}
use Rattle.lx_laws.proofs.Lists.{neither, none_filtered, none_joined, none_left}
use Rattle.lx_laws.proofs.Results.{if_of, of_if, of_map}

-- it isn't asked where a waiter waits
abbrev pub Blind : (LxWaiter → Bool) → Type 0
Blind test = (w : LxWaiter) (to : ℕ) → test (moved_to to w) ≡ test w

-- what no waiter in the queue has, none has afterwards
abbrev pub NoneNew : List LxWaiter → List LxWaiter → Type 0
NoneNew ws ws' = (test : LxWaiter → Bool) → Blind test → list_any test ws ≡ false → list_any test ws' ≡ false

pub none_new : (ws : List LxWaiter) → NoneNew ws ws
none_new ws test blind h = h

-- ---- steps

pub released_none : (at most bits : ℕ) (ws : List LxWaiter) → NoneNew ws (released at most bits ws)
released_none at most bits ws test blind h = none_left test most (matches at bits) ws h

none_moved : (test : LxWaiter → Bool) → Blind test → (n to : ℕ) (picks : LxWaiter → Bool) (ws : List LxWaiter) → list_any test ws ≡ false → list_any test (map (moved_to to) (first_of n picks ws)) ≡ false
none_moved test blind zero to picks ws h = refl
none_moved test blind (suc n) to picks [] h = refl
none_moved test blind (suc n) to picks (w ∷ ws) h =
    let two = neither (test w) (list_any test ws) h in
    by (picks w) (blind w to ∙ two.0) (none_moved test blind n to picks ws two.1) (none_moved test blind (suc n) to picks ws two.1)
  where
    by : (b : Bool) → test (moved_to to w) ≡ false → list_any test (map (moved_to to) (first_of n picks ws)) ≡ false → list_any test (map (moved_to to) (first_of (suc n) picks ws)) ≡ false → list_any test (map (moved_to to) (if b then (w ∷ first_of n picks ws) else first_of (suc n) picks ws)) ≡ false
    by true e f g = rw (e, f) refl
    by false e f g = g

moved_none : (from to most : ℕ) (ws : List LxWaiter) → NoneNew ws (waiters_moved from to most ws)
moved_none from to most ws test blind h =
    none_joined test (without_first most (is_plain_at from) ws) (map (moved_to to) (moving from most ws)) (none_left test most (is_plain_at from) ws h) (none_moved test blind most to (is_plain_at from) ws h)

after_none : (r : Requeue) (ws : List LxWaiter) → NoneNew ws (after_requeue r.from r.to r.wakes r.moves ws)
after_none r ws test blind h = moved_none r.from r.to r.moves (released r.from r.wakes all_bits ws) test blind (released_none r.from r.wakes all_bits ws test blind h)

requeued_word : (ws : List LxWaiter) (c : LxCall) (r : Requeue) (expected : ℕ) (o : Option ℕ) → NoneNew ws (requeued_by ws c r expected o).queue
requeued_word ws c r expected None = none_new ws
requeued_word ws c r expected (Some word) =
    if_of (λ (o : QueueOutcome). NoneNew ws o.queue) (word == expected) (moves_on ws c r (requeue_releases ws r + requeue_moves ws r)) (queue_outcome ws (refused c errno.EAGAIN)) (after_none r ws) (none_new ws)

requeued_as : (pages : Pages) (ws : List LxWaiter) (c : LxCall) (r : Requeue) (o : Option ℕ) → NoneNew ws (requeued_from pages ws c r o).queue
requeued_as pages ws c r None = after_none r ws
requeued_as pages ws c r (Some expected) = requeued_word ws c r expected (readable_word pages r.from)

pub requeued_none : (pages : Pages) (ws : List LxWaiter) (c : LxCall) (r : Requeue) → NoneNew ws (requeued pages ws c r).queue
requeued_none pages ws c r = requeued_as pages ws c r r.expected

wake_op_word : (pages : Pages) (ws : List LxWaiter) (c : LxCall) (w : WakeOp) (o : Option ℕ) → NoneNew ws (after_wake_op_by pages ws c w o).queue
wake_op_word pages ws c w None test blind h = h
wake_op_word pages ws c w (Some word) test blind h =
    released_none w.to (wakes_after w word) all_bits (released w.from w.wakes all_bits ws) test blind (released_none w.from w.wakes all_bits ws test blind h)

pub wake_op_none : (pages : Pages) (ws : List LxWaiter) (c : LxCall) (w : WakeOp) → NoneNew ws (after_wake_op pages ws c w).queue
wake_op_none pages ws c w = wake_op_word pages ws c w (writable_word pages w.to)

-- ---- Mark

abbrev FewerIn : Futexes → Futexes → Type 0
FewerIn fs gs = NoneNew fs.queue gs.queue

released_if : (b : Bool) (fs : Futexes) (m : Mark) → FewerIn fs (if b then one_released fs m else fs)
released_if b fs m = if_of (FewerIn fs) b (one_released fs m) fs (released_none m.at 1 all_bits fs.queue) (none_new fs.queue)

handed_none : (pages : Pages) (fs : Futexes) (m : Mark) (word : ℕ) (o : Option PiWaiter) → FewerIn fs (hands_over pages fs m word o).left
handed_none pages fs m word None = none_new fs.queue
handed_none pages fs m word (Some w) = none_new fs.queue

owned_none : (pages : Pages) (fs : Futexes) (m : Mark) (o : Option ℕ) → FewerIn fs (owned pages fs m o).left
owned_none pages fs m None = none_new fs.queue
owned_none pages fs m (Some word) =
    if_of (λ o. FewerIn fs o.left) m.inherits (hands_over pages fs m word (first_pi m.at fs.pi_queue)) (orphans pages fs m word) (handed_none pages fs m word (first_pi m.at fs.pi_queue)) (released_if (has_waiters word) fs m)

marked_word : (rules : ℕ) (pages : Pages) (own : ℕ) (fs : Futexes) (m : Mark) (o : Option ℕ) → FewerIn fs (marked_by rules pages own fs m o).left
marked_word rules pages own fs m None = none_new fs.queue
marked_word rules pages own fs m (Some word) =
    if_of (λ o. FewerIn fs o.left) (owner word == own) (owned pages fs m (writable_word pages m.at)) (not_owned rules pages fs m word) (owned_none pages fs m (writable_word pages m.at)) (released_if (is_given_back rules m word) fs m)

pub marked_none : (rules : ℕ) (pages : Pages) (own : ℕ) (fs : Futexes) (m : Mark) → FewerIn fs (marked rules pages own fs m).left
marked_none rules pages own fs m = marked_word rules pages own fs m (readable_word pages m.at)

-- ---- waits that end

abbrev pub Fewer : List LxWaiter → QueueOutcome → Type 0
Fewer ws o = NoneNew ws o.queue

without_none : (own : ℕ) (ws : List LxWaiter) → NoneNew ws (without_waiters_of own ws)
without_none own ws test blind h = none_filtered test (λ w. not (is_thread own w)) ws h

pub resumed_none : (own : ℕ) (ws : List LxWaiter) (c : LxCall) → IfSome (waitv_resumed own ws c) (Fewer ws)
resumed_none own ws c = of_map (Fewer ws) (waitv_answered own ws c) (answers_places own ws) (λ d. without_none own ws)

pub given_up_none : (e : LinuxErrno) (own : ℕ) (ws : List LxWaiter) (c : LxCall) → IfSome (wait_given_up e own ws c) (Fewer ws)
given_up_none e own ws c = of_if (Fewer ws) (c.waits && is_queued own ws) (Some (left_queue e own ws c)) None (without_none own ws) tt

pub many_given_up_none : (e : LinuxErrno) (own : ℕ) (ws : List LxWaiter) (c : LxCall) → IfSome (waitv_given_up e own ws c) (Fewer ws)
many_given_up_none e own ws c = of_if (Fewer ws) _ None (Some (left_queue e own ws c)) tt (without_none own ws)

pub expired_none : (clock own : ℕ) (ws : List LxWaiter) (c : LxCall) → IfSome (wait_expired clock own ws c) (Fewer ws)
expired_none clock own ws c = of_if (Fewer ws) (has_passed clock c.deadline) (wait_given_up errno.ETIMEDOUT own ws c) None (given_up_none errno.ETIMEDOUT own ws c) tt

pub many_expired_none : (clock own : ℕ) (ws : List LxWaiter) (c : LxCall) → IfSome (waitv_expired clock own ws c) (Fewer ws)
many_expired_none clock own ws c = of_if (Fewer ws) (has_passed clock c.deadline) (waitv_given_up errno.ETIMEDOUT own ws c) None (many_given_up_none errno.ETIMEDOUT own ws c) tt

-- ---- Queue

-- what one has afterwards and none has had, this waiter has
abbrev pub OneNew : LxWaiter → List LxWaiter → List LxWaiter → Type 0
OneNew new ws ws' = (test : LxWaiter → Bool) → Blind test → list_any test ws ≡ false → list_any test ws' ≡ true → test new ≡ true

pub not_both : (b : Bool) → b ≡ false → b ≡ true → ⊥
not_both true e f = cc
not_both false e f = cc

none_one : (new : LxWaiter) (ws : List LxWaiter) → OneNew new ws ws
none_one new ws test blind h e = absurd (not_both (list_any test ws) h e)

one_pushed : (new : LxWaiter) (ws : List LxWaiter) → OneNew new ws (ws ++ new ∷ [])
one_pushed new [] test blind h e = by (test new) e
  where
    by : (b : Bool) → (b || false) ≡ true → b ≡ true
    by true f = refl
    by false f = f
one_pushed new (w ∷ ws) test blind h e =
    let two = neither (test w) (list_any test ws) h in
    one_pushed new ws test blind two.1 (sym (ap (λ (b : Bool). b || list_any test (ws ++ new ∷ [])) two.0) ∙ e)

queued_word : (own : ℕ) (ws : List LxWaiter) (c : LxCall) (w : Wait) (o : Option ℕ) → OneNew (waiter own w) ws (queued_by own ws c w o).queue
queued_word own ws c w None = none_one (waiter own w) ws
queued_word own ws c w (Some word) =
    if_of (λ (o : QueueOutcome). OneNew (waiter own w) ws o.queue) (word == w.expected) (queue_outcome (ws ++ waiter own w ∷ []) (place_queued c w)) (queue_outcome ws (place_refused c w errno.EAGAIN)) (one_pushed (waiter own w) ws) (none_one (waiter own w) ws)

pub queued_new : (pages : Pages) (own : ℕ) (ws : List LxWaiter) (c : LxCall) (w : Wait) → OneNew (waiter own w) ws (queued pages own ws c w).queue
queued_new pages own ws c w = queued_word own ws c w (readable_word pages w.at)
