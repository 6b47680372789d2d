-- Locks that name their owner: FUTEX_LOCK_PI, FUTEX_TRYLOCK_PI and FUTEX_UNLOCK_PI, without priorities. The word of a lock has its
-- owner's tid, bit 31 (FUTEX_WAITERS) where threads wait for it, and bit 30 (FUTEX_OWNER_DIED) where an owner has died. Source:
-- futex(2), get_robust_list(2), linux/futex.h. That threads wait in a queue of their own and get the lock in order of queueing, and
-- when bit 31 stands, is this project's own.
use Rattle.std.proofs.Math.Bool.{not}
use Rattle.std.specs.List.{list_any}
use Rattle.std.specs.Prelude.{Bool, List, None, Option, Some, [], bit_and, bit_or, false, if◌then◌else◌, true, ℕ, ◌&&◌, ◌++◌, ◌==◌, ◌∷◌}
use Rattle.linux_abi.specs.declared.errno.LinuxErrno.{LinuxErrno}
use Rattle.linux_abi.specs.declared.errno.LinuxErrno.TheVariants as errno
use Rattle.lx_machine.specs.Calls.{answered, refused, waits_no_more}
use Rattle.lx_machine.specs.Futex.{with_word, word_at}
use Rattle.lx_machine.specs.PiQueue.{first_pi, has_pi_at, is_pi_queued, without_first_pi, without_pi_of}
use Rattle.lx_machine.specs.Threads.{has_written, in_call_of, is_reserved}
use Rattle.lx_machine.specs.Time.{has_passed}
use Rattle.lx_machine.specs.declared.calls.LxCall.{LxCall}
use Rattle.lx_machine.specs.declared.futexes.PiLock.{PiLock}
use Rattle.lx_machine.specs.declared.state.LinuxState.{LinuxState}
use Rattle.lx_machine.specs.declared.threads.LxThread.{LxThread}
use Rattle.lx_machine.specs.declared.threads.PiWaiter.{PiWaiter}
use Rattle.lx_memory.specs.Queries.{is_allowed}
use Rattle.lx_memory.specs.declared.right.Right.TheVariants.{Read, Write}
use Rattle.page_store.specs.Pages.{Pages}

-- ---- the word

-- its owner's tid
abbrev pub owner : ℕ → ℕ
owner word = bit_and word 0x3fffffff

-- an owner has died
abbrev pub has_died : ℕ → Bool
has_died word = not (bit_and word 0x40000000 == 0)

-- the word of a lock that this thread holds, with bit 30 where an owner has died, and bit 31 exactly where some thread waits for it
abbrev pub held_word : ℕ → Bool → Bool → ℕ
held_word tid died waits = bit_or (bit_or tid (if died then 0x40000000 else 0)) (if waits then 0x80000000 else 0)

-- the word for which a thread waits
abbrev pub awaited_word : ℕ → ℕ
awaited_word word = bit_or word 0x80000000

-- the word at an address, if it may be read and written
abbrev pub lock_word : Pages → ℕ → Option ℕ
lock_word pages at = if is_allowed Read pages at 4 && is_allowed Write pages at 4 then Some (word_at pages at) else None

-- the first that waits for the lock holds it then, and the others are left
abbrev pub heir_word : Bool → ℕ → List PiWaiter → PiWaiter → ℕ
heir_word died at ws w = held_word w.tid died (has_pi_at at (without_first_pi at ws))

-- ---- owners

-- a live or dying thread with this tid
abbrev pub is_owner : ℕ → Option LxThread → Bool
is_owner tid None = false
is_owner tid (Some t) = (t.tid == tid) && not (is_reserved t.life)

abbrev pub has_owner : List (Option LxThread) → ℕ → Bool
has_owner threads tid = list_any (is_owner tid) threads

-- ---- PiLock and PiUnlock

-- the pages, the threads that wait for locks and the call after such a step: how many bytes were written from which address on
pub record LockOutcome : Type 0 where
  pub pages : Pages
  pub pi_queue : List PiWaiter
  pub call : LxCall
  pub at : ℕ
  pub written : ℕ

-- the word stays, and the call is refused
abbrev pub lock_refused : Pages → List PiWaiter → LxCall → LinuxErrno → LockOutcome
lock_refused pages ws c e = record { pages = pages; pi_queue = ws; call = refused c e; at = 0; written = 0 }

-- the word is this now
abbrev pub lock_written : Pages → List PiWaiter → LxCall → ℕ → ℕ → LockOutcome
lock_written pages ws c at word = record { pages = with_word pages at word; pi_queue = ws; call = c; at = at; written = 4 }

abbrev pub pi_waiter : ℕ → ℕ → PiWaiter
pi_waiter tid at = record { tid = tid; address = at }

-- a lock without an owner: the thread holds it now
abbrev pub lock_taken : Pages → ℕ → List PiWaiter → LxCall → PiLock → ℕ → LockOutcome
lock_taken pages tid ws c l word = lock_written pages ws (answered c 0) l.at (held_word tid (has_died word) (has_pi_at l.at ws))

-- a lock of another thread: the thread waits for it, unless it only tries
abbrev pub lock_awaited : Pages → ℕ → List PiWaiter → LxCall → PiLock → ℕ → LockOutcome
lock_awaited pages tid ws c l word =
    if l.tries then lock_refused pages ws c errno.EAGAIN
    else lock_written pages (ws ++ pi_waiter tid l.at ∷ []) (record c { waits = true }) l.at (awaited_word word)

-- PiLock, where the word is this, or may not be read and written
abbrev pub locked_by : Pages → List (Option LxThread) → ℕ → List PiWaiter → LxCall → PiLock → Option ℕ → LockOutcome
locked_by pages threads tid ws c l None = lock_refused pages ws c errno.EFAULT
locked_by pages threads tid ws c l (Some word) =
    if owner word == tid then lock_refused pages ws c errno.EDEADLK else (
    if owner word == 0 then lock_taken pages tid ws c l word else (
    if has_owner threads (owner word) then lock_awaited pages tid ws c l word else lock_refused pages ws c errno.ESRCH))

-- PiLock of the thread with this tid, where these are the others
abbrev pub locked : Pages → List (Option LxThread) → ℕ → List PiWaiter → LxCall → PiLock → LockOutcome
locked pages threads tid ws c l = locked_by pages threads tid ws c l (lock_word pages l.at)

-- the first that waits for the lock leaves and holds it, and without one nobody does
abbrev pub unlocked_for : Pages → List PiWaiter → LxCall → ℕ → Option PiWaiter → LockOutcome
unlocked_for pages ws c at None = lock_written pages ws (answered c 0) at 0
unlocked_for pages ws c at (Some w) = lock_written pages (without_first_pi at ws) (answered c 0) at (heir_word false at ws w)

-- PiUnlock, where the word is this, or may not be read and written
abbrev pub unlocked_by : Pages → ℕ → List PiWaiter → LxCall → ℕ → Option ℕ → LockOutcome
unlocked_by pages tid ws c at None = lock_refused pages ws c errno.EFAULT
unlocked_by pages tid ws c at (Some word) =
    if owner word == tid then unlocked_for pages ws c at (first_pi at ws) else lock_refused pages ws c errno.EPERM

abbrev pub unlocked : Pages → ℕ → List PiWaiter → LxCall → ℕ → LockOutcome
unlocked pages tid ws c at = unlocked_by pages tid ws c at (lock_word pages at)

-- the state after a step on a lock
abbrev pub on_lock : LinuxState → ℕ → LxThread → LockOutcome → LinuxState
on_lock L s t o = in_call_of (record (has_written L s o.pages o.at o.written) { pi_queue = o.pi_queue }) s t o.call

abbrev pub pi_lock : PiLock → LinuxState → ℕ → LxThread → LxCall → Option LinuxState
pi_lock l L s t c = Some (on_lock L s t (locked L.space.pages L.threads t.tid L.pi_queue c l))

abbrev pub pi_unlock : ℕ → LinuxState → ℕ → LxThread → LxCall → Option LinuxState
pi_unlock at L s t c = Some (on_lock L s t (unlocked L.space.pages t.tid L.pi_queue c at))

-- ---- the wait for a lock

-- Resume: a thread that waited for a lock and waits for it no more holds it
abbrev pub lock_resumed : ℕ → List PiWaiter → LxCall → Option LxCall
lock_resumed tid ws c = if c.waits && not (is_pi_queued tid ws) then Some (waits_no_more (answered c 0)) else None

-- the threads that wait for locks and the call after a wait has ended
pub record PiOutcome : Type 0 where
  pub pi_queue : List PiWaiter
  pub call : LxCall

-- a thread that waits for a lock waits for it no more, and its call is refused
abbrev pub lock_given_up : LinuxErrno → ℕ → List PiWaiter → LxCall → Option PiOutcome
lock_given_up e tid ws c =
    if c.waits && is_pi_queued tid ws then Some (record { pi_queue = without_pi_of tid ws; call = refused (waits_no_more c) e }) else None

-- Expire: its deadline has passed
abbrev pub lock_expired : ℕ → ℕ → List PiWaiter → LxCall → Option PiOutcome
lock_expired clock tid ws c = if has_passed clock c.deadline then lock_given_up errno.ETIMEDOUT tid ws c else None

-- the state after the end of a wait for a lock
abbrev pub on_pi_queue : LinuxState → ℕ → LxThread → PiOutcome → LinuxState
on_pi_queue L s t o = in_call_of (record L { pi_queue = o.pi_queue }) s t o.call
