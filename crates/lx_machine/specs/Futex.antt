-- futex: its words, its refusals at entry, its shape, and its steps Queue, Requeue, WakeOp, Release, Resume and Expire of a plain
-- wait. Source: futex(2).
use Rattle.std.proofs.Math.Bool.{not}
use Rattle.std.specs.Int.{bit_not, cast_signed, w32}
use Rattle.std.specs.Int.Signed.{le_z, lt_z}
use Rattle.std.specs.Prelude.{Bool, List, None, Option, Some, [], bit_and, bit_or, bit_xor, false, if◌then◌else◌, is_some, length, min, nat_le, nat_lt, true, ℕ, ℤ, ◌%◌, ◌&&◌, ◌*◌, ◌++◌, ◌+◌, ◌-◌, ◌/◌, ◌==◌, ◌^◌, ◌||◌, ◌∷◌}
use Rattle.linux_abi.specs.FutexOperation.{futex_operation_of}
use Rattle.linux_abi.specs.WakeOp.{comparison_of, word_operation_of}
use Rattle.linux_abi.specs.declared.errno.LinuxErrno.{LinuxErrno}
use Rattle.linux_abi.specs.declared.futexes.Comparison.{Comparison}
use Rattle.linux_abi.specs.declared.futexes.FutexOperation.{FutexOperation}
use Rattle.linux_abi.specs.declared.futexes.WordOperation.{WordOperation}
use Rattle.lx_machine.specs.Calls.{answered, argument, low_argument, refused, waits_no_more}
use Rattle.lx_machine.specs.Pieces.{piece}
use Rattle.lx_machine.specs.Queue.{QueueOutcome, after_requeue, all_bits, is_queued, leaving, most_places, moving, queue_outcome, released, without_waiters_of}
use Rattle.lx_machine.specs.Threads.{has_written, in_call_of}
use Rattle.lx_machine.specs.Time.{add_time, duration, has_passed, timeout_fetched, with_deadline}
use Rattle.lx_machine.specs.declared.calls.LxCall.{LxCall}
use Rattle.lx_machine.specs.declared.calls.Piece.{Piece}
use Rattle.lx_machine.specs.declared.calls.Restart.{Restart}
use Rattle.lx_machine.specs.declared.calls.Restart.TheVariants as restart
use Rattle.lx_machine.specs.declared.calls.Stage.{Stage}
use Rattle.lx_machine.specs.declared.futexes.PiLock.{PiLock}
use Rattle.lx_machine.specs.declared.futexes.Requeue.{Requeue}
use Rattle.lx_machine.specs.declared.futexes.Wait.{Wait}
use Rattle.lx_machine.specs.declared.futexes.Wake.{Wake}
use Rattle.lx_machine.specs.declared.futexes.WakeOp.{WakeOp}
use Rattle.lx_machine.specs.declared.state.LinuxState.{LinuxState}
use Rattle.lx_machine.specs.declared.threads.LxThread.{LxThread}
use Rattle.lx_machine.specs.declared.threads.LxWaiter.{LxWaiter}
use Rattle.lx_memory.specs.Bytes.{bytes_at, with_bytes}
use Rattle.lx_memory.specs.Queries.{is_allowed}
use Rattle.lx_memory.specs.declared.right.Right.TheVariants.{Read, Write}
use Rattle.page_store.specs.Pages.{Pages}
use Rattle.places.specs.Places.{bytes_of, number_at}
use Rattle.linux_abi.specs.declared.errno.LinuxErrno.TheVariants as errno
use Rattle.linux_abi.specs.declared.futexes.Comparison.TheVariants as comparison
use Rattle.linux_abi.specs.declared.futexes.FutexOperation.TheVariants as operation
use Rattle.linux_abi.specs.declared.futexes.WordOperation.TheVariants as change
use Rattle.lx_machine.specs.declared.calls.Stage.TheVariants as stage

-- the word at an address
abbrev pub word_at : Pages → ℕ → ℕ
word_at pages at = number_at (bytes_at pages at 4) 0 4

-- memory with this word at an address
abbrev pub with_word : Pages → ℕ → ℕ → Pages
with_word pages at word = with_bytes pages at (bytes_of word 4)

-- the word at an address, if it may be read
abbrev pub readable_word : Pages → ℕ → Option ℕ
readable_word pages at = if is_allowed Read pages at 4 then Some (word_at pages at) else None

-- the word at an address, if it may be written
abbrev pub writable_word : Pages → ℕ → Option ℕ
writable_word pages at = if is_allowed Write pages at 4 then Some (word_at pages at) else None

-- ---- the arguments

-- the operation's number: without the bits 128 (FUTEX_PRIVATE_FLAG) and 256 (FUTEX_CLOCK_REALTIME)
abbrev pub operation_number : ℕ → ℕ
operation_number op = op % 128 + op / 512 * 512

abbrev pub has_clock_flag : ℕ → Bool
has_clock_flag op = op / 256 % 2 == 1

abbrev pub operation_in : LxCall → Option FutexOperation
operation_in c = futex_operation_of (operation_number (low_argument c 1))

-- a wait, which may name a clock
abbrev pub is_wait : FutexOperation → Bool
is_wait operation.Wait = true
is_wait operation.WaitBitset = true
is_wait _ = false

-- an operation that may wait, and then may have a timeout
abbrev pub may_wait : FutexOperation → Bool
may_wait operation.LockPi = true
may_wait op = is_wait op

-- an operation on two words
abbrev pub has_second : FutexOperation → Bool
has_second operation.Requeue = true
has_second operation.CompareRequeue = true
has_second operation.WakeOp = true
has_second _ = false

-- no multiple of 4
abbrev pub is_unaligned_word : ℕ → Bool
is_unaligned_word at = not (at % 4 == 0)

-- the low 32 bits are negative as a signed number
abbrev pub is_negative : ℕ → Bool
is_negative n = nat_le (2 ^ 31) n

-- the operation of a wake-op on its second word: bits 30 to 28 of val3
abbrev pub word_operation_in : ℕ → Option WordOperation
word_operation_in val3 = word_operation_of (val3 / 2 ^ 28 % 8)

-- its comparison: bits 27 to 24
abbrev pub comparison_in : ℕ → Option Comparison
comparison_in val3 = comparison_of (val3 / 2 ^ 24 % 16)

-- ---- refusals at entry

-- the bit set of FUTEX_WAIT_BITSET and FUTEX_WAKE_BITSET is empty
abbrev pub bit_set_refusals : LxCall → List (Bool × LinuxErrno)
bit_set_refusals c = (low_argument c 5 == 0, errno.EINVAL) ∷ []

-- a requeue with a negative number
abbrev pub requeue_refusals : LxCall → List (Bool × LinuxErrno)
requeue_refusals c = (is_negative (low_argument c 2) || is_negative (low_argument c 3), errno.EINVAL) ∷ []

-- a wake-op with an unknown operation or comparison
abbrev pub wake_op_refusals : LxCall → List (Bool × LinuxErrno)
wake_op_refusals c =
    (not (is_some (word_operation_in (low_argument c 5))) || not (is_some (comparison_in (low_argument c 5))), errno.ENOSYS) ∷ []

abbrev pub own_refusals : LxCall → FutexOperation → List (Bool × LinuxErrno)
own_refusals c operation.WaitBitset = bit_set_refusals c
own_refusals c operation.WakeBitset = bit_set_refusals c
own_refusals c operation.Requeue = requeue_refusals c
own_refusals c operation.CompareRequeue = requeue_refusals c
own_refusals c operation.WakeOp = wake_op_refusals c
own_refusals c _ = []

abbrev pub operation_refusals : LxCall → Option FutexOperation → List (Bool × LinuxErrno)
operation_refusals c None = (true, errno.ENOSYS) ∷ []
operation_refusals c (Some op) =
    (has_clock_flag (low_argument c 1) && not (is_wait op), errno.ENOSYS) ∷
    (is_unaligned_word (argument c 0) || (has_second op && is_unaligned_word (argument c 4)), errno.EINVAL) ∷ own_refusals c op

abbrev pub futex_refusals : LxCall → List (Bool × LinuxErrno)
futex_refusals c = operation_refusals c (operation_in c)

-- ---- shape

-- a wait with a timeout
abbrev pub is_timed : LxCall → Bool
is_timed c = not (argument c 3 == 0)

abbrev pub pieces_by : LxCall → Option FutexOperation → List Piece
pieces_by c None = []
pieces_by c (Some op) = if may_wait op && is_timed c then (piece (argument c 3) 16 ∷ []) else []

-- what it fetches: the timeout
abbrev pub futex_pieces : LxCall → List Piece
futex_pieces c = pieces_by c (operation_in c)

abbrev pub futex_fetched : LxCall → LxCall
futex_fetched c = timeout_fetched c

-- the call's wait, its wake, its requeue
abbrev pub wait_of : LxCall → ℕ → Wait
wait_of c bits = record { at = argument c 0; expected = low_argument c 2; bits = bits; place = 0; many = false }

abbrev pub wake_of : LxCall → ℕ → Wake
wake_of c bits = record { at = argument c 0; most = low_argument c 2; bits = bits }

abbrev pub requeue_of : LxCall → Option ℕ → Requeue
requeue_of c expected = record {
  from = argument c 0;
  to = argument c 4;
  wakes = low_argument c 2;
  moves = low_argument c 3;
  expected = expected;
}

-- a signed number of 12 bits in 32 bits
abbrev pub extended : ℕ → ℕ
extended n = if nat_lt n 2048 then n else n + (2 ^ 32 - 4096)

-- the argument of a wake-op's operation: bits 23 to 12, and where bit 31 is set 1 shifted left by its low five bits
abbrev pub operand_in : ℕ → ℕ
operand_in val3 = if nat_lt val3 (2 ^ 31) then extended (val3 / 2 ^ 12 % 2 ^ 12) else 2 ^ (val3 / 2 ^ 12 % 32)

-- what its comparison compares with: bits 11 to 0
abbrev pub value_in : ℕ → ℤ
value_in val3 = cast_signed w32 (extended (val3 % 2 ^ 12))

abbrev pub wake_op_by : LxCall → Option WordOperation → Option Comparison → Stage
wake_op_by c (Some op) (Some compared) = stage.WakeOp (record {
  from = argument c 0;
  to = argument c 4;
  wakes = low_argument c 2;
  wakes_there = low_argument c 3;
  operation = op;
  operand = operand_in (low_argument c 5);
  comparison = compared;
  value = value_in (low_argument c 5);
})
wake_op_by c (Some op) None = stage.Return
wake_op_by c None compared = stage.Return

-- its deadline is still to be set
abbrev pub has_time : LxCall → Bool
has_time c = is_timed c && not (is_some c.deadline)

-- a call that may wait fetches its timeout, sets its deadline, has its first step, and then it waits
abbrev pub waiting_from : LxCall → Stage → Stage → List Piece → Stage
waiting_from c first then_waits (p ∷ ps) = stage.Fetch p
waiting_from c first then_waits [] = if has_time c then stage.Clock else (if c.waits then then_waits else first)

abbrev pub wait_stage : LxCall → ℕ → Stage
wait_stage c bits = waiting_from c (stage.Queue (wait_of c bits)) stage.Wait c.pieces

-- a lock, which is asked for so, or tried
abbrev pub lock_of : LxCall → Bool → PiLock
lock_of c tries = record { at = argument c 0; tries = tries }

abbrev pub lock_stage : LxCall → Stage
lock_stage c = waiting_from c (stage.PiLock (lock_of c false)) stage.PiWait c.pieces

abbrev pub futex_stage_by : LxCall → Option FutexOperation → Stage
futex_stage_by c (Some operation.Wait) = wait_stage c all_bits
futex_stage_by c (Some operation.WaitBitset) = wait_stage c (low_argument c 5)
futex_stage_by c (Some operation.LockPi) = lock_stage c
futex_stage_by c (Some operation.TryLockPi) = stage.PiLock (lock_of c true)
futex_stage_by c (Some operation.UnlockPi) = stage.PiUnlock (argument c 0)
futex_stage_by c (Some operation.Wake) = stage.Release (wake_of c all_bits)
futex_stage_by c (Some operation.WakeBitset) = stage.Release (wake_of c (low_argument c 5))
futex_stage_by c (Some operation.Requeue) = stage.Requeue (requeue_of c None)
futex_stage_by c (Some operation.CompareRequeue) = stage.Requeue (requeue_of c (Some (low_argument c 5)))
futex_stage_by c (Some operation.WakeOp) = wake_op_by c (word_operation_in (low_argument c 5)) (comparison_in (low_argument c 5))
futex_stage_by c None = stage.Return

-- what the call does next
abbrev pub futex_stage : LxCall → Stage
futex_stage c = futex_stage_by c (operation_in c)

-- the timeout of FUTEX_WAIT goes from now on, and that of the others is a time
abbrev pub deadline_by : ℕ → LxCall → Option FutexOperation → ℕ
deadline_by clock c (Some operation.Wait) = add_time clock (duration c.bytes)
deadline_by clock c _ = duration c.bytes

abbrev pub futex_clocked : ℕ → LxCall → LxCall
futex_clocked clock c = with_deadline c (deadline_by clock c (operation_in c))

-- a wait without a timeout starts again after a signal, and one for a lock always does
abbrev pub restarts_by : LxCall → Option FutexOperation → Restart
restarts_by c (Some operation.LockPi) = restart.Always
restarts_by c _ = if is_timed c then restart.Never else restart.AsAsked

abbrev pub futex_restarts : LxCall → Restart
futex_restarts c = restarts_by c (operation_in c)

-- ---- steps

abbrev pub waiter : ℕ → Wait → LxWaiter
waiter tid w = record { tid = tid; place = w.place; many = w.many; address = w.at; bits = w.bits }

-- the call whose place has queued, and whose place was refused: that is a plain wait's answer, and one for many places keeps it
abbrev pub place_queued : LxCall → Wait → LxCall
place_queued c w = if w.many then record c { queued = min (c.queued + 1) most_places } else record c { waits = true }

abbrev pub place_refused : LxCall → Wait → LinuxErrno → LxCall
place_refused c w e = if w.many then record c { refusal = Some e } else refused c e

-- Queue, where the word is this, or may not be read
abbrev pub queued_by : ℕ → List LxWaiter → LxCall → Wait → Option ℕ → QueueOutcome
queued_by tid ws c w None = queue_outcome ws (place_refused c w errno.EFAULT)
queued_by tid ws c w (Some word) =
    if word == w.expected then queue_outcome (ws ++ waiter tid w ∷ []) (place_queued c w) else queue_outcome ws (place_refused c w errno.EAGAIN)

-- Queue: the place queues, unless the word is another
abbrev pub queued : Pages → ℕ → List LxWaiter → LxCall → Wait → QueueOutcome
queued pages tid ws c w = queued_by tid ws c w (readable_word pages w.at)

-- Release: waiters leave the queue, and their number is the answer
abbrev pub woken : List LxWaiter → LxCall → Wake → QueueOutcome
woken ws c w = queue_outcome (released w.at w.most w.bits ws) (answered c (length (leaving w.at w.most w.bits ws)))

-- how many waiters a requeue releases, and how many it moves
abbrev pub requeue_releases : List LxWaiter → Requeue → ℕ
requeue_releases ws r = length (leaving r.from r.wakes all_bits ws)

abbrev pub requeue_moves : List LxWaiter → Requeue → ℕ
requeue_moves ws r = length (moving r.from r.moves (released r.from r.wakes all_bits ws))

-- Requeue with this answer
abbrev pub moves_on : List LxWaiter → LxCall → Requeue → ℕ → QueueOutcome
moves_on ws c r n = queue_outcome (after_requeue r.from r.to r.wakes r.moves ws) (answered c n)

-- FUTEX_CMP_REQUEUE, where the word is this, or may not be read
abbrev pub requeued_by : List LxWaiter → LxCall → Requeue → ℕ → Option ℕ → QueueOutcome
requeued_by ws c r expected None = queue_outcome ws (refused c errno.EFAULT)
requeued_by ws c r expected (Some word) =
    if word == expected then moves_on ws c r (requeue_releases ws r + requeue_moves ws r) else queue_outcome ws (refused c errno.EAGAIN)

abbrev pub requeued_from : Pages → List LxWaiter → LxCall → Requeue → Option ℕ → QueueOutcome
requeued_from pages ws c r None = moves_on ws c r (requeue_releases ws r)
requeued_from pages ws c r (Some expected) = requeued_by ws c r expected (readable_word pages r.from)

-- Requeue: FUTEX_REQUEUE never looks at the word
abbrev pub requeued : Pages → List LxWaiter → LxCall → Requeue → QueueOutcome
requeued pages ws c r = requeued_from pages ws c r r.expected

-- what a wake-op makes of a word
abbrev pub operated : WordOperation → ℕ → ℕ → ℕ
operated change.Set word operand = operand
operated change.Add word operand = (word + operand) % 2 ^ 32
operated change.Or word operand = bit_or word operand
operated change.AndNot word operand = bit_and word (bit_not w32 operand)
operated change.Xor word operand = bit_xor word operand

-- the comparison of signed numbers holds
abbrev pub compares : Comparison → ℤ → ℤ → Bool
compares comparison.Equal a b = le_z a b && le_z b a
compares comparison.Unequal a b = not (le_z a b && le_z b a)
compares comparison.Less a b = lt_z a b
compares comparison.AtMost a b = le_z a b
compares comparison.Greater a b = lt_z b a
compares comparison.AtLeast a b = le_z b a

-- how many waiters a wake-op releases at most at its second word, where that word was this
abbrev pub wakes_after : WakeOp → ℕ → ℕ
wakes_after w word = if compares w.comparison (cast_signed w32 word) w.value then w.wakes_there else 0

-- the pages, the queue and the call after a step that may write a word: how many bytes were written from which address on
pub record WordOutcome : Type 0 where
  pub pages : Pages
  pub queue : List LxWaiter
  pub call : LxCall
  pub at : ℕ
  pub written : ℕ

-- WakeOp, where the second word was this
abbrev pub with_wake_op : Pages → List LxWaiter → LxCall → WakeOp → ℕ → WordOutcome
with_wake_op pages ws c w word =
    let left = released w.from w.wakes all_bits ws in
    let there = wakes_after w word in
    record {
      pages = with_word pages w.to (operated w.operation word w.operand);
      queue = released w.to there all_bits left;
      call = answered c (length (leaving w.from w.wakes all_bits ws) + length (leaving w.to there all_bits left));
      at = w.to;
      written = 4;
    }

abbrev pub after_wake_op_by : Pages → List LxWaiter → LxCall → WakeOp → Option ℕ → WordOutcome
after_wake_op_by pages ws c w None = record { pages = pages; queue = ws; call = refused c errno.EFAULT; at = 0; written = 0 }
after_wake_op_by pages ws c w (Some word) = with_wake_op pages ws c w word

-- WakeOp: the second word changes, and waiters leave at both
abbrev pub after_wake_op : Pages → List LxWaiter → LxCall → WakeOp → WordOutcome
after_wake_op pages ws c w = after_wake_op_by pages ws c w (writable_word pages w.to)

-- Resume: a thread that waited and is queued no more has been released
abbrev pub resumed : ℕ → List LxWaiter → LxCall → Option LxCall
resumed tid ws c = if c.waits && not (is_queued tid ws) then Some (waits_no_more (answered c 0)) else None

-- a waiting thread leaves the queue, if it is still there, and its call is refused
abbrev pub left_queue : LinuxErrno → ℕ → List LxWaiter → LxCall → QueueOutcome
left_queue e tid ws c = queue_outcome (without_waiters_of tid ws) (refused (waits_no_more c) e)

abbrev pub wait_given_up : LinuxErrno → ℕ → List LxWaiter → LxCall → Option QueueOutcome
wait_given_up e tid ws c = if c.waits && is_queued tid ws then Some (left_queue e tid ws c) else None

-- Expire: its deadline has passed
abbrev pub wait_expired : ℕ → ℕ → List LxWaiter → LxCall → Option QueueOutcome
wait_expired clock tid ws c = if has_passed clock c.deadline then wait_given_up errno.ETIMEDOUT tid ws c else None

-- the state after a step on the queue
abbrev pub on_queue : LinuxState → ℕ → LxThread → QueueOutcome → LinuxState
on_queue L s t o = in_call_of (record L { queue = o.queue }) s t o.call

abbrev pub queue : Wait → LinuxState → ℕ → LxThread → LxCall → Option LinuxState
queue w L s t c = Some (on_queue L s t (queued L.space.pages t.tid L.queue c w))

abbrev pub requeue : Requeue → LinuxState → ℕ → LxThread → LxCall → Option LinuxState
requeue r L s t c = Some (on_queue L s t (requeued L.space.pages L.queue c r))

-- the state after a step on the queue that may write a word
abbrev pub on_word : LinuxState → ℕ → LxThread → WordOutcome → LinuxState
on_word L s t o = in_call_of (record (has_written L s o.pages o.at o.written) { queue = o.queue }) s t o.call

abbrev pub wake_op : WakeOp → LinuxState → ℕ → LxThread → LxCall → Option LinuxState
wake_op w L s t c = Some (on_word L s t (after_wake_op L.space.pages L.queue c w))
