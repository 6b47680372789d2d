-- futex_waitv: a thread waits in many places at once. Source: futex_waitv(2), linux/futex.h. That there are at most 32 places, and
-- that a value of 2^32 or more equals no word, is this project's own.
use Rattle.std.proofs.Math.Bool.{not}
use Rattle.std.specs.List.{list_any, range_with_len}
use Rattle.std.specs.Option.{option_map}
use Rattle.std.specs.Prelude.{Bool, List, None, Option, Some, [], drop, find, if◌then◌else◌, is_some, nat_le, nat_lt, true, ℕ, ◌%◌, ◌&&◌, ◌*◌, ◌++◌, ◌+◌, ◌/◌, ◌==◌, ◌^◌, ◌||◌, ◌∷◌}
use Rattle.linux_abi.specs.declared.errno.LinuxErrno.{LinuxErrno}
use Rattle.linux_abi.specs.declared.errno.LinuxErrno.TheVariants as errno
use Rattle.linux_abi.specs.declared.futexes.TheConstants.{FUTEX_32, FUTEX_PRIVATE_FLAG}
use Rattle.lx_machine.specs.Calls.{answered, argument, low_argument, refused, waits_no_more}
use Rattle.lx_machine.specs.Futex.{has_time, is_timed, is_unaligned_word, left_queue}
use Rattle.lx_machine.specs.Pieces.{piece}
use Rattle.lx_machine.specs.Queue.{QueueOutcome, all_bits, is_place_queued, most_places, queue_outcome, without_waiters_of}
use Rattle.lx_machine.specs.Time.{duration, field, has_passed, timeout_fetched}
use Rattle.lx_machine.specs.declared.calls.LxCall.{LxCall}
use Rattle.lx_machine.specs.declared.calls.Piece.{Piece}
use Rattle.lx_machine.specs.declared.calls.Restart.{Restart}
use Rattle.lx_machine.specs.declared.calls.Restart.TheVariants as restart
use Rattle.lx_machine.specs.declared.calls.Stage.{Stage}
use Rattle.lx_machine.specs.declared.calls.Stage.TheVariants as stage
use Rattle.lx_machine.specs.declared.futexes.Wait.{Wait}
use Rattle.lx_machine.specs.declared.threads.LxWaiter.{LxWaiter}

-- ---- the arguments

-- how many places are asked for
abbrev pub place_count : LxCall → ℕ
place_count c = low_argument c 1

-- ---- refusals at entry: flags, a number of places, no places, and a clock other than CLOCK_REALTIME and CLOCK_MONOTONIC

abbrev pub waitv_refusals : LxCall → List (Bool × LinuxErrno)
waitv_refusals c =
    (not (low_argument c 2 == 0), errno.EINVAL) ∷
    (place_count c == 0 || nat_lt most_places (place_count c), errno.EINVAL) ∷
    (argument c 0 == 0, errno.EINVAL) ∷
    (is_timed c && nat_lt 1 (low_argument c 4), errno.EINVAL) ∷ []

-- ---- shape

-- it fetches its timeout, if it has one, and then all its places, of 24 bytes each
abbrev pub timeout_piece : LxCall → List Piece
timeout_piece c = if is_timed c then (piece (argument c 3) 16 ∷ []) else []

abbrev pub waitv_pieces : LxCall → List Piece
waitv_pieces c = timeout_piece c ++ piece (argument c 0) (24 * place_count c) ∷ []

-- struct futex_waitv, the one with this number: its value, its address, its flags, and a reserved word
abbrev pub value_in_place : List ℕ → ℕ → ℕ
value_in_place bytes i = field bytes (24 * i)

abbrev pub address_in_place : List ℕ → ℕ → ℕ
address_in_place bytes i = field bytes (24 * i + 8)

abbrev pub flags_in_place : List ℕ → ℕ → ℕ
flags_in_place bytes i = field bytes (24 * i + 16) % 2 ^ 32

abbrev pub reserved_in_place : List ℕ → ℕ → ℕ
reserved_in_place bytes i = field bytes (24 * i + 16) / 2 ^ 32

-- a place whose flags aren't FUTEX_32, with FUTEX_PRIVATE_FLAG or without, whose reserved word isn't 0, or whose address is no
-- multiple of 4
abbrev pub has_good_flags : List ℕ → ℕ → Bool
has_good_flags bytes i = (flags_in_place bytes i == FUTEX_32) || (flags_in_place bytes i == FUTEX_32 + FUTEX_PRIVATE_FLAG)

abbrev pub is_bad_place : List ℕ → ℕ → Bool
is_bad_place bytes i =
    not (has_good_flags bytes i) || not (reserved_in_place bytes i == 0) || is_unaligned_word (address_in_place bytes i)

abbrev pub has_bad_place : List ℕ → ℕ → Bool
has_bad_place bytes n = list_any (is_bad_place bytes) (range_with_len 0 n)

-- the bytes of the places, behind those of a timeout
abbrev pub places_of : LxCall → List ℕ
places_of c = if is_timed c then drop 16 c.bytes else c.bytes

-- a call that has fetched its timeout, or its places: a bad one refuses it
abbrev pub waitv_fetched_by : LxCall → List Piece → LxCall
waitv_fetched_by c (p ∷ ps) = timeout_fetched c
waitv_fetched_by c [] = if has_bad_place (places_of c) (place_count c) then refused c errno.EINVAL else c

abbrev pub waitv_fetched : LxCall → LxCall
waitv_fetched c = waitv_fetched_by c c.pieces

-- its timeout is a time, and the places are left
abbrev pub waitv_clocked : LxCall → LxCall
waitv_clocked c = record c { deadline = Some (duration c.bytes); bytes = drop 16 c.bytes }

-- the place with this number, with all bits
abbrev pub place_wait : LxCall → ℕ → Wait
place_wait c i =
    record { at = address_in_place c.bytes i; expected = value_in_place c.bytes i; bits = all_bits; place = i; many = true }

-- no place is left to be queued: each has queued, or one was refused
abbrev pub has_queued : LxCall → Bool
has_queued c = is_some c.refusal || nat_le (place_count c) c.queued

-- the places queue in their order, and then it waits
abbrev pub waitv_from : LxCall → List Piece → Stage
waitv_from c (p ∷ ps) = stage.Fetch p
waitv_from c [] =
    if has_time c then stage.Clock else (if has_queued c then stage.WaitMany else stage.Queue (place_wait c c.queued))

abbrev pub waitv_stage : LxCall → Stage
waitv_stage c = waitv_from c c.pieces

-- without a timeout it starts again after a signal
abbrev pub waitv_restarts : LxCall → Restart
waitv_restarts c = if is_timed c then restart.Never else restart.AsAsked

-- ---- steps

-- the least place that was released: it has queued, and is queued no more
abbrev pub released_place : ℕ → List LxWaiter → LxCall → Option ℕ
released_place tid ws c = find (λ i. not (is_place_queued tid i ws)) (range_with_len 0 c.queued)

-- the answer is a place that was released, or else what refused a place
abbrev pub waitv_answered_by : LxCall → Option ℕ → Option LinuxErrno → Option LxCall
waitv_answered_by c (Some i) e = Some (answered c i)
waitv_answered_by c None e = option_map (refused c) e

abbrev pub waitv_answered : ℕ → List LxWaiter → LxCall → Option LxCall
waitv_answered tid ws c = waitv_answered_by c (released_place tid ws c) c.refusal

-- Resume: it has an answer, and all its places leave the queue
abbrev pub answers_places : ℕ → List LxWaiter → LxCall → QueueOutcome
answers_places tid ws c = queue_outcome (without_waiters_of tid ws) (waits_no_more c)

abbrev pub waitv_resumed : ℕ → List LxWaiter → LxCall → Option QueueOutcome
waitv_resumed tid ws c = option_map (answers_places tid ws) (waitv_answered tid ws c)

-- where it has none, it leaves the queue, and is refused
abbrev pub waitv_given_up : LinuxErrno → ℕ → List LxWaiter → LxCall → Option QueueOutcome
waitv_given_up e tid ws c = if is_some (waitv_answered tid ws c) then None else Some (left_queue e tid ws c)

-- Expire: its deadline has passed
abbrev pub waitv_expired : ℕ → ℕ → List LxWaiter → LxCall → Option QueueOutcome
waitv_expired clock tid ws c = if has_passed clock c.deadline then waitv_given_up errno.ETIMEDOUT tid ws c else None
