-- What a thread is to the chains, by its phase and its call: which chains it has made busy, what it still owes to them, where it sleeps,
-- and what it was told. Source: FreeBSD's kernel makes a chain busy (umtxq_busy) while it looks at a word; that this is read off the
-- phase is this project's own.
use Rattle.std.specs.Prelude.{◌≡◌, ℕ, ◌-◌, ◌==◌, Bool, true, false, ◌||◌, nat_lt, if◌then◌else◌, List, [], ◌∷◌, Option, Some, None, is_some}
use Rattle.linux_abi.specs.Call.{call_of}
use Rattle.linux_abi.specs.declared.calls.Call.{Call as LinuxCall}
use Rattle.linux_abi.specs.declared.calls.Call.TheVariants as call
use Rattle.linux_abi.specs.declared.futexes.FutexOperation.{FutexOperation}
use Rattle.linux_abi.specs.declared.futexes.FutexOperation.TheVariants as operation
use Rattle.lx_machine.specs.Futex.{operation_in}
use Rattle.lx_machine.specs.FutexWaitv.{address_in_place}
use Rattle.lx_machine.specs.Queue.{all_bits}
use Rattle.lx_machine.specs.Shape.{stage_of}
use Rattle.lx_machine.specs.declared.calls.Stage.{Stage}
use Rattle.lx_machine.specs.declared.calls.Stage.TheVariants as stage
use Rattle.places.specs.Places.{chain}
use Rattle.umtx_queue.specs.declared.pi.PiWaiter.{PiWaiter}
use Rattle.umtx_queue.specs.declared.waiter.Waiter.{Waiter}
use Rattle.bsd_thread.specs.Phases.{has_call}
use Rattle.bsd_thread.specs.declared.call.Call.{Call}
use Rattle.bsd_thread.specs.declared.phase.Owed.{Owed}
use Rattle.bsd_thread.specs.declared.phase.Owed.TheVariants as owed
use Rattle.bsd_thread.specs.declared.phase.Phase.{Phase}
use Rattle.bsd_thread.specs.declared.phase.Phase.TheVariants as phase
use Rattle.bsd_thread.specs.declared.phase.Turn.{Turn}
use Rattle.bsd_thread.specs.declared.phase.Turn.TheVariants as turn
use Rattle.bsd_thread.specs.declared.thread.ThreadState.{ThreadState}
use Rattle.chains_stand.specs.Board.{Owing, Told}
use Rattle.chains_stand.specs.Locks.{PiSleeper}
use Rattle.chains_stand.specs.Notes.{Sleeper}
use Rattle.chains_stand.specs.Owed.{Op, Signal, Take, Join, Enter, EnterPi, Hand}
use Rattle.threads_stand.specs.Image.{is_many, linux_call, resting}

-- ---- the words of a stage: the second is the first where there is one only

pub record Words : Type 0 where
  pub first : ℕ
  pub second : ℕ

abbrev pub two : ℕ → ℕ → Words
two a b = record { first = a; second = b }

abbrev pub words_of : Stage → Option Words
words_of (stage.Queue w) = Some (two w.at w.at)
words_of (stage.Requeue r) = Some (two r.from r.to)
words_of (stage.WakeOp w) = Some (two w.from w.to)
words_of (stage.Mark m) = Some (two m.at m.at)
words_of (stage.PiLock l) = Some (two l.at l.at)
words_of (stage.PiUnlock at) = Some (two at at)
words_of _ = None

abbrev pub low : ℕ → ℕ → ℕ
low c d = if nat_lt c d then c else d

abbrev pub high : ℕ → ℕ → ℕ
high c d = if nat_lt c d then d else c

-- ---- which chains it has made busy

-- a requeue keeps its first mark until the second chain has its waiters
abbrev pub moves_by : Option FutexOperation → Bool
moves_by (Some operation.Requeue) = true
moves_by (Some operation.CompareRequeue) = true
moves_by _ = false

abbrev pub moves_in : Option LinuxCall → Call → Bool
moves_in (Some call.Futex) c = moves_by (operation_in (resting c))
moves_in _ c = false

abbrev pub moves : Call → Bool
moves c = moves_in (call_of c.number) c

abbrev pub at_one : ℕ → ℕ → Bool
at_one a c = c == chain a

abbrev pub at_both : ℕ → ℕ → ℕ → Bool
at_both a b c = c == chain a || c == chain b

abbrev pub at_none : ℕ → Bool
at_none c = false

abbrev pub marks_after_first : Call → ℕ → Bool
marks_after_first c = if moves c then at_both c.key c.to else at_one c.to

abbrev pub marks_in : Call → Phase → ℕ → Bool
marks_in c (phase.Busy turn.Second) = λ d. d == low (chain c.key) (chain c.to)
marks_in c phase.Word = at_both c.key c.to
marks_in c (phase.Finish turn.First o) = at_both c.key c.to
marks_in c (phase.Finish turn.Second o) = marks_after_first c
marks_in c (phase.Finish turn.Last o) = at_one c.key
marks_in c p = at_none

-- ---- where it sleeps

-- one of many places sleeps from its comparison on, at its own address
abbrev pub place_sleeps : Call → ℕ → Option Sleeper
place_sleeps c i = if nat_lt i c.queued then Some (record { at = address_in_place c.bytes i; many = true }) else None

-- the one place of a plain wait
abbrev pub one_sleeps : ℕ → ℕ → Option Sleeper
one_sleeps at i = if i == 0 then Some (record { at = at; many = false }) else None

abbrev pub none_sleeps : ℕ → Option Sleeper
none_sleeps i = None

abbrev pub sleeps_at : Stage → ℕ → ℕ → Option Sleeper
sleeps_at stage.Wait at = one_sleeps at
sleeps_at _ at = none_sleeps

-- what the call waits for once it waits
abbrev pub wait_of : Call → Stage
wait_of c = stage_of (linux_call phase.Sleep c 0)

abbrev pub sleeps_in : Call → Phase → ℕ → Option Sleeper
sleeps_in c (phase.Finish turn owed.Insertion) = sleeps_at (wait_of c) c.to
sleeps_in c phase.Sleep = sleeps_at (wait_of c) c.key
sleeps_in c p = none_sleeps

abbrev pub sleeps_of : Call → Phase → ℕ → Option Sleeper
sleeps_of c p = if is_many c then place_sleeps c else sleeps_in c p

-- a lock for which it waits
abbrev pub lock_at : Stage → ℕ → ℕ → Option PiSleeper
lock_at stage.PiWait at tid = Some (record { at = at; tid = tid })
lock_at _ at tid = None

abbrev pub lock_in : Call → Phase → ℕ → Option PiSleeper
lock_in c (phase.Finish turn owed.Insertion) tid = lock_at (wait_of c) c.to tid
lock_in c phase.Sleep tid = lock_at (wait_of c) c.key tid
lock_in c p tid = None

-- ---- what it owes

abbrev pub bits_of : Stage → ℕ
bits_of (stage.Queue w) = w.bits
bits_of _ = all_bits

-- its waiter: the place whose word was compared last
abbrev pub waiter_of : ℕ → Call → Waiter
waiter_of s c = record { slot = s; place = if is_many c then c.queued - 1 else 0; many = is_many c; key = c.to; bits = bits_of (stage_of (resting c)) }

abbrev pub pi_waiter_of : ℕ → ℕ → Call → PiWaiter
pi_waiter_of s tid c = record { slot = s; tid = tid; key = c.to }

abbrev pub insertion : ℕ → ℕ → Call → Stage → List Op
insertion s tid c stage.PiWait = EnterPi (pi_waiter_of s tid c) ∷ []
insertion s tid c _ = Enter (waiter_of s c) ∷ []

-- a call that counts, with both words still to do, and with the second
abbrev pub both_owed : Call → Stage → List Op
both_owed c (stage.Requeue r) = Signal c.key r.wakes all_bits ∷ Take (is_some r.expected) c.key r.moves c.to ∷ Join c.to ∷ []
both_owed c (stage.WakeOp w) = Signal c.key w.wakes all_bits ∷ Signal c.to c.there all_bits ∷ []
both_owed c _ = []

abbrev pub second_owed : Call → Stage → List Op
second_owed c (stage.Requeue r) = Join c.to ∷ []
second_owed c (stage.WakeOp w) = Signal c.to c.there all_bits ∷ []
second_owed c _ = []

abbrev pub ops_owed : ℕ → ℕ → Call → Turn → Owed → List Op
ops_owed s tid c t owed.Nothing = []
ops_owed s tid c t owed.Insertion = insertion s tid c (wait_of c)
ops_owed s tid c t owed.Wake = Signal c.key 1 all_bits ∷ []
ops_owed s tid c t owed.Handing = Hand c.key ∷ []
ops_owed s tid c turn.First owed.Counted = both_owed c (stage_of (resting c))
ops_owed s tid c turn.Second owed.Counted = second_owed c (stage_of (resting c))
ops_owed s tid c turn.Last owed.Counted = []

abbrev pub ops_in : ℕ → ℕ → Call → Phase → List Op
ops_in s tid c (phase.Finish t o) = ops_owed s tid c t o
ops_in s tid c p = []

-- the waiters that it has taken out and not put in yet; a wake-op may find an old carry in its call
abbrev pub carry_at : Call → Stage → List Waiter
carry_at c (stage.Requeue r) = c.carry
carry_at c _ = []

abbrev pub carry_in : Call → Phase → List Waiter
carry_in c (phase.Finish turn.Second owed.Counted) = carry_at c (stage_of (resting c))
carry_in c p = []

-- ---- what it was told as it made the chain of a lock busy

abbrev pub told_at : Call → Stage → Option Told
told_at c (stage.PiLock l) = Some (record { at = c.key; first = c.pi_first })
told_at c (stage.PiUnlock at) = Some (record { at = c.key; first = c.pi_first })
told_at c (stage.Mark m) = if m.inherits then Some (record { at = c.key; first = c.pi_first }) else None
told_at c _ = None

abbrev pub told_in : Call → Phase → Option Told
told_in c phase.Word = told_at c (stage_of (resting c))
told_in c (phase.Finish turn owed.Handing) = Some (record { at = c.key; first = c.pi_first })
told_in c p = None

-- ---- all of it

-- a thread that is nothing to the chains
abbrev pub nothing : Owing
nothing = record { ops = []; carry = []; marks = at_none; sleeps = none_sleeps; lock = None; told = None }

abbrev pub owing_in_call : ℕ → ℕ → Call → Phase → Owing
owing_in_call s tid c p = record {
  ops = ops_in s tid c p;
  carry = carry_in c p;
  marks = marks_in c p;
  sleeps = sleeps_of c p;
  lock = lock_in c p tid;
  told = told_in c p;
}

abbrev pub owing_in : ℕ → ℕ → Call → Phase → Owing
owing_in s tid c p = if has_call p then owing_in_call s tid c p else nothing

abbrev pub owing_of : ℕ → Option ThreadState → Owing
owing_of s None = nothing
owing_of s (Some t) = owing_in s t.tid t.call t.phase

-- the words for which a thread has made chains busy are those of its stage, until its word has been compared
abbrev pub KeysFit : Call → Phase → Type 0
KeysFit c (phase.Busy turn.Second) = words_of (stage_of (resting c)) ≡ Some (two c.key c.to)
KeysFit c phase.Word = words_of (stage_of (resting c)) ≡ Some (two c.key c.to)
KeysFit c p = Unit {0}
