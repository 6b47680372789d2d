-- Signals that are sent. Source: kill(2), sigqueue(3), signal(7). That there are at most 64 queued real-time signals, of the process and
-- of all threads together, and that an ignored signal is dropped as it is sent, whatever is blocked, are this project's own.
use Rattle.std.specs.Prelude.{ℕ, ◌+◌, ◌<◌, Bool, true, false, ◌&&◌, not, nat_le, sum_by, if◌then◌else◌, List, [], ◌∷◌, ◌++◌, Option, Some, None, Result, Ok, Err}
use Rattle.std.specs.List.{list_any}
use Rattle.std.specs.Option.{option_map_or}
use Rattle.bsd_abi.specs.declared.errno.BsdErrno.{BsdErrno}
use Rattle.bsd_abi.specs.declared.errno.BsdErrno.TheVariants as errno
use Rattle.bsd_abi.specs.declared.signals.BsdSig.{BsdSig}
use Rattle.bsd_abi.specs.BsdSig.{is_real_time}
use Rattle.bsd_proc.specs.declared.lives.Life.{Life}
use Rattle.bsd_proc.specs.declared.lives.Life.TheVariants.{Reserved, Live, Dying}
use Rattle.bsd_proc.specs.declared.signals.Signal.{Signal}
use Rattle.bsd_proc.specs.declared.signals.Target.{Target}
use Rattle.bsd_proc.specs.declared.signals.Target.TheVariants.{All, One}
use Rattle.bsd_proc.specs.Signals.{is_of, real_time_count}
use Rattle.bsd_proc.specs.Slots.{Slot, ProcessState, slot_at, on_slot}
use Rattle.bsd_proc.specs.Actions.{action_of, is_ignored}

-- the thread has started, and not left
abbrev pub is_live : Life → Bool
is_live Live = true
is_live Reserved = false
is_live Dying = false

-- the target can be sent a signal: the process always, a slot where its thread lives
abbrev pub is_live_in : Option Slot → Bool
is_live_in o = option_map_or (λ slot. is_live slot.life) o false

abbrev pub is_alive : ProcessState → Target → Bool
is_alive p All = true
is_alive p (One s) = is_live_in (slot_at p s)

-- how many real-time signals are pending for a slot alone, and for all slots and the process
abbrev pub queued_at : Option Slot → ℕ
queued_at o = option_map_or (λ slot. real_time_count slot.pending) o 0

abbrev pub queued_in : List (Option Slot) → List Signal → ℕ
queued_in slots pending = sum_by queued_at slots + real_time_count pending

abbrev pub queued : ProcessState → ℕ
queued p = queued_in p.slots p.pending

-- a real-time signal meets 64 queued ones
abbrev pub is_over_limit : ProcessState → BsdSig → Bool
is_over_limit p sig = is_real_time sig && nat_le 64 (queued p)

-- why a signal can't be sent, if it can't: nobody is there, or too many are queued
abbrev pub refusal : ProcessState → Target → BsdSig → Option BsdErrno
refusal p target sig =
    if not (is_alive p target) then Some errno.ESRCH
    else if is_over_limit p sig then Some errno.EAGAIN
    else None

-- the answer: Ok where nothing refuses it
abbrev pub refused_by : Option BsdErrno → Result (Unit {0}) BsdErrno
refused_by None = Ok tt
refused_by (Some error) = Err error

-- the list already has this signal, which is a standard one: of these it keeps one
abbrev pub is_there : Signal → List Signal → Bool
is_there signal signals = not (is_real_time signal.sig) && list_any (is_of signal.sig) signals

-- the signal stands behind the others, unless it is there already
abbrev pub added : Signal → List Signal → List Signal
added signal signals = if is_there signal signals then signals else signals ++ signal ∷ []

abbrev pub with_added : Signal → Slot → Slot
with_added signal slot = record slot { pending = added signal slot.pending }

-- it is added to the target's list
abbrev pub added_for : ProcessState → Target → Signal → ProcessState
added_for p All signal = record p { pending = added signal p.pending }
added_for p (One s) signal = on_slot p s (with_added signal)

-- the process once the signal is sent to the target: an ignored one isn't kept
abbrev pub sent : ProcessState → Target → Signal → ProcessState
sent p target signal = if is_ignored (action_of p.actions signal.sig) signal.sig then p else added_for p target signal

-- a target names a slot below 128, if it names one
abbrev pub IsTarget : Target → Type 0
IsTarget All = Unit {0}
IsTarget (One s) = s < 128
