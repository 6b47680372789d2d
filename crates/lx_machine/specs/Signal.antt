-- Signals: actions, pending lists, what is sent to them and what is forgotten, and MayTake. Source: signal(7), sigaction(2),
-- sigqueue(3).
use Rattle.std.proofs.Math.Bool.{not}
use Rattle.std.specs.List.{after_first, before_first, count_by, find, fold, list_any, position, sum_by}
use Rattle.std.specs.Prelude.{Bool, List, None, Option, Some, [], bit_or, false, filter, if◌then◌else◌, length, map, nat_lt, slice_index_or, slice_set, ℕ, ℤ, ◌%◌, ◌&&◌, ◌++◌, ◌+◌, ◌-◌, ◌/◌, ◌==◌, ◌^◌, ◌||◌, ◌∷◌}
use Rattle.linux_abi.specs.LinuxSig.{is_dropped_by_default, is_real_time, linux_bit, signal_number}
use Rattle.linux_abi.specs.SigAction.{is_default, is_ignore}
use Rattle.linux_abi.specs.declared.signals.LinuxSig.{LinuxSig}
use Rattle.linux_abi.specs.declared.signals.TheConstants.{SIG_DFL}
use Rattle.lx_machine.specs.Lists.{at_place}
use Rattle.lx_machine.specs.Threads.{is_live}
use Rattle.lx_machine.specs.declared.label.PendingList.{PendingList}
use Rattle.lx_machine.specs.declared.label.PendingList.TheVariants.{Own, Shared}
use Rattle.lx_machine.specs.declared.signals.Action.{Action}
use Rattle.lx_machine.specs.declared.signals.Origin.TheVariants.{Sender}
use Rattle.lx_machine.specs.declared.signals.SigInfo.{SigInfo}
use Rattle.lx_machine.specs.declared.state.LinuxState.{LinuxState}
use Rattle.lx_machine.specs.declared.threads.LxThread.{LxThread}

-- ---- sets of signals

-- a set of signals has this one
abbrev pub has_signal : ℕ → LinuxSig → Bool
has_signal set s = set / 2 ^ linux_bit s % 2 == 1

-- the set with this signal too
abbrev pub with_bit : ℕ → SigInfo → ℕ
with_bit set info = bit_or set (2 ^ linux_bit info.signal)

-- the set of the signals of a list
abbrev pub set_of : List SigInfo → ℕ
set_of infos = fold with_bit 0 infos

-- ---- actions

-- the action that a guest begins with
abbrev pub default_action : Action
default_action = record { handler = SIG_DFL; flags = 0; restorer = 0; mask = 0 }

-- the action of a signal, among those of 1 to 64
abbrev pub action_of : List Action → LinuxSig → Action
action_of actions sig = slice_index_or actions (signal_number sig - 1) default_action

-- the actions where the signal has this one
abbrev pub with_action : List Action → LinuxSig → Action → List Action
with_action actions sig a = slice_set actions (signal_number sig - 1) a

-- the action ignores the signal, or is the default one, which drops it
abbrev pub is_ignored : Action → LinuxSig → Bool
is_ignored a sig = is_ignore a.handler || (is_default a.handler && is_dropped_by_default sig)

-- ---- pending lists

-- it is this signal
abbrev pub is_of : LinuxSig → SigInfo → Bool
is_of s info = signal_number info.signal == signal_number s

-- an unblocked real-time signal of a lower number
abbrev pub is_before : ℕ → LinuxSig → SigInfo → Bool
is_before mask s info =
    is_real_time info.signal && nat_lt (signal_number info.signal) (signal_number s) && not (has_signal mask info.signal)

-- the pending signal of this number that was sent first may be taken: it is not blocked, and where it is a real-time
-- signal, no unblocked one of a lower number is pending in the list
abbrev pub may_take : ℕ → List SigInfo → LinuxSig → Bool
may_take mask pending s =
    list_any (is_of s) pending && not (has_signal mask s) && not (is_real_time s && list_any (is_before mask s) pending)

-- some signal of the list is not blocked
abbrev pub has_unblocked : ℕ → List SigInfo → Bool
has_unblocked mask pending = list_any (λ info. not (has_signal mask info.signal)) pending

-- the signal of this number that was sent first
abbrev pub first_info : LinuxSig → List SigInfo → Option SigInfo
first_info s infos = find (is_of s) infos

-- the list without that one
abbrev pub without_signal : LinuxSig → List SigInfo → List SigInfo
without_signal s infos = before_first (is_of s) infos ++ after_first (is_of s) infos

-- the list without any signal of this number
abbrev pub without_all : LinuxSig → List SigInfo → List SigInfo
without_all s infos = filter (λ info. not (is_of s info)) infos

-- how many real-time signals the list has
abbrev pub real_time_count : List SigInfo → ℕ
real_time_count infos = count_by (λ info. is_real_time info.signal) infos

-- ---- a thread that takes a signal

-- the pending signals of a list
abbrev pub listed : List SigInfo → List SigInfo → PendingList → List SigInfo
listed own pending Own = own
listed own pending Shared = pending

-- the pending signal of this number, if a thread with this mask may take it from the list
abbrev pub found_in : ℕ → List SigInfo → LinuxSig → Option SigInfo
found_in mask infos sig = if may_take mask infos sig then first_info sig infos else None

-- ---- what is sent

-- what the process sends to itself, with this code
abbrev pub sent_by : ℤ → LinuxSig → SigInfo
sent_by code sig = record { signal = sig; code = code; origin = Sender 1000 1000 }

-- the list already has this signal, which is a standard one: it isn't kept twice
abbrev pub is_there : SigInfo → List SigInfo → Bool
is_there info pending = not (is_real_time info.signal) && list_any (is_of info.signal) pending

-- a signal that is sent to a list is not kept: it is ignored, or already there
abbrev pub is_not_kept : List Action → SigInfo → List SigInfo → Bool
is_not_kept actions info pending = is_ignored (action_of actions info.signal) info.signal || is_there info pending

-- a list after a signal is sent to it: where it is kept, it stands behind the others
abbrev pub sent : List Action → SigInfo → List SigInfo → List SigInfo
sent actions info pending = if is_not_kept actions info pending then pending else pending ++ info ∷ []

-- the list has room for it: a list holds at most 95 signals
abbrev pub can_be_sent : List Action → SigInfo → List SigInfo → Bool
can_be_sent actions info pending = is_not_kept actions info pending || not (length pending == 95)

-- how many real-time signals are pending for the thread in a place, and for all threads and the process
abbrev pub queued_signals_at : Option LxThread → ℕ
queued_signals_at None = 0
queued_signals_at (Some t) = real_time_count t.pending

abbrev pub queued_signals : List (Option LxThread) → List SigInfo → ℕ
queued_signals threads pending = sum_by queued_signals_at threads + real_time_count pending

-- ---- who gets it

-- a live thread with this tid is in the place
abbrev pub is_live_as : ℕ → Option LxThread → Bool
is_live_as tid None = false
is_live_as tid (Some t) = t.tid == tid && is_live t.life

-- the slot of the live thread with this tid, if there is one
unfoldable pub live_slot : ℕ → List (Option LxThread) → Option ℕ
live_slot tid threads = position (is_live_as tid) threads

-- the thread in a place after a signal is sent to it
abbrev pub sent_at : List Action → SigInfo → Option LxThread → Option LxThread
sent_at actions info None = None
sent_at actions info (Some t) = Some (record t { pending = sent actions info t.pending })

-- the threads after a signal is sent to the one in this slot, whose place alone changes
abbrev pub sent_to : ℕ → List Action → SigInfo → List (Option LxThread) → List (Option LxThread)
sent_to slot actions info threads = slice_set threads slot (sent_at actions info (at_place threads slot))

-- ---- what is forgotten

-- the thread in a place, for which the signal is pending no more
abbrev pub forgotten_at : LinuxSig → Option LxThread → Option LxThread
forgotten_at sig None = None
forgotten_at sig (Some t) = Some (record t { pending = without_all sig t.pending })

-- the signal, if one is given, is pending nowhere any more: neither for the process nor for any thread
abbrev pub forgotten : Option LinuxSig → LinuxState → LinuxState
forgotten None L = L
forgotten (Some sig) L = record L { pending = without_all sig L.pending; threads = map (forgotten_at sig) L.threads }
