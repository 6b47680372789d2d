-- kill, tkill and tgkill. Source: kill(2), tkill(2), sigqueue(3). That there are at most 64 queued real-time signals is this
-- project's own.
use Rattle.std.specs.Prelude.{Bool, List, None, Option, Some, [], if◌then◌else◌, nat_le, nat_lt, true, ℕ, ◌&&◌, ◌-◌, ◌==◌, ◌^◌, ◌||◌, ◌∷◌}
use Rattle.linux_abi.specs.LinuxSig.{is_real_time, linux_signal_of, signal_number}
use Rattle.linux_abi.specs.declared.errno.LinuxErrno.{LinuxErrno}
use Rattle.linux_abi.specs.declared.signals.LinuxSig.{LinuxSig}
use Rattle.linux_abi.specs.declared.signals.TheConstants.{SI_TKILL, SI_USER}
use Rattle.lx_machine.specs.Calls.{answered, low_argument, refused}
use Rattle.lx_machine.specs.Lists.{at_place}
use Rattle.lx_machine.specs.Signal.{can_be_sent, live_slot, sent, sent_by, sent_to}
use Rattle.lx_machine.specs.Whole.{Whole, whole}
use Rattle.lx_machine.specs.declared.calls.LxCall.{LxCall}
use Rattle.lx_machine.specs.declared.signals.Action.{Action}
use Rattle.lx_machine.specs.declared.signals.Sending.{Sending}
use Rattle.lx_machine.specs.declared.signals.SigInfo.{SigInfo}
use Rattle.lx_machine.specs.declared.state.LinuxState.{LinuxState}
use Rattle.lx_machine.specs.declared.threads.LxThread.{LxThread}
use Rattle.linux_abi.specs.declared.errno.LinuxErrno.TheVariants as errno
use Rattle.linux_abi.specs.declared.signals.LinuxSig.TheVariants as signal
use Rattle.lx_machine.specs.declared.signals.Sending.TheVariants as sending

-- ---- what refuses the calls

-- the number of a signal is above that of the last
abbrev pub is_no_signal : ℕ → Bool
is_no_signal n = nat_lt (signal_number signal.SIGRT32) n

-- 0 or less, as a signed number of 32 bits
abbrev pub is_no_tid : ℕ → Bool
is_no_tid n = n == 0 || nat_le (2 ^ 31) n

abbrev pub kill_refusals : LxCall → List (Bool × LinuxErrno)
kill_refusals c = (is_no_signal (low_argument c 1), errno.EINVAL) ∷ []

abbrev pub tkill_refusals : LxCall → List (Bool × LinuxErrno)
tkill_refusals c =
    (is_no_tid (low_argument c 0), errno.EINVAL) ∷
    (is_no_signal (low_argument c 1), errno.EINVAL) ∷
    []

abbrev pub tgkill_refusals : LxCall → List (Bool × LinuxErrno)
tgkill_refusals c =
    (is_no_tid (low_argument c 0), errno.EINVAL) ∷
    (is_no_tid (low_argument c 1), errno.EINVAL) ∷
    (is_no_signal (low_argument c 2), errno.EINVAL) ∷
    []

-- ---- what the calls send

-- the process, as kill names it: 1000, 0, or -1000
abbrev pub is_own_process : ℕ → Bool
is_own_process pid = pid == 1000 || pid == 0 || (pid == 2 ^ 32 - 1000)

-- a real-time signal that meets 64 queued ones is not sent
abbrev pub is_over_limit : ℕ → LinuxSig → Bool
is_over_limit count sig = is_real_time sig && nat_le 64 count

-- what is sent to the process, where so many real-time signals are queued; without a signal it is only checked
abbrev pub process_sending : ℕ → Option LinuxSig → Sending
process_sending count None = sending.Checked
process_sending count (Some sig) =
    if is_over_limit count sig then sending.Refused errno.EAGAIN else sending.ToProcess (sent_by SI_USER sig)

-- what is sent to the live thread in this slot, if there is one
abbrev pub thread_sending : ℕ → Option ℕ → Option LinuxSig → Sending
thread_sending count None sig = sending.Refused errno.ESRCH
thread_sending count (Some slot) None = sending.Checked
thread_sending count (Some slot) (Some sig) =
    if is_over_limit count sig then sending.Refused errno.EAGAIN else sending.ToThread slot (sent_by SI_TKILL sig)

-- what each call sends
abbrev pub kill_sending : ℕ → LxCall → Sending
kill_sending count c =
    if is_own_process (low_argument c 0) then process_sending count (linux_signal_of (low_argument c 1)) else sending.Refused errno.ESRCH

abbrev pub tkill_sending : List (Option LxThread) → ℕ → LxCall → Sending
tkill_sending threads count c = thread_sending count (live_slot (low_argument c 0) threads) (linux_signal_of (low_argument c 1))

abbrev pub tgkill_sending : List (Option LxThread) → ℕ → LxCall → Sending
tgkill_sending threads count c =
    if low_argument c 0 == 1000 then thread_sending count (live_slot (low_argument c 1) threads) (linux_signal_of (low_argument c 2))
    else sending.Refused errno.ESRCH

-- ---- what follows of it

-- the call is answered with 0, or refused
abbrev pub answered_by : Sending → LxCall → LxCall
answered_by (sending.Refused e) c = refused c e
answered_by sending.Checked c = answered c 0
answered_by (sending.ToProcess info) c = answered c 0
answered_by (sending.ToThread slot info) c = answered c 0

-- the pending signals of the process, and the threads, once it is sent
abbrev pub pending_after : Sending → List Action → List SigInfo → List SigInfo
pending_after (sending.ToProcess info) actions pending = sent actions info pending
pending_after (sending.ToThread slot info) actions pending = pending
pending_after sending.Checked actions pending = pending
pending_after (sending.Refused e) actions pending = pending

abbrev pub threads_after : Sending → List Action → List (Option LxThread) → List (Option LxThread)
threads_after (sending.ToThread slot info) actions threads = sent_to slot actions info threads
threads_after (sending.ToProcess info) actions threads = threads
threads_after sending.Checked actions threads = threads
threads_after (sending.Refused e) actions threads = threads

-- the list that gets it has room for it
abbrev pub has_room_at : List Action → SigInfo → Option LxThread → Bool
has_room_at actions info None = true
has_room_at actions info (Some t) = can_be_sent actions info t.pending

abbrev pub has_room : Sending → List Action → List (Option LxThread) → List SigInfo → Bool
has_room (sending.ToProcess info) actions threads pending = can_be_sent actions info pending
has_room (sending.ToThread slot info) actions threads pending = has_room_at actions info (at_place threads slot)
has_room sending.Checked actions threads pending = true
has_room (sending.Refused e) actions threads pending = true

-- kill, tkill and tgkill: what is sent
abbrev pub send_whole : LinuxState → LxCall → Sending → Whole
send_whole L c sending =
    whole (record L { threads = threads_after sending L.actions L.threads; pending = pending_after sending L.actions L.pending }) (answered_by sending c)
