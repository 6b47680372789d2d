-- A change of an interest in two entries: what refuses it, and what each entry leaves of the queue. EV_CLEAR goes with EPOLLET, and
-- EV_DISPATCH with EPOLLONESHOT. Source: epoll_ctl(2) of Linux, kqueue(2) of FreeBSD; the two entries are this project's own.
use Rattle.std.specs.Prelude.{ℕ, ◌+◌, ◌==◌, Bool, bit_and, if◌then◌else◌, List, Option, Some, None}
use Rattle.std.proofs.Math.Bool.{not}
use Rattle.std.specs.Option.{option_map}
use Rattle.linux_abi.specs.EpollBits.{is_exclusive, wanted}
use Rattle.linux_abi.specs.declared.epoll.EpollOperation.{EpollOperation}
use Rattle.linux_abi.specs.declared.epoll.EpollOperation.TheVariants as operation
use Rattle.linux_abi.specs.declared.errno.LinuxErrno.{LinuxErrno}
use Rattle.linux_abi.specs.declared.errno.LinuxErrno.TheVariants as errno
use Rattle.kqueue_core.specs.Changes.{change_fault, changed_by}
use Rattle.kqueue_core.specs.Queues.{Queue}
use Rattle.kqueue_core.specs.declared.knotes.ChangeFault.{ChangeFault}
use Rattle.kqueue_core.specs.declared.knotes.ChangeFault.TheVariants.{Exists, Missing, Full}
use Rattle.kqueue_core.specs.declared.knotes.Filter.{Filter}
use Rattle.kqueue_core.specs.declared.knotes.Filter.TheVariants.{Read, Write}
use Rattle.kqueue_core.specs.declared.knotes.Watch.{Watch}
use Rattle.kqueue_laws.specs.Pairs.{kept_flags}
use Rattle.lx_machine.specs.Calls.{first_refusal, low_argument}
use Rattle.lx_machine.specs.EpollCtl.{asked_of, control_of, data_of, descriptor_refusals, file_of, or_else}
use Rattle.lx_machine.specs.declared.calls.LxCall.{LxCall}
use Rattle.lx_machine.specs.declared.files.Files.{Files}
use Rattle.open_files.specs.Plain.{readiness}

-- a knote of this filter that asks for these events has something to tell
abbrev pub is_ready : Files → ℕ → Filter → ℕ → Bool
is_ready F file f asked = not (bit_and (readiness F file f) (wanted asked) == 0)

-- the flags of a change of either knote: EV_ADD 1, EV_DELETE 2, EV_ENABLE 4, and those of the interest
abbrev pub flags_of : Option EpollOperation → ℕ → ℕ
flags_of (Some operation.Add) asked = 1 + kept_flags asked
flags_of (Some operation.Delete) asked = 2
flags_of _ asked = 4 + kept_flags asked

-- ---- refusals

abbrev pub fault_errno : ChangeFault → LinuxErrno
fault_errno Exists = errno.EEXIST
fault_errno Full = errno.ENOSPC
fault_errno Missing = errno.ENOENT

abbrev pub exclusive_refusal : LxCall → Option LinuxErrno
exclusive_refusal c = if is_exclusive (asked_of c) then Some errno.EINVAL else None

-- what refuses the change of the Read knote of an open file
abbrev pub knote_refusal : LxCall → Option ℕ → List Watch → Option LinuxErrno
knote_refusal c None ws = None
knote_refusal c (Some file) ws =
    option_map fault_errno (change_fault file (low_argument c 2) Read (flags_of (control_of c) (asked_of c)) ws)

-- what refuses the first entry: first what the descriptors are, then EPOLLEXCLUSIVE, and then the queue
abbrev pub flux1_refusal : Files → LxCall → List Watch → Option LinuxErrno
flux1_refusal F c ws =
    or_else (first_refusal (descriptor_refusals F c)) (or_else (exclusive_refusal c) (knote_refusal c (file_of F (low_argument c 2)) ws))

-- ---- what is changed

-- the interests after the change of one knote, active exactly where it has something to tell now
abbrev pub half_changed : Files → LxCall → ℕ → Filter → List Watch → List Watch
half_changed F c file f ws =
    changed_by file (low_argument c 2) f (flags_of (control_of c) (asked_of c)) (asked_of c) (data_of c) (is_ready F file f (asked_of c)) ws

-- the first entry changes the Read knote and puts the queue in flux
abbrev pub flux1 : Files → ℕ → LxCall → ℕ → Queue → Queue
flux1 F s c file q = record {
  watches = half_changed F c file Read q.watches;
  flux = Some (record { slot = s; descriptor = low_argument c 2 });
}

-- a Read knote that still stands is changed once more, and so is active exactly where it has something to tell now
abbrev pub ready_again : Files → LxCall → ℕ → Option EpollOperation → List Watch → List Watch
ready_again F c file (Some operation.Delete) ws = ws
ready_again F c file _ ws =
    changed_by file (low_argument c 2) Read (4 + kept_flags (asked_of c)) (asked_of c) (data_of c) (is_ready F file Read (asked_of c)) ws

-- the second entry changes the Write knote, makes both active as ready now, and ends the flux
abbrev pub flux2 : Files → LxCall → ℕ → Queue → Queue
flux2 F c file q = record { watches = ready_again F c file (control_of c) (half_changed F c file Write q.watches); flux = None }
