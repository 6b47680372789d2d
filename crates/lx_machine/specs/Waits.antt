-- How waits begin and end: Clock, Move, Resume, Expire and Interrupt. Source: signal(7), futex(2), futex_waitv(2), nanosleep(2),
-- epoll_wait(2), sigsuspend(2).
use Rattle.lx_machine.specs.declared.futexes.Wake.{Wake}
use Rattle.std.proofs.Math.Bool.{not}
use Rattle.std.specs.Option.{option_map}
use Rattle.std.specs.Prelude.{Bool, List, None, Option, Some, if◌then◌else◌, ◌&&◌, ℕ}
use Rattle.linux_abi.specs.declared.errno.LinuxErrno.TheVariants as errno
use Rattle.linux_abi.specs.declared.signals.LinuxSig.{LinuxSig}
use Rattle.lx_machine.specs.Delivery.{removed_from, with_kept}
use Rattle.lx_machine.specs.Descriptors.{on_files}
use Rattle.lx_machine.specs.EpollWait.{epoll_expired}
use Rattle.lx_machine.specs.Futex.{on_queue, resumed, wait_expired, wait_given_up, woken}
use Rattle.lx_machine.specs.FutexPi.{PiOutcome, lock_expired, lock_given_up, lock_resumed, on_pi_queue}
use Rattle.lx_machine.specs.FutexWaitv.{waitv_expired, waitv_given_up, waitv_resumed}
use Rattle.lx_machine.specs.Lists.{bind}
use Rattle.lx_machine.specs.Nanosleep.{nanosleep_expired}
use Rattle.lx_machine.specs.Queue.{QueueOutcome}
use Rattle.lx_machine.specs.Rules.{GivenUp, given_up}
use Rattle.lx_machine.specs.Signal.{found_in, listed}
use Rattle.lx_machine.specs.Table.{rules_of}
use Rattle.lx_machine.specs.Threads.{InCall, in_call_of}
use Rattle.lx_machine.specs.Time.{has_passed}
use Rattle.lx_machine.specs.declared.calls.LxCall.{LxCall}
use Rattle.lx_machine.specs.declared.calls.Stage.{Stage}
use Rattle.lx_machine.specs.declared.calls.Stage.TheVariants as stage
use Rattle.lx_machine.specs.declared.files.Files.{Files}
use Rattle.lx_machine.specs.declared.label.PendingList.{PendingList}
use Rattle.lx_machine.specs.declared.label.Pick.{Pick}
use Rattle.lx_machine.specs.declared.signals.SigInfo.{SigInfo}
use Rattle.lx_machine.specs.declared.state.LinuxState.{LinuxState}
use Rattle.lx_machine.specs.declared.threads.LxThread.{LxThread}

-- ---- Clock: the clock is read, or a deadline is set

abbrev pub clock : InCall
clock L s t c = option_map (in_call_of L s t) ((rules_of c).clocked L.clock c)

-- ---- Hold and Move

abbrev pub hold : InCall
hold L s t c = Some ((rules_of c).hold L s t c)

abbrev pub move : List Pick → InCall
move picks L s t c = (rules_of c).move picks L s t c

-- Move has a step
abbrev pub can_move : Files → LxCall → Bool
can_move F c = (rules_of c).can_move F c

-- ---- Release: of a futex, which answers how many it has released, and of a death, which goes on

abbrev pub release : Wake → InCall
release w L s t c = Some (on_queue L s t ((rules_of c).released (woken L.queue c w) c))

-- ---- Resume: a futex wait that was released goes on, and so does one for many places of which one was released or refused, and
-- one for a lock that was given

abbrev pub resume : Stage → InCall
resume stage.Wait L s t c = option_map (in_call_of L s t) (resumed t.tid L.queue c)
resume stage.WaitMany L s t c = option_map (on_queue L s t) (waitv_resumed t.tid L.queue c)
resume stage.PiWait L s t c = option_map (in_call_of L s t) (lock_resumed t.tid L.pi_queue c)
resume _ L s t c = None

-- ---- Expire: the deadline has come. A wait at an epoll ends so only where it has nothing to report

abbrev pub expire_at_file : InCall
expire_at_file L s t c =
    if has_passed L.clock c.deadline && not (can_move L.files c) then option_map (on_files L s t) (epoll_expired L.files c) else None

abbrev pub expire : Stage → InCall
expire stage.Wait L s t c = option_map (on_queue L s t) (wait_expired L.clock t.tid L.queue c)
expire stage.WaitMany L s t c = option_map (on_queue L s t) (waitv_expired L.clock t.tid L.queue c)
expire stage.PiWait L s t c = option_map (on_pi_queue L s t) (lock_expired L.clock t.tid L.pi_queue c)
expire stage.Rest L s t c = option_map (in_call_of L s t) (nanosleep_expired L.clock c)
expire stage.Move L s t c = expire_at_file L s t c
expire _ L s t c = None

-- ---- Interrupt: a signal that the thread may take ends its wait, and is kept

-- a futex wait leaves its queue
abbrev pub given_up_in_queue : LinuxState → QueueOutcome → GivenUp
given_up_in_queue L o = given_up (record L { queue = o.queue }) o.call

abbrev pub given_up_in_pi_queue : LinuxState → PiOutcome → GivenUp
given_up_in_pi_queue L o = given_up (record L { pi_queue = o.pi_queue }) o.call

-- a wait at a file ends so only where Move has no step, and gives its open file back
abbrev pub file_given_up : LinuxState → LxCall → Option GivenUp
file_given_up L c = if can_move L.files c then None else (rules_of c).move_given_up L c

abbrev pub gives_up : Stage → LinuxState → LxThread → LxCall → Option GivenUp
gives_up stage.Wait L t c = option_map (given_up_in_queue L) (wait_given_up errno.EINTR t.tid L.queue c)
gives_up stage.WaitMany L t c = option_map (given_up_in_queue L) (waitv_given_up errno.EINTR t.tid L.queue c)
gives_up stage.PiWait L t c = option_map (given_up_in_pi_queue L) (lock_given_up errno.EINTR t.tid L.pi_queue c)
gives_up stage.Rest L t c = Some ((rules_of c).rest_given_up L c)
gives_up stage.Move L t c = file_given_up L c
gives_up _ L t c = None

-- the signal leaves its list, and the call keeps it
abbrev pub kept_in : ℕ → LxThread → PendingList → SigInfo → GivenUp → LinuxState
kept_in s t list info g =
    let r = removed_from t g.state.pending list info in
    in_call_of (record g.state { pending = r.pending }) s r.thread (with_kept g.call info)

abbrev pub interrupt : PendingList → LinuxSig → Stage → InCall
interrupt list sig st L s t c =
    bind (found_in t.mask (listed t.pending L.pending list) sig) (λ info. option_map (kept_in s t list info) (gives_up st L t c))
