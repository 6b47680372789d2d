-- What each step leaves of the clock, of the console rooms and of the epolls: no step but Time changes the clock.
use Rattle.std.proofs.Common.{◌≡◌, ◌≤◌, ℕ, Bool, true, false, not, ◌&&◌, List, [], ◌∷◌, Option, Some, None, IfSome, option_map, refl, if◌then◌else◌, nat_lt, nat_le, length, take, arith}
use Rattle.std.proofs.lemmas.Grind.{common_steps}
use Rattle.linux_abi.specs.Call.{call_of}
use Rattle.linux_abi.specs.declared.calls.Call.{Call}
use Rattle.linux_abi.specs.declared.calls.Call.TheVariants as call
use Rattle.linux_abi.specs.declared.errno.LinuxErrno.TheVariants as errno
use Rattle.linux_abi.specs.declared.signals.LinuxSig.{LinuxSig}
use Rattle.linux_abi.specs.declared.signals.LinuxSig.TheVariants as signal
use Rattle.lx_machine.specs.Calls.{refused}
use Rattle.lx_machine.specs.Clone.{start_child}
use Rattle.lx_machine.specs.Close.{close}
use Rattle.lx_machine.specs.Delivery as delivery
use Rattle.lx_machine.specs.Descriptors.{FilesOutcome, on_files}
use Rattle.lx_machine.specs.Dup.{dup, dup3}
use Rattle.lx_machine.specs.EpollCreate.{epoll_create1}
use Rattle.lx_machine.specs.EpollCtl.{epoll_ctl}
use Rattle.lx_machine.specs.EpollWait.{epoll_expired, epoll_held, epoll_interrupted, epoll_moved}
use Rattle.lx_machine.specs.Eventfd.{eventfd2}
use Rattle.lx_machine.specs.Exit.{dies, exit_group, exited}
use Rattle.lx_machine.specs.Fcntl.{fcntl}
use Rattle.lx_machine.specs.Futex.{on_queue, resumed, wait_expired, wait_given_up, waiter}
use Rattle.lx_machine.specs.FutexPi.{lock_expired, lock_given_up, lock_resumed, locked, on_pi_queue, unlocked}
use Rattle.lx_machine.specs.FutexWaitv.{waitv_expired, waitv_given_up, waitv_resumed}
use Rattle.lx_machine.specs.Instruction.{instruction, stored}
use Rattle.lx_machine.specs.Interests.{drained_side, side_holds}
use Rattle.lx_machine.specs.Ioctl.{ioctl}
use Rattle.lx_machine.specs.Lists.{at_place, bind}
use Rattle.lx_machine.specs.Lseek.{lseek}
use Rattle.lx_machine.specs.Move.{interrupted, on_transfer, transferred}
use Rattle.lx_machine.specs.Nanosleep.{nanosleep_expired}
use Rattle.lx_machine.specs.Pipe.{pipe2}
use Rattle.lx_machine.specs.Ranges.{SpaceOutcome, on_space}
use Rattle.lx_machine.specs.Rules.{Effect, GivenUp, OnAll, OnFiles, OnNothing, OnSpace, OnThread, Rules, given_up, has_effect, hold_transfer, left_transfer, move_transfer, short_outcome, transfer_given_up}
use Rattle.lx_machine.specs.Shape.{fetched, not_fetched, not_written, restarts, stage_of, written}
use Rattle.lx_machine.specs.Sigaction.{sigaction_actions, sigaction_forgets}
use Rattle.lx_machine.specs.Signal.{forgotten, found_in, listed}
use Rattle.lx_machine.specs.SignalFrame as signal_frame
use Rattle.lx_machine.specs.Step as step
use Rattle.lx_machine.specs.Step.{LStep, effect, effect_of, fetch, give_back, has_fetched, hold, in_call, of_call, on_thread, step_of, store, unless_ended, with_fetched, with_stored}
use Rattle.lx_machine.specs.Table.{events_given_up, move_events, rules, rules_at, rules_of}
use Rattle.lx_machine.specs.Threads.{InCall, OfThread, has_no_thread, in_call_of, is_user, outside_call, with_thread, without_call, without_thread}
use Rattle.lx_machine.specs.Time.{has_passed}
use Rattle.lx_machine.specs.Transfers.{held, hold_given_back}
use Rattle.lx_machine.specs.Waits.{can_move, expire, given_up_in_pi_queue, given_up_in_queue, gives_up, interrupt, kept_in, resume}
use Rattle.lx_machine.specs.Whole.{Whole}
use Rattle.lx_machine.specs.declared.calls.LxCall.{LxCall}
use Rattle.lx_machine.specs.declared.calls.Stage.{Stage}
use Rattle.lx_machine.specs.declared.calls.Stage.TheVariants as stage
use Rattle.lx_machine.specs.declared.files.Files.{Files}
use Rattle.lx_machine.specs.declared.label.Label.{Label}
use Rattle.lx_machine.specs.declared.label.Label.TheVariants as label
use Rattle.lx_machine.specs.declared.label.PendingList.{PendingList}
use Rattle.lx_machine.specs.declared.label.Pick.{Pick}
use Rattle.lx_machine.specs.declared.space.Space.{Space}
use Rattle.lx_machine.specs.declared.state.LinuxState.{LinuxState}
use Rattle.lx_machine.specs.declared.threads.GuestEnd.{GuestEnd}
use Rattle.lx_machine.specs.declared.threads.GuestEnd.TheVariants.{Killed}
use Rattle.lx_machine.specs.declared.threads.LxThread.{LxThread}
use Rattle.lx_memory.specs.Bytes.{bytes_at}
use Rattle.lx_memory.specs.Queries.{is_allowed}
use Rattle.lx_memory.specs.declared.right.Right.TheVariants.{Read, Write}
use Rattle.page_store.specs.Pages.{Pages}
use Rattle.lx_laws.proofs.Results.{if_of, in_option, map_of, of_bind, of_if, of_if_at, of_map}
use Rattle.lx_machine.specs.Futex.{after_wake_op, requeued, woken}
use Rattle.lx_machine.specs.Queue.{QueueOutcome}
use Rattle.lx_machine.specs.RobustList.{futexes_of}
use Rattle.lx_machine.specs.declared.threads.LxWaiter.{LxWaiter}
use Rattle.lx_machine.specs.declared.threads.PiWaiter.{PiWaiter}
use Rattle.std.proofs.Common.{sym, subst}
use Rattle.lx_laws.specs.Callers.{IsInCall}
use Rattle.lx_laws.proofs.Callers.{known}
use Rattle.lx_laws.proofs.Locks as lock
use Rattle.lx_laws.proofs.Locks.{EndedTo, GivenTo, LockedTo, SameLocks}
use Rattle.lx_laws.proofs.Queues.{Fewer, NoneNew, OneNew, expired_none, given_up_none, many_expired_none, many_given_up_none, marked_none, none_new, queued_new, released_none, requeued_none, resumed_none, wake_op_none}
use Rattle.lx_laws.proofs.Controls as control
use Rattle.lx_laws.proofs.Files.{FilesTo, same}
use Rattle.lx_laws.proofs.Moves as move

-- a step that isn't Time or Drain, which leaves this of the futex queue and of those that wait for locks
pub record Stay (Q : List LxWaiter → List LxWaiter → Type 0) (P : List PiWaiter → List PiWaiter → Type 0) (clock : ℕ) (F : Files) (ws : List LxWaiter) (vs : List PiWaiter) (clock' : ℕ) (G : Files) (ws' : List LxWaiter) (vs' : List PiWaiter) : Type 0 where
  pub time : clock' ≡ clock
  pub files : FilesTo F G
  pub waiters : Q ws ws'
  pub locks : P vs vs'

abbrev pub StaysBut : (List LxWaiter → List LxWaiter → Type 0) → (List PiWaiter → List PiWaiter → Type 0) → LinuxState → LinuxState → Type 0
StaysBut Q P L next = Stay Q P L.clock L.files L.queue L.pi_queue next.clock next.files next.queue next.pi_queue

abbrev pub Stays : LinuxState → LinuxState → Type 0
Stays L next = StaysBut NoneNew SameLocks L next

stay : (L : LinuxState) → Stays L L
stay L = record { time = refl; files = same L.files; waiters = none_new L.queue; locks = refl }

with_files : (L : LinuxState) (G : Files) → FilesTo L.files G → Stays L (record L { files = G })
with_files L G h = record { time = refl; files = h; waiters = none_new L.queue; locks = refl }

with_queue : (L : LinuxState) (ws : List LxWaiter) → NoneNew L.queue ws → Stays L (record L { queue = ws })
with_queue L ws h = record { time = refl; files = same L.files; waiters = h; locks = refl }

with_locks : (P : List PiWaiter → List PiWaiter → Type 0) (L : LinuxState) (vs : List PiWaiter) → P L.pi_queue vs → StaysBut NoneNew P L (record L { pi_queue = vs })
with_locks P L vs h = record { time = refl; files = same L.files; waiters = none_new L.queue; locks = h }

-- ---- what the rules of a call do

abbrev EffectStays : Effect → Type 0
EffectStays e = (L : LinuxState) (s : ℕ) (t : LxThread) (c : LxCall) → IfSome (has_effect e L s t c) (Stays L)

by_files : (f : Files → LxCall → FilesOutcome) → control.Does f → EffectStays (OnFiles f)
by_files f h L s t c = with_files L (f L.files c).files (h L.files c)

-- the steps of a call that are told by its rules
pub record RulesStay (e : Effect) (hold : LinuxState → ℕ → LxThread → LxCall → LinuxState) (moving : List Pick → InCall) (resting : LinuxState → LxCall → GivenUp) (leaving : LinuxState → LxCall → Option GivenUp) (release : QueueOutcome → LxCall → QueueOutcome) : Type 0 where
  pub effects : EffectStays e
  pub holds : (L : LinuxState) (s : ℕ) (t : LxThread) (c : LxCall) → Stays L (hold L s t c)
  pub moves : (picks : List Pick) (L : LinuxState) (s : ℕ) (t : LxThread) (c : LxCall) → IfSome (moving picks L s t c) (Stays L)
  pub rests : (L : LinuxState) (c : LxCall) → Stays L (resting L c).state
  pub leaves : (L : LinuxState) (c : LxCall) → IfSome (leaving L c) (λ g. Stays L g.state)
  pub releases : (o : QueueOutcome) (c : LxCall) → (release o c).queue ≡ o.queue

abbrev ByRules : Rules → Type 0
ByRules r = RulesStay r.effect r.hold r.move r.rest_given_up r.move_given_up r.released

-- of most calls, by their effect
moves_transfer : (picks : List Pick) (L : LinuxState) (s : ℕ) (t : LxThread) (c : LxCall) → IfSome (move_transfer picks L s t c) (Stays L)
moves_transfer [] L s t c = map_of (move.Transfers L.files) (Stays L) (transferred L.files c) (on_transfer L s t) (λ o h. with_files L o.files h) (move.moves L.files c)
moves_transfer (p ∷ ps) L s t c = tt

leaves_transfer : (L : LinuxState) (c : LxCall) → IfSome (transfer_given_up L c) (λ g. Stays L g.state)
leaves_transfer L c = map_of (move.Transfers L.files) (λ (g : GivenUp). Stays L g.state) (interrupted L.files c) (left_transfer L) (λ o h. with_files L o.files h) (move.gives_up_transfer L.files c)

by_effect : (e : Effect) → EffectStays e → RulesStay e hold_transfer move_transfer (λ L c. given_up L (refused c errno.EINTR)) transfer_given_up (λ o c. o)
by_effect e h = record {
  effects = h;
  holds = λ L s t c. with_files L (held L.files c).files (move.holds L.files c);
  moves = moves_transfer;
  rests = λ L c. stay L;
  leaves = leaves_transfer;
  releases = λ o c. refl;
}

nothing : RulesStay OnNothing hold_transfer move_transfer (λ L c. given_up L (refused c errno.EINTR)) transfer_given_up (λ o c. o)
nothing = by_effect OnNothing (λ L s t c. tt)

on_files_by : (f : Files → LxCall → FilesOutcome) → control.Does f → RulesStay (OnFiles f) hold_transfer move_transfer (λ L c. given_up L (refused c errno.EINTR)) transfer_given_up (λ o c. o)
on_files_by f h = by_effect (OnFiles f) (by_files f h)

on_space_by : (f : Space → LxCall → SpaceOutcome) → RulesStay (OnSpace f) hold_transfer move_transfer (λ L c. given_up L (refused c errno.EINTR)) transfer_given_up (λ o c. o)
on_space_by f = by_effect (OnSpace f) (λ L s t c. stay L)

on_thread_by : (f : LinuxState → ℕ → LxThread → LxCall → LinuxState) → ((L : LinuxState) (s : ℕ) (t : LxThread) (c : LxCall) → Stays L (f L s t c)) → RulesStay (OnThread f) hold_transfer move_transfer (λ L c. given_up L (refused c errno.EINTR)) transfer_given_up (λ o c. o)
on_thread_by f h = by_effect (OnThread f) h

on_all_by : (f : LinuxState → ℕ → ℕ → LxCall → Whole) → ((L : LinuxState) (mask head : ℕ) (c : LxCall) → Stays L (f L mask head c).state) → RulesStay (OnAll f) hold_transfer move_transfer (λ L c. given_up L (refused c errno.EINTR)) transfer_given_up (λ o c. o)
on_all_by f h = by_effect (OnAll f) (λ L s t c. h (with_thread L s t) t.mask t.robust_head c)

-- a signal that is pending nowhere any more
forgotten_stays : (o : Option LinuxSig) (L : LinuxState) → Stays L (forgotten o L)
forgotten_stays None L = stay L
forgotten_stays (Some sig) L = stay L

moves_epoll : (picks : List Pick) (L : LinuxState) (s : ℕ) (t : LxThread) (c : LxCall) → IfSome (move_events picks L s t c) (Stays L)
moves_epoll picks L s t c = map_of (move.Leaves L.files) (Stays L) (epoll_moved L.files c picks) (on_files L s t) (λ o h. with_files L o.files h) (move.moves_events L.files c picks)

leaves_epoll : (L : LinuxState) (c : LxCall) → IfSome (events_given_up L c) (λ g. Stays L g.state)
leaves_epoll L c = map_of (move.Leaves L.files) (λ (g : GivenUp). Stays L g.state) (epoll_interrupted L.files c) (λ o. given_up (record L { files = o.files }) o.call) (λ o h. with_files L o.files h) (move.gives_up_events L.files c)

by_call : (k : Call) → ByRules (rules k)
by_call call.EpollCreate1 = on_files_by epoll_create1 control.create
by_call call.EpollCtl = on_files_by epoll_ctl control.controls
by_call call.Eventfd2 = on_files_by eventfd2 control.makes_counter
by_call call.Dup = on_files_by dup control.dups
by_call call.Dup3 = on_files_by dup3 control.dups3
by_call call.Fcntl = on_files_by fcntl control.fcntls
by_call call.Ioctl = on_files_by ioctl control.ioctls
by_call call.Close = on_files_by close control.closes
by_call call.Pipe2 = on_files_by pipe2 control.makes_pipe
by_call call.Lseek = on_files_by lseek control.lseeks
by_call call.Read = nothing
by_call call.Write = nothing
by_call call.Readv = nothing
by_call call.Writev = nothing
by_call call.Exit = record { effects = nothing.effects; holds = nothing.holds; moves = nothing.moves; rests = nothing.rests; leaves = nothing.leaves; releases = λ o c. refl }
by_call call.Futex = nothing
by_call call.ClockGettime = nothing
by_call call.RtSigsuspend = nothing
by_call call.Brk = on_space_by _
by_call call.Munmap = on_space_by _
by_call call.Mmap = on_space_by _
by_call call.Mprotect = on_space_by _
by_call call.Madvise = on_space_by _
by_call call.ExitGroup = on_thread_by _ (λ L s t c. stay L)
by_call call.SetTidAddress = on_thread_by _ (λ L s t c. stay L)
by_call call.SetRobustList = on_thread_by _ (λ L s t c. stay L)
by_call call.SchedYield = on_thread_by _ (λ L s t c. stay L)
by_call call.Sigaltstack = on_thread_by _ (λ L s t c. stay L)
by_call call.RtSigprocmask = on_thread_by _ (λ L s t c. stay L)
by_call call.RtSigpending = on_thread_by _ (λ L s t c. stay L)
by_call call.RtSigreturn = on_thread_by _ (λ L s t c. stay L)
by_call call.Uname = on_thread_by _ (λ L s t c. stay L)
by_call call.Getpid = on_thread_by _ (λ L s t c. stay L)
by_call call.Getppid = on_thread_by _ (λ L s t c. stay L)
by_call call.Getuid = on_thread_by _ (λ L s t c. stay L)
by_call call.Geteuid = on_thread_by _ (λ L s t c. stay L)
by_call call.Getgid = on_thread_by _ (λ L s t c. stay L)
by_call call.Getegid = on_thread_by _ (λ L s t c. stay L)
by_call call.Gettid = on_thread_by _ (λ L s t c. stay L)
by_call call.GetRobustList = on_all_by _ (λ L mask head c. stay L)
by_call call.Kill = on_all_by _ (λ L mask head c. stay L)
by_call call.Tkill = on_all_by _ (λ L mask head c. stay L)
by_call call.Tgkill = on_all_by _ (λ L mask head c. stay L)
by_call call.Clone = on_all_by _ (λ L mask head c. stay L)
by_call call.RtSigaction = on_all_by _ (λ L mask head c. forgotten_stays (sigaction_forgets c) (record L { actions = sigaction_actions L.actions c }))
by_call call.FutexWaitv = nothing
by_call call.Nanosleep = record { effects = nothing.effects; holds = nothing.holds; moves = nothing.moves; rests = λ L c. stay L; leaves = nothing.leaves; releases = λ o c. refl }
by_call call.EpollPwait = record {
  effects = λ L s t c. tt;
  holds = λ L s t c. with_files L (epoll_held L.files c).files (move.holds_epoll L.files c);
  moves = moves_epoll;
  rests = λ L c. stay L;
  leaves = leaves_epoll;
  releases = λ o c. refl;
}

by_number : (o : Option Call) → ByRules (rules_at o)
by_number (Some k) = by_call k
by_number None = nothing

of : (c : LxCall) → ByRules (rules_of c)
of c = by_number (call_of c.number)

-- ---- each label's step

abbrev CallStays : (Stage → InCall) → Type 0
CallStays f = (st : Stage) (L : LinuxState) (s : ℕ) (t : LxThread) (c : LxCall) → IfSome (f st L s t c) (Stays L)

abbrev ThreadStays : OfThread → Type 0
ThreadStays f = (L : LinuxState) (s : ℕ) (t : LxThread) → IfSome (f L s t) (Stays L)

of_thread : (f : OfThread) → ThreadStays f → (L : LinuxState) (s : ℕ) → IfSome (on_thread L s f) (Stays L)
of_thread f h L s = of_bind (Stays L) (at_place L.threads s) (λ t. f (without_thread L s) s t) (h (without_thread L s) s)

of_its_call : (f : Stage → InCall) → CallStays f → ThreadStays (of_call f)
of_its_call f h L s t = of_bind (Stays L) t.call (λ c. f (stage_of c) L s (without_call t) c) (λ c. h (stage_of c) L s (without_call t) c)

of_in_call : (f : Stage → InCall) → CallStays f → (L : LinuxState) (s : ℕ) → IfSome (in_call L s f) (Stays L)
of_in_call f h = of_thread (of_call f) (of_its_call f h)

fetches : CallStays fetch
fetches (stage.Fetch p) L s t c =
    if_of (Stays L) (is_allowed Read L.space.pages p.at p.len) (has_fetched L s t (fetched (with_fetched c (bytes_at L.space.pages p.at p.len)))) (in_call_of L s t (not_fetched c)) (stay L) (stay L)
fetches _ L s t c = tt

stores : CallStays store
stores (stage.Store p) L s t c =
    if_of (Stays L) (is_allowed Write L.space.pages p.at p.len) (in_call_of (stored L s p.at (take p.len c.bytes)) s t (written (with_stored c p.len))) (in_call_of L s t (not_written c)) (stay L) (stay L)
stores _ L s t c = tt

holds : CallStays hold
holds stage.Hold L s t c = (of c).holds L s t c
holds _ L s t c = tt

gives_back : CallStays give_back
gives_back stage.Drop L s t c = map_of (move.Transfers L.files) (Stays L) (hold_given_back L.files c) (on_transfer L s t) (λ o h. with_files L o.files h) (move.drops L.files c)
gives_back _ L s t c = tt

effect_stays : (short : Bool) (L : LinuxState) (s : ℕ) (t : LxThread) (c : LxCall) → IfSome (effect_of short L s t c) (Stays L)
effect_stays true L s t c = of_map (Stays L) (short_outcome (rules_of c) L.space c) (on_space L s t) (λ o. stay L)
effect_stays false L s t c = (of c).effects L s t c

effects : (short : Bool) → CallStays (effect short)
effects short stage.Effect L s t c = effect_stays short L s t c
effects short _ L s t c = tt

moves : (picks : List Pick) → CallStays (step.move picks)
moves picks stage.Move L s t c = (of c).moves picks L s t c
moves picks _ L s t c = tt

clocks : CallStays step.clock
clocks stage.Clock L s t c = of_map (Stays L) ((rules_of c).clocked L.clock c) (in_call_of L s t) (λ c'. stay L)
clocks _ L s t c = tt

-- what is known of the thread in slot s and its call, and of a step
abbrev pub StaysOf : LinuxState → ℕ → (Stage → ℕ → List LxWaiter → List LxWaiter → Type 0) → (Stage → ℕ → List PiWaiter → List PiWaiter → Type 0) → LinuxState → Type 0
StaysOf L s Q P next = IsInCall L s (λ t c. StaysBut (Q (stage_of c) t.tid) (P (stage_of c) t.tid) L next)

known_stays : (f : Stage → InCall) (Q : Stage → ℕ → List LxWaiter → List LxWaiter → Type 0) (P : Stage → ℕ → List PiWaiter → List PiWaiter → Type 0) →
    ((st : Stage) (L : LinuxState) (s : ℕ) (t : LxThread) (c : LxCall) → IfSome (f st L s t c) (StaysBut (Q st t.tid) (P st t.tid) L)) → (L : LinuxState) (s : ℕ) → IfSome (in_call L s f) (StaysOf L s Q P)
known_stays f Q P h L s =
    known f (λ t c next. StaysBut (Q (stage_of c) t.tid) (P (stage_of c) t.tid) L next) L s (λ t c. h (stage_of c) (without_thread L s) s (without_call t) c)

-- Queue puts its own place into the queue
abbrev pub QueuedTo : Stage → ℕ → List LxWaiter → List LxWaiter → Type 0
QueuedTo (stage.Queue w) own ws ws' = OneNew (waiter own w) ws ws'
QueuedTo _ own ws ws' = ⊥

abbrev pub NoPlaces : Stage → ℕ → List LxWaiter → List LxWaiter → Type 0
NoPlaces st own = NoneNew

abbrev pub NoLocks : Stage → ℕ → List PiWaiter → List PiWaiter → Type 0
NoLocks st own = SameLocks

abbrev pub GivenOf : Stage → ℕ → List PiWaiter → List PiWaiter → Type 0
GivenOf st own = GivenTo st

queues : (st : Stage) (L : LinuxState) (s : ℕ) (t : LxThread) (c : LxCall) → IfSome (step.queue st L s t c) (StaysBut (QueuedTo st t.tid) (NoLocks st t.tid) L)
queues (stage.Queue w) L s t c = record { time = refl; files = same L.files; waiters = queued_new L.space.pages t.tid L.queue c w; locks = refl }
queues _ L s t c = tt

requeues : CallStays step.requeue
requeues (stage.Requeue r) L s t c = with_queue L (requeued L.space.pages L.queue c r).queue (requeued_none L.space.pages L.queue c r)
requeues _ L s t c = tt

wake_ops : CallStays step.wake_op
wake_ops (stage.WakeOp w) L s t c = with_queue L (after_wake_op L.space.pages L.queue c w).queue (wake_op_none L.space.pages L.queue c w)
wake_ops _ L s t c = tt

marks : (st : Stage) (L : LinuxState) (s : ℕ) (t : LxThread) (c : LxCall) → IfSome (step.mark st L s t c) (StaysBut (NoPlaces st t.tid) (GivenOf st t.tid) L)
marks (stage.Mark m) L s t c = record {
  time = refl;
  files = same L.files;
  waiters = marked_none L.rules L.space.pages t.tid (futexes_of L) m;
  locks = lock.marks L.rules L.space.pages t.tid (futexes_of L) m;
}
marks _ L s t c = tt

pi_locks : (st : Stage) (L : LinuxState) (s : ℕ) (t : LxThread) (c : LxCall) → IfSome (step.pi_lock st L s t c) (StaysBut (NoPlaces st t.tid) (LockedTo st t.tid) L)
pi_locks (stage.PiLock l) L s t c =
    with_locks (LockedTo (stage.PiLock l) t.tid) L (locked L.space.pages L.threads t.tid L.pi_queue c l).pi_queue (lock.locks L.space.pages L.threads t.tid L.pi_queue c l)
pi_locks _ L s t c = tt

pi_unlocks : (st : Stage) (L : LinuxState) (s : ℕ) (t : LxThread) (c : LxCall) → IfSome (step.pi_unlock st L s t c) (StaysBut (NoPlaces st t.tid) (GivenOf st t.tid) L)
pi_unlocks (stage.PiUnlock at) L s t c =
    with_locks (GivenTo (stage.PiUnlock at)) L (unlocked L.space.pages t.tid L.pi_queue c at).pi_queue (lock.unlocks L.space.pages t.tid L.pi_queue c at)
pi_unlocks _ L s t c = tt

releases : CallStays step.release
releases (stage.Release w) L s t c =
    with_queue L ((rules_of c).released (woken L.queue c w) c).queue
    (subst (NoneNew L.queue) (sym ((of c).releases (woken L.queue c w) c)) (released_none w.at w.most w.bits L.queue))
releases _ L s t c = tt

resumes : CallStays resume
resumes stage.Wait L s t c = of_map (Stays L) (resumed t.tid L.queue c) (in_call_of L s t) (λ c'. stay L)
resumes stage.WaitMany L s t c = map_of (Fewer L.queue) (Stays L) (waitv_resumed t.tid L.queue c) (on_queue L s t) (λ o h. with_queue L o.queue h) (resumed_none t.tid L.queue c)
resumes stage.PiWait L s t c = of_map (Stays L) (lock_resumed t.tid L.pi_queue c) (in_call_of L s t) (λ c'. stay L)
resumes _ L s t c = tt

starts : CallStays step.start
starts stage.Start L s t c =
    of_bind (Stays L) c.child (λ slot. option_map (start_child L s t c slot) (at_place L.threads slot)) (λ slot. of_map (Stays L) (at_place L.threads slot) (start_child L s t c slot) (λ child. stay L))
starts _ L s t c = tt

leaves : CallStays step.leave
leaves stage.Leave L s t c = if_of (Stays L) (has_no_thread L.threads) (exit_group L s t c) (dies L s t c) (stay L) (stay L)
leaves _ L s t c = tt

goes : CallStays step.gone
goes stage.Gone L s t c = if_of (Stays L) (has_no_thread L.threads) (exited L c) L (stay L) (stay L)
goes _ L s t c = tt

-- ---- waits that end

expires : (st : Stage) (L : LinuxState) (s : ℕ) (t : LxThread) (c : LxCall) → IfSome (expire st L s t c) (StaysBut (NoPlaces st t.tid) (EndedTo st t.tid) L)
expires stage.Wait L s t c = map_of (Fewer L.queue) (Stays L) (wait_expired L.clock t.tid L.queue c) (on_queue L s t) (λ o h. with_queue L o.queue h) (expired_none L.clock t.tid L.queue c)
expires stage.WaitMany L s t c = map_of (Fewer L.queue) (Stays L) (waitv_expired L.clock t.tid L.queue c) (on_queue L s t) (λ o h. with_queue L o.queue h) (many_expired_none L.clock t.tid L.queue c)
expires stage.PiWait L s t c =
    map_of (lock.Ended t.tid L.pi_queue) (StaysBut NoneNew (EndedTo stage.PiWait t.tid) L) (lock_expired L.clock t.tid L.pi_queue c) (on_pi_queue L s t) (λ o h. with_locks (EndedTo stage.PiWait t.tid) L o.pi_queue h) (lock.expired L.clock t.tid L.pi_queue c)
expires stage.Rest L s t c = of_map (Stays L) (nanosleep_expired L.clock c) (in_call_of L s t) (λ c'. stay L)
expires stage.Move L s t c =
    of_if (Stays L) (has_passed L.clock c.deadline && not (can_move L.files c)) (option_map (on_files L s t) (epoll_expired L.files c)) None
    (map_of (move.Leaves L.files) (Stays L) (epoll_expired L.files c) (on_files L s t) (λ o h. with_files L o.files h) (move.expires L.files c)) tt
expires _ L s t c = tt

abbrev Given : Stage → ℕ → LinuxState → GivenUp → Type 0
Given st own L g = StaysBut NoneNew (EndedTo st own) L g.state

given : (st : Stage) (L : LinuxState) (t : LxThread) (c : LxCall) → IfSome (gives_up st L t c) (Given st t.tid L)
given stage.Wait L t c =
    map_of (Fewer L.queue) (Given stage.Wait t.tid L) (wait_given_up errno.EINTR t.tid L.queue c) (given_up_in_queue L) (λ o h. with_queue L o.queue h) (given_up_none errno.EINTR t.tid L.queue c)
given stage.WaitMany L t c =
    map_of (Fewer L.queue) (Given stage.WaitMany t.tid L) (waitv_given_up errno.EINTR t.tid L.queue c) (given_up_in_queue L) (λ o h. with_queue L o.queue h) (many_given_up_none errno.EINTR t.tid L.queue c)
given stage.PiWait L t c =
    map_of (lock.Ended t.tid L.pi_queue) (Given stage.PiWait t.tid L) (lock_given_up errno.EINTR t.tid L.pi_queue c) (given_up_in_pi_queue L) (λ o h. with_locks (EndedTo stage.PiWait t.tid) L o.pi_queue h) (lock.given_up errno.EINTR t.tid L.pi_queue c)
given stage.Rest L t c = (of c).rests L c
given stage.Move L t c = of_if (Given stage.Move t.tid L) (can_move L.files c) None ((rules_of c).move_given_up L c) tt ((of c).leaves L c)
given _ L t c = tt

interrupts : (list : PendingList) (sig : LinuxSig) (st : Stage) (L : LinuxState) (s : ℕ) (t : LxThread) (c : LxCall) → IfSome (interrupt list sig st L s t c) (StaysBut (NoPlaces st t.tid) (EndedTo st t.tid) L)
interrupts list sig st L s t c =
    of_bind (StaysBut NoneNew (EndedTo st t.tid) L) (found_in t.mask (listed t.pending L.pending list) sig) (λ info. option_map (kept_in s t list info) (gives_up st L t c)) (λ info.
    map_of (Given st t.tid L) (StaysBut NoneNew (EndedTo st t.tid) L) (gives_up st L t c) (kept_in s t list info) (λ g h. record { time = h.time; files = h.files; waiters = h.waiters; locks = h.locks }) (given st L t c))

-- ---- signals

delivered_by : (forgets ends : Option LinuxSig) (L : LinuxState) (s : ℕ) (t : LxThread) → Stays L (forgotten forgets (with_thread (delivery.killed_by ends L) s t))
delivered_by forgets None L s t = forgotten_stays forgets (with_thread L s t)
delivered_by forgets (Some sig) L s t = forgotten_stays forgets (with_thread (record L { end = Some (Killed sig) }) s t)

delivers : (L : LinuxState) (s : ℕ) (d : delivery.Delivered) → Stays L (delivery.delivered_in L s d)
delivers L s d = delivered_by d.fate.forgets d.fate.ends (record L { pending = d.pending; actions = d.actions }) s d.thread

returns : (named : Option (PendingList × LinuxSig)) → ThreadStays (delivery.return named)
returns named L s t =
    of_map (Stays L) (bind t.call (λ c. delivery.return_as (restarts c) L.actions L.pending named t c (stage_of c))) (delivery.delivered_in L s) (delivers L s)

takes : (list : PendingList) (sig : LinuxSig) → ThreadStays (delivery.take list sig)
takes list sig L s t = of_map (Stays L) (delivery.take_thread L.actions L.space.pages L.pending list sig t) (delivery.delivered_in L s) (delivers L s)

framed_by : (o : Option ℕ) (L : LinuxState) (s : ℕ) (pages : Pages) (t : LxThread) → Stays L (with_thread (signal_frame.has_framed L s pages o) s t)
framed_by None L s pages t = stay L
framed_by (Some at) L s pages t = stay L

frames : ThreadStays signal_frame.frame
frames L s t =
    of_map (Stays L) (signal_frame.framed L.space.pages t) (signal_frame.framed_in L s) (λ f. framed_by f.stored L s f.pages f.thread)

kills : ThreadStays delivery.kill
kills L s t = of_if (Stays L) (delivery.kill_follows t) (Some (with_thread (delivery.killed_by (Some signal.SIGSEGV) L) s t)) None (stay L) tt

instructions : (L : LinuxState) (s : ℕ) → IfSome (outside_call L s (λ t. Some (instruction L s t))) (Stays L)
instructions L s =
    of_bind (Stays L) (at_place L.threads s) (λ t. if is_user t then Some (instruction L s t) else None) (λ t. of_if (Stays L) (is_user t) (Some (instruction L s t)) None (stay L) tt)

-- ---- a step

abbrev pub Changes : LinuxState → Label → LinuxState → Type 0
Changes L (label.Time t) next = (L.clock ≤ next.clock) × FilesTo L.files next.files × (next.queue ≡ L.queue) × (next.pi_queue ≡ L.pi_queue)
Changes L (label.Drain which n) next = (next.clock ≡ L.clock) × (next.files ≡ drained_side L.files which n) × (next.queue ≡ L.queue) × (next.pi_queue ≡ L.pi_queue)
Changes L (label.Queue s) next = StaysOf L s QueuedTo NoLocks next
Changes L (label.PiLock s) next = StaysOf L s NoPlaces LockedTo next
Changes L (label.PiUnlock s) next = StaysOf L s NoPlaces GivenOf next
Changes L (label.Mark s) next = StaysOf L s NoPlaces GivenOf next
Changes L (label.Expire s) next = StaysOf L s NoPlaces EndedTo next
Changes L (label.Interrupt s list sig) next = StaysOf L s NoPlaces EndedTo next
Changes L _ next = Stays L next

set : (L : LinuxState) (t : ℕ) → nat_lt L.clock t ≡ true → (L.clock ≤ t) × FilesTo L.files L.files × (L.queue ≡ L.queue) × (L.pi_queue ≡ L.pi_queue)
set L t h = (grind (arith, common_steps), same L.files, refl, refl)

pub step_changes : (L : LinuxState) (l : Label) → IfSome (step_of L l) (Changes L l)
step_changes L (label.Instr s) = instructions L s
step_changes L (label.Fetch s) = of_in_call fetch fetches L s
step_changes L (label.Store s) = of_in_call store stores L s
step_changes L (label.Hold s) = of_in_call hold holds L s
step_changes L (label.Drop s) = of_in_call give_back gives_back L s
step_changes L (label.Effect s short) = of_in_call (effect short) (effects short) L s
step_changes L (label.Move s picks) = of_in_call (step.move picks) (moves picks) L s
step_changes L (label.Clock s) = of_in_call step.clock clocks L s
step_changes L (label.Queue s) = known_stays step.queue QueuedTo NoLocks queues L s
step_changes L (label.PiLock s) = known_stays step.pi_lock NoPlaces LockedTo pi_locks L s
step_changes L (label.PiUnlock s) = known_stays step.pi_unlock NoPlaces GivenOf pi_unlocks L s
step_changes L (label.Requeue s) = of_in_call step.requeue requeues L s
step_changes L (label.WakeOp s) = of_in_call step.wake_op wake_ops L s
step_changes L (label.Mark s) = known_stays step.mark NoPlaces GivenOf marks L s
step_changes L (label.Release s) = of_in_call step.release releases L s
step_changes L (label.Resume s) = of_in_call resume resumes L s
step_changes L (label.Expire s) = known_stays expire NoPlaces EndedTo expires L s
step_changes L (label.Interrupt s list sig) = known_stays (interrupt list sig) NoPlaces EndedTo (interrupts list sig) L s
step_changes L (label.Start s) = of_in_call step.start starts L s
step_changes L (label.Leave s) = of_in_call step.leave leaves L s
step_changes L (label.Gone s) = of_in_call step.gone goes L s
step_changes L (label.Return s named) = of_thread (delivery.return named) (returns named) L s
step_changes L (label.Take s list sig) = of_thread (delivery.take list sig) (takes list sig) L s
step_changes L (label.Frame s) = of_thread signal_frame.frame frames L s
step_changes L (label.Kill s) = of_thread delivery.kill kills L s
step_changes L (label.Time t) = of_if_at (Changes L (label.Time t)) (nat_lt L.clock t) (Some (record L { clock = t })) None (set L t) (λ e. tt)
step_changes L (label.Drain which n) =
    of_if (Changes L (label.Drain which n)) (nat_le 1 n && nat_le n (length (side_holds L.files which))) (Some (record L { files = drained_side L.files which n })) None (refl, refl, refl, refl) tt

-- a guest that has ended takes no step
pub unended : (end : Option GuestEnd) (o : Option LinuxState) (next : LinuxState) → unless_ended end o ≡ Some next → o ≡ Some next
unended None o next e = e
unended (Some end) o next e = absurd (cc)

pub changes : (L next : LinuxState) (l : Label) → LStep L l ≡ Some next → Changes L l next
changes L next l e = in_option (Changes L l) (step_of L l) next (step_changes L l) (unended L.end (step_of L l) next e)

-- ---- the clock and the files

abbrev pub Common : LinuxState → Label → LinuxState → Type 0
Common L (label.Time t) next = (L.clock ≤ next.clock) × FilesTo L.files next.files
Common L (label.Drain which n) next = (next.clock ≡ L.clock) × (next.files ≡ drained_side L.files which n)
Common L _ next = (next.clock ≡ L.clock) × FilesTo L.files next.files

of_common : (L next : LinuxState) (l : Label) → Changes L l next → Common L l next
of_common L next (label.Time t) h = (h.0, h.1)
of_common L next (label.Drain which n) h = (h.0, h.1)
of_common L next (label.Queue s) h = (h.holds.time, h.holds.files)
of_common L next (label.PiLock s) h = (h.holds.time, h.holds.files)
of_common L next (label.PiUnlock s) h = (h.holds.time, h.holds.files)
of_common L next (label.Mark s) h = (h.holds.time, h.holds.files)
of_common L next (label.Expire s) h = (h.holds.time, h.holds.files)
of_common L next (label.Interrupt s list sig) h = (h.holds.time, h.holds.files)
of_common L next _ h = (h.time, h.files)

pub common : (L next : LinuxState) (l : Label) → LStep L l ≡ Some next → Common L l next
common L next l e = of_common L next l (changes L next l e)
