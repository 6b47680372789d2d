-- What each step leaves of the tids in use: no step but clone gives one, and clone gives the next one.
use Rattle.std.proofs.Common.{◌≡◌, ◌<◌, ℕ, Bool, true, false, not, ◌&&◌, List, [], ◌∷◌, Option, Some, None, IfSome, option_map, refl, if◌then◌else◌, nat_lt, nat_le, length, map, take, arith, zero, suc, ◌∙◌, ap, subst, sym, replicate, ◌*◌}
use Rattle.linux_abi.specs.Call.{call_of}
use Rattle.linux_abi.specs.declared.calls.Call.{Call}
use Rattle.linux_abi.specs.declared.calls.Call.TheVariants as call
use Rattle.linux_abi.specs.declared.errno.LinuxErrno.TheVariants as errno
use Rattle.linux_abi.specs.declared.signals.LinuxSig.{LinuxSig}
use Rattle.linux_abi.specs.declared.signals.LinuxSig.TheVariants as signal
use Rattle.lx_machine.specs.Calls.{refused}
use Rattle.lx_machine.specs.Clone.{start_child}
use Rattle.lx_machine.specs.Close.{close}
use Rattle.lx_machine.specs.Delivery as delivery
use Rattle.lx_machine.specs.Descriptors.{FilesOutcome, on_files}
use Rattle.lx_machine.specs.Dup.{dup, dup3}
use Rattle.lx_machine.specs.EpollCreate.{epoll_create1}
use Rattle.lx_machine.specs.EpollCtl.{epoll_ctl}
use Rattle.lx_machine.specs.EpollWait.{epoll_expired, epoll_held, epoll_interrupted, epoll_moved}
use Rattle.lx_machine.specs.Eventfd.{eventfd2}
use Rattle.lx_machine.specs.Exit.{dies, exit_group, exited}
use Rattle.lx_machine.specs.Fcntl.{fcntl}
use Rattle.lx_machine.specs.Futex.{on_queue, resumed, wait_expired, wait_given_up}
use Rattle.lx_machine.specs.FutexPi.{LockOutcome, PiOutcome, lock_expired, lock_given_up, lock_resumed, locked, on_lock, on_pi_queue, unlocked}
use Rattle.lx_machine.specs.FutexWaitv.{waitv_expired, waitv_given_up, waitv_resumed}
use Rattle.lx_machine.specs.Instruction.{instruction, stored}
use Rattle.lx_machine.specs.Interests.{drained_side, side_holds}
use Rattle.lx_machine.specs.Ioctl.{ioctl}
use Rattle.lx_machine.specs.Lists.{at_place, bind}
use Rattle.lx_machine.specs.Lseek.{lseek}
use Rattle.lx_machine.specs.Move.{interrupted, on_transfer, transferred}
use Rattle.lx_machine.specs.Nanosleep.{nanosleep_expired}
use Rattle.lx_machine.specs.Pipe.{pipe2}
use Rattle.lx_machine.specs.Ranges.{SpaceOutcome, on_space}
use Rattle.lx_machine.specs.Rules.{Effect, GivenUp, OnAll, OnFiles, OnNothing, OnSpace, OnThread, Rules, given_up, has_effect, hold_transfer, left_transfer, move_transfer, short_outcome, transfer_given_up}
use Rattle.lx_machine.specs.Shape.{fetched, not_fetched, not_written, restarts, stage_of, written}
use Rattle.lx_machine.specs.Sigaction.{sigaction_actions, sigaction_forgets}
use Rattle.lx_machine.specs.Signal.{found_in, listed}
use Rattle.lx_machine.specs.SignalFrame as signal_frame
use Rattle.lx_machine.specs.Step as step
use Rattle.lx_machine.specs.Step.{effect, effect_of, fetch, give_back, has_fetched, hold, in_call, of_call, on_thread, step_of, store, with_fetched, with_stored}
use Rattle.lx_machine.specs.Table.{events_given_up, move_events, rules, rules_at, rules_of}
use Rattle.lx_machine.specs.Threads.{InCall, OfThread, has_no_thread, in_call_of, is_user, outside_call, with_thread, without_call, without_thread}
use Rattle.lx_machine.specs.Time.{has_passed}
use Rattle.lx_machine.specs.Transfers.{held, hold_given_back}
use Rattle.lx_machine.specs.Waits.{can_move, expire, given_up_in_pi_queue, given_up_in_queue, gives_up, interrupt, kept_in, resume}
use Rattle.lx_machine.specs.Whole.{Whole}
use Rattle.lx_machine.specs.declared.calls.LxCall.{LxCall}
use Rattle.lx_machine.specs.declared.calls.Stage.{Stage}
use Rattle.lx_machine.specs.declared.calls.Stage.TheVariants as stage
use Rattle.lx_machine.specs.declared.files.Files.{Files}
use Rattle.lx_machine.specs.declared.label.Label.{Label}
use Rattle.lx_machine.specs.declared.label.Label.TheVariants as label
use Rattle.lx_machine.specs.declared.label.PendingList.{PendingList}
use Rattle.lx_machine.specs.declared.label.Pick.{Pick}
use Rattle.lx_machine.specs.declared.space.Space.{Space}
use Rattle.lx_machine.specs.declared.state.LinuxState.{LinuxState}
use Rattle.lx_machine.specs.declared.threads.GuestEnd.TheVariants.{Killed}
use Rattle.lx_machine.specs.declared.threads.LxThread.{LxThread}
use Rattle.lx_memory.specs.Bytes.{bytes_at}
use Rattle.lx_memory.specs.Queries.{is_allowed}
use Rattle.lx_memory.specs.declared.right.Right.TheVariants.{Read, Write}
use Rattle.page_store.specs.Pages.{Pages}
use Rattle.lx_laws.proofs.Results.{if_of, in_option, map_of, of_bind, of_if, of_map}
use Rattle.lx_machine.specs.Clone.{clone_outcome, cloned_in, place_for, reserved, started}
use Rattle.lx_machine.specs.Kill.{threads_after}
use Rattle.lx_machine.specs.declared.signals.Sending.{Sending}
use Rattle.lx_machine.specs.declared.signals.Sending.TheVariants as sending
use Rattle.lx_laws.specs.Kept.{HoldsAlways, HoldsAtStart, IsKept}
use Rattle.lx_laws.specs.Tids.{TidsDiffer, tids}
use Rattle.lx_laws.proofs.Places.{Leaves, Left, after_own, after_step, back, back_after, back_whole, back_then, free, set_same, tids_at, tids_forgotten, tids_sent, tids_set, tids_written, with_new}
use Rattle.lx_laws.proofs.SignalTids as signals
use Rattle.std.specs.Prelude.{slice_set}
use Rattle.lx_machine.specs.Clone.{with_child, without_child}
use Rattle.lx_machine.specs.Futex.{after_wake_op, queued, requeued, woken}
use Rattle.lx_machine.specs.Instruction.{ran}
use Rattle.lx_machine.specs.Kill.{answered_by, kill_sending, send_whole, tgkill_sending, tkill_sending}
use Rattle.lx_machine.specs.Move.{thread_after_move}
use Rattle.lx_machine.specs.Queue.{QueueOutcome}
use Rattle.lx_machine.specs.RobustList.{begun, death_marked, futexes_of, get_robust_list, marked}
use Rattle.lx_machine.specs.Shape.{mask_of}
use Rattle.lx_machine.specs.Sigaction.{sigaction_call}
use Rattle.lx_machine.specs.Signal.{forgotten, forgotten_at, queued_signals}
use Rattle.lx_machine.specs.Start.{start}
use Rattle.lx_machine.specs.Threads.{after_write, with_call}
use Rattle.lx_machine.specs.Transfers.{TransferOutcome}
use Rattle.lx_machine.specs.Whole.{put_whole, whole}
use Rattle.lx_machine.specs.declared.signals.Action.{Action}
use Rattle.lx_machine.specs.declared.signals.SigInfo.{SigInfo}
use Rattle.lx_machine.specs.declared.threads.Life.TheVariants.{Dying}
use Rattle.lx_laws.proofs.Apart.{some_is}
use Rattle.lx_laws.proofs.Epolls.{no_place}
use Rattle.lx_laws.proofs.Frame.{unended}
use Rattle.lx_laws.proofs.Places.{back_to}
use Rattle.lx_laws.proofs.Results.{for_some, of_bind_at, of_map_at}
use Rattle.lx_laws.proofs.Runs.{always}

-- nothing but what isn't told of tids has changed
abbrev Same : LinuxState → GivenUp → Type 0
Same L g = (g.state.threads ≡ L.threads) × (g.state.next_tid ≡ L.next_tid)

-- ---- what the rules of a call do

abbrev EffectLeaves : Effect → Type 0
EffectLeaves e = (L : LinuxState) (s : ℕ) (t : LxThread) (c : LxCall) → IfSome (has_effect e L s t c) (Leaves L s t.tid)

-- the steps of a call that are told by its rules
pub record RulesLeave (e : Effect) (hold : LinuxState → ℕ → LxThread → LxCall → LinuxState) (moving : List Pick → InCall) (resting : LinuxState → LxCall → GivenUp) (leaving : LinuxState → LxCall → Option GivenUp) : Type 0 where
  pub effects : EffectLeaves e
  pub holds : (L : LinuxState) (s : ℕ) (t : LxThread) (c : LxCall) → Leaves L s t.tid (hold L s t c)
  pub moves : (picks : List Pick) (L : LinuxState) (s : ℕ) (t : LxThread) (c : LxCall) → IfSome (moving picks L s t c) (Leaves L s t.tid)
  pub rests : (L : LinuxState) (c : LxCall) → Same L (resting L c)
  pub leaves : (L : LinuxState) (c : LxCall) → IfSome (leaving L c) (Same L)

abbrev ByRules : Rules → Type 0
ByRules r = RulesLeave r.effect r.hold r.move r.rest_given_up r.move_given_up

-- a transfer, whose thread may get SIGPIPE
after_move_tid : (L : LinuxState) (t : LxThread) (b : Bool) → (thread_after_move L t b).tid ≡ t.tid
after_move_tid L t true = refl
after_move_tid L t false = refl

transfers : (L : LinuxState) (s : ℕ) (t : LxThread) (o : TransferOutcome) → Leaves L s t.tid (on_transfer L s t o)
transfers L s t o = back_after L s L.threads t.tid (with_call (thread_after_move L t o.is_broken) o.call) refl (after_move_tid L t o.is_broken)

moves_transfer : (picks : List Pick) (L : LinuxState) (s : ℕ) (t : LxThread) (c : LxCall) → IfSome (move_transfer picks L s t c) (Leaves L s t.tid)
moves_transfer [] L s t c = of_map (Leaves L s t.tid) (transferred L.files c) (on_transfer L s t) (transfers L s t)
moves_transfer (p ∷ ps) L s t c = tt

leaves_transfer : (L : LinuxState) (c : LxCall) → IfSome (transfer_given_up L c) (Same L)
leaves_transfer L c = of_map (Same L) (interrupted L.files c) (left_transfer L) (λ o. (refl, refl))

by_effect : (e : Effect) → EffectLeaves e → RulesLeave e hold_transfer move_transfer (λ L c. given_up L (refused c errno.EINTR)) transfer_given_up
by_effect e h = record {
  effects = h;
  holds = λ L s t c. transfers L s t (held L.files c);
  moves = moves_transfer;
  rests = λ L c. (refl, refl);
  leaves = leaves_transfer;
}

nothing : RulesLeave OnNothing hold_transfer move_transfer (λ L c. given_up L (refused c errno.EINTR)) transfer_given_up
nothing = by_effect OnNothing (λ L s t c. tt)

on_files_by : (f : Files → LxCall → FilesOutcome) → RulesLeave (OnFiles f) hold_transfer move_transfer (λ L c. given_up L (refused c errno.EINTR)) transfer_given_up
on_files_by f = by_effect (OnFiles f) (λ L s t c. back L s (with_call t (f L.files c).call))

space_left : (L : LinuxState) (s : ℕ) (t : LxThread) (o : SpaceOutcome) → Leaves L s t.tid (on_space L s t o)
space_left L s t o = back_after L s (after_write s (o.first * 4096) (o.count * 4096) L.threads) t.tid (with_call t o.call) (tids_written s (o.first * 4096) (o.count * 4096) L.threads) refl

on_space_by : (f : Space → LxCall → SpaceOutcome) → RulesLeave (OnSpace f) hold_transfer move_transfer (λ L c. given_up L (refused c errno.EINTR)) transfer_given_up
on_space_by f = by_effect (OnSpace f) (λ L s t c. space_left L s t (f L.space c))

-- an effect on the own thread, which stands so then, in this call
on_thread_by : (f : LinuxState → ℕ → LxThread → LxCall → LinuxState) → ((L : LinuxState) (s : ℕ) (t : LxThread) (c : LxCall) → Leaves L s t.tid (f L s t c)) → RulesLeave (OnThread f) hold_transfer move_transfer (λ L c. given_up L (refused c errno.EINTR)) transfer_given_up
on_thread_by f h = by_effect (OnThread f) h

on_all_by : (f : LinuxState → ℕ → ℕ → LxCall → Whole) → ((L : LinuxState) (s : ℕ) (t : LxThread) (c : LxCall) → Leaves L s t.tid (put_whole s (f (with_thread L s t) t.mask t.robust_head c))) → RulesLeave (OnAll f) hold_transfer move_transfer (λ L c. given_up L (refused c errno.EINTR)) transfer_given_up
on_all_by f h = by_effect (OnAll f) h

-- kill and its kin
sent_tids : (w : Sending) (actions : List Action) (ts : List (Option LxThread)) → tids (threads_after w actions ts) ≡ tids ts
sent_tids (sending.ToThread slot info) actions ts = tids_sent slot actions info ts
sent_tids (sending.ToProcess info) actions ts = refl
sent_tids sending.Checked actions ts = refl
sent_tids (sending.Refused e) actions ts = refl

sends : (w : Sending) (L : LinuxState) (s : ℕ) (t : LxThread) (c : LxCall) → Leaves L s t.tid (put_whole s (send_whole (with_thread L s t) c w))
sends w L s t c = back_whole L s (threads_after w L.actions (with_thread L s t).threads) t (answered_by w c) (sent_tids w L.actions (with_thread L s t).threads)

-- rt_sigaction
forgets_all : (o : Option LinuxSig) (actions : List Action) (L : LinuxState) (s : ℕ) (t : LxThread) (c : LxCall) → Leaves L s t.tid (put_whole s (whole (forgotten o (record (with_thread L s t) { actions = actions })) c))
forgets_all None actions L s t c = back_whole L s (with_thread L s t).threads t c refl
forgets_all (Some sig) actions L s t c = back_whole L s (map (forgotten_at sig) (with_thread L s t).threads) t c (tids_forgotten sig (with_thread L s t).threads)

-- clone
clones_in : (o : Option ℕ) (L : LinuxState) (s : ℕ) (t : LxThread) (c : LxCall) → Leaves L s t.tid (put_whole s (clone_outcome (with_thread L s t) (cloned_in (with_thread L s t).threads L.next_tid t.mask c o)))
clones_in None L s t c = back_whole L s (with_thread L s t).threads t (refused c errno.EAGAIN) refl
clones_in (Some slot) L s t c = with_new L s t slot (reserved L.next_tid t.mask) (with_child c L.next_tid slot) refl

moves_epoll : (picks : List Pick) (L : LinuxState) (s : ℕ) (t : LxThread) (c : LxCall) → IfSome (move_events picks L s t c) (Leaves L s t.tid)
moves_epoll picks L s t c = of_map (Leaves L s t.tid) (epoll_moved L.files c picks) (on_files L s t) (λ o. back L s (with_call t o.call))

leaves_epoll : (L : LinuxState) (c : LxCall) → IfSome (events_given_up L c) (Same L)
leaves_epoll L c = of_map (Same L) (epoll_interrupted L.files c) (λ o. given_up (record L { files = o.files }) o.call) (λ o. (refl, refl))

by_call : (k : Call) → ByRules (rules k)
by_call call.EpollCreate1 = on_files_by epoll_create1
by_call call.EpollCtl = on_files_by epoll_ctl
by_call call.Eventfd2 = on_files_by eventfd2
by_call call.Dup = on_files_by dup
by_call call.Dup3 = on_files_by dup3
by_call call.Fcntl = on_files_by fcntl
by_call call.Ioctl = on_files_by ioctl
by_call call.Close = on_files_by close
by_call call.Pipe2 = on_files_by pipe2
by_call call.Lseek = on_files_by lseek
by_call call.Read = nothing
by_call call.Write = nothing
by_call call.Readv = nothing
by_call call.Writev = nothing
by_call call.Exit = nothing
by_call call.Futex = nothing
by_call call.ClockGettime = nothing
by_call call.RtSigsuspend = nothing
by_call call.Brk = on_space_by _
by_call call.Munmap = on_space_by _
by_call call.Mmap = on_space_by _
by_call call.Mprotect = on_space_by _
by_call call.Madvise = on_space_by _
by_call call.ExitGroup = on_thread_by _ (λ L s t c. back L s _)
by_call call.SetTidAddress = on_thread_by _ (λ L s t c. back L s _)
by_call call.SetRobustList = on_thread_by _ (λ L s t c. back L s _)
by_call call.SchedYield = on_thread_by _ (λ L s t c. back L s _)
by_call call.Sigaltstack = on_thread_by _ (λ L s t c. back L s _)
by_call call.RtSigprocmask = on_thread_by _ (λ L s t c. back L s _)
by_call call.RtSigpending = on_thread_by _ (λ L s t c. back L s _)
by_call call.RtSigreturn = on_thread_by _ (λ L s t c. back L s _)
by_call call.Uname = on_thread_by _ (λ L s t c. back L s _)
by_call call.Getpid = on_thread_by _ (λ L s t c. back L s _)
by_call call.Getppid = on_thread_by _ (λ L s t c. back L s _)
by_call call.Getuid = on_thread_by _ (λ L s t c. back L s _)
by_call call.Geteuid = on_thread_by _ (λ L s t c. back L s _)
by_call call.Getgid = on_thread_by _ (λ L s t c. back L s _)
by_call call.Getegid = on_thread_by _ (λ L s t c. back L s _)
by_call call.Gettid = on_thread_by _ (λ L s t c. back L s _)
by_call call.GetRobustList = on_all_by _ (λ L s t c. back_whole L s (with_thread L s t).threads t (get_robust_list (with_thread L s t).threads t.robust_head c) refl)
by_call call.Kill = on_all_by _ (λ L s t c. sends (kill_sending (queued_signals (with_thread L s t).threads L.pending) c) L s t c)
by_call call.Tkill = on_all_by _ (λ L s t c. sends (tkill_sending (with_thread L s t).threads (queued_signals (with_thread L s t).threads L.pending) c) L s t c)
by_call call.Tgkill = on_all_by _ (λ L s t c. sends (tgkill_sending (with_thread L s t).threads (queued_signals (with_thread L s t).threads L.pending) c) L s t c)
by_call call.Clone = on_all_by _ (λ L s t c. clones_in (place_for L.rules (with_thread L s t).threads L.next_tid) L s t c)
by_call call.RtSigaction = on_all_by _ (λ L s t c. forgets_all (sigaction_forgets c) (sigaction_actions L.actions c) L s t (sigaction_call L.actions c))
by_call call.FutexWaitv = nothing
by_call call.Nanosleep = record { effects = nothing.effects; holds = nothing.holds; moves = nothing.moves; rests = λ L c. (refl, refl); leaves = nothing.leaves }
by_call call.EpollPwait = record {
  effects = λ L s t c. tt;
  holds = λ L s t c. back L s (with_call t (epoll_held L.files c).call);
  moves = moves_epoll;
  rests = λ L c. (refl, refl);
  leaves = leaves_epoll;
}

by_number : (o : Option Call) → ByRules (rules_at o)
by_number (Some k) = by_call k
by_number None = nothing

of : (c : LxCall) → ByRules (rules_of c)
of c = by_number (call_of c.number)

-- ---- each label's step

abbrev CallLeaves : (Stage → InCall) → Type 0
CallLeaves f = (st : Stage) (L : LinuxState) (s : ℕ) (t : LxThread) (c : LxCall) → IfSome (f st L s t c) (Leaves L s t.tid)

abbrev ThreadLeaves : OfThread → Type 0
ThreadLeaves f = (L : LinuxState) (s : ℕ) (t : LxThread) → IfSome (f L s t) (Leaves L s t.tid)

abbrev Keeps : LinuxState → LinuxState → Type 0
Keeps L next = TidsDiffer L → TidsDiffer next

of_thread : (f : OfThread) → ThreadLeaves f → (L : LinuxState) (s : ℕ) → IfSome (on_thread L s f) (Keeps L)
of_thread f h L s =
    of_bind_at (Keeps L) (at_place L.threads s) (λ t. f (without_thread L s) s t) (λ t at.
    for_some (Leaves (without_thread L s) s t.tid) (Keeps L) (f (without_thread L s) s t) (λ next left. after_step L next s t at left) (h (without_thread L s) s t))

of_its_call : (f : Stage → InCall) → CallLeaves f → ThreadLeaves (of_call f)
of_its_call f h L s t = of_bind (Leaves L s t.tid) t.call (λ c. f (stage_of c) L s (without_call t) c) (λ c. h (stage_of c) L s (without_call t) c)

of_in_call : (f : Stage → InCall) → CallLeaves f → (L : LinuxState) (s : ℕ) → IfSome (in_call L s f) (Keeps L)
of_in_call f h = of_thread (of_call f) (of_its_call f h)

masked_tid : (o : Option ℕ) (t : LxThread) → (step.masked o t).tid ≡ t.tid
masked_tid None t = refl
masked_tid (Some mask) t = refl

fetches : CallLeaves fetch
fetches (stage.Fetch p) L s t c =
    let c' = fetched (with_fetched c (bytes_at L.space.pages p.at p.len)) in
    if_of (Leaves L s t.tid) (is_allowed Read L.space.pages p.at p.len) (has_fetched L s t c') (in_call_of L s t (not_fetched c))
    (back_after L s L.threads t.tid (with_call (step.masked (mask_of c') t) c') refl (masked_tid (mask_of c') t)) (back L s (with_call t (not_fetched c)))
fetches _ L s t c = tt

stores : CallLeaves store
stores (stage.Store p) L s t c =
    let bytes = take p.len c.bytes in
    if_of (Leaves L s t.tid) (is_allowed Write L.space.pages p.at p.len) (in_call_of (stored L s p.at bytes) s t (written (with_stored c p.len))) (in_call_of L s t (not_written c))
    (back_after L s (after_write s p.at (length bytes) L.threads) t.tid (with_call t (written (with_stored c p.len))) (tids_written s p.at (length bytes) L.threads) refl) (back L s (with_call t (not_written c)))
stores _ L s t c = tt

holds : CallLeaves hold
holds stage.Hold L s t c = (of c).holds L s t c
holds _ L s t c = tt

gives_back : CallLeaves give_back
gives_back stage.Drop L s t c = of_map (Leaves L s t.tid) (hold_given_back L.files c) (on_transfer L s t) (transfers L s t)
gives_back _ L s t c = tt

effect_leaves : (short : Bool) (L : LinuxState) (s : ℕ) (t : LxThread) (c : LxCall) → IfSome (effect_of short L s t c) (Leaves L s t.tid)
effect_leaves true L s t c = of_map (Leaves L s t.tid) (short_outcome (rules_of c) L.space c) (on_space L s t) (space_left L s t)
effect_leaves false L s t c = (of c).effects L s t c

effects : (short : Bool) → CallLeaves (effect short)
effects short stage.Effect L s t c = effect_leaves short L s t c
effects short _ L s t c = tt

moves : (picks : List Pick) → CallLeaves (step.move picks)
moves picks stage.Move L s t c = (of c).moves picks L s t c
moves picks _ L s t c = tt

clocks : CallLeaves step.clock
clocks stage.Clock L s t c = of_map (Leaves L s t.tid) ((rules_of c).clocked L.clock c) (in_call_of L s t) (λ c'. back L s (with_call t c'))
clocks _ L s t c = tt

on_queue_left : (L : LinuxState) (s : ℕ) (t : LxThread) (o : QueueOutcome) → Leaves L s t.tid (on_queue L s t o)
on_queue_left L s t o = back L s (with_call t o.call)

queues : CallLeaves step.queue
queues (stage.Queue w) L s t c = on_queue_left L s t (queued L.space.pages t.tid L.queue c w)
queues _ L s t c = tt

requeues : CallLeaves step.requeue
requeues (stage.Requeue r) L s t c = on_queue_left L s t (requeued L.space.pages L.queue c r)
requeues _ L s t c = tt

wake_ops : CallLeaves step.wake_op
wake_ops (stage.WakeOp w) L s t c =
    let o = after_wake_op L.space.pages L.queue c w in back_after L s (after_write s o.at o.written L.threads) t.tid (with_call t o.call) (tids_written s o.at o.written L.threads) refl
wake_ops _ L s t c = tt

marks : CallLeaves step.mark
marks (stage.Mark m) L s t c =
    let o = marked L.rules L.space.pages t.tid (futexes_of L) m in back_after L s (after_write s o.at o.written L.threads) t.tid (with_call t (death_marked o.fault c)) (tids_written s o.at o.written L.threads) refl
marks _ L s t c = tt

releases : CallLeaves step.release
releases (stage.Release w) L s t c = on_queue_left L s t ((rules_of c).released (woken L.queue c w) c)
releases _ L s t c = tt

on_lock_left : (L : LinuxState) (s : ℕ) (t : LxThread) (o : LockOutcome) → Leaves L s t.tid (on_lock L s t o)
on_lock_left L s t o = back_after L s (after_write s o.at o.written L.threads) t.tid (with_call t o.call) (tids_written s o.at o.written L.threads) refl

pi_locks : CallLeaves step.pi_lock
pi_locks (stage.PiLock l) L s t c = on_lock_left L s t (locked L.space.pages L.threads t.tid L.pi_queue c l)
pi_locks _ L s t c = tt

pi_unlocks : CallLeaves step.pi_unlock
pi_unlocks (stage.PiUnlock at) L s t c = on_lock_left L s t (unlocked L.space.pages t.tid L.pi_queue c at)
pi_unlocks _ L s t c = tt

on_pi_queue_left : (L : LinuxState) (s : ℕ) (t : LxThread) (o : PiOutcome) → Leaves L s t.tid (on_pi_queue L s t o)
on_pi_queue_left L s t o = back L s (with_call t o.call)

resumes : CallLeaves resume
resumes stage.Wait L s t c = of_map (Leaves L s t.tid) (resumed t.tid L.queue c) (in_call_of L s t) (λ c'. back L s (with_call t c'))
resumes stage.WaitMany L s t c = of_map (Leaves L s t.tid) (waitv_resumed t.tid L.queue c) (on_queue L s t) (on_queue_left L s t)
resumes stage.PiWait L s t c = of_map (Leaves L s t.tid) (lock_resumed t.tid L.pi_queue c) (in_call_of L s t) (λ c'. back L s (with_call t c'))
resumes _ L s t c = tt

child_left : (L : LinuxState) (s : ℕ) (t : LxThread) (c : LxCall) (slot : ℕ) (child : LxThread) → at_place L.threads slot ≡ Some child → Leaves L s t.tid (start_child L s t c slot child)
child_left L s t c slot child at =
    back_after L s (slice_set L.threads slot (Some (started t.regs t.mask c child))) t.tid (with_call t (without_child c))
    (tids_set L.threads slot (Some (started t.regs t.mask c child)) ∙ set_same (tids L.threads) slot child.tid (tids_at L.threads slot child at)) refl

starts : CallLeaves step.start
starts stage.Start L s t c =
    of_bind (Leaves L s t.tid) c.child (λ slot. option_map (start_child L s t c slot) (at_place L.threads slot)) (λ slot. of_map_at (Leaves L s t.tid) (at_place L.threads slot) (start_child L s t c slot) (child_left L s t c slot))
starts _ L s t c = tt

leaves : CallLeaves step.leave
leaves stage.Leave L s t c =
    if_of (Leaves L s t.tid) (has_no_thread L.threads) (exit_group L s t c) (dies L s t c) (back L s (with_call t c)) (back L s (with_call (record t { life = Dying }) (begun t.robust_head t.clear_at c)))
leaves _ L s t c = tt

goes : CallLeaves step.gone
goes stage.Gone L s t c =
    if_of (Leaves L s t.tid) (has_no_thread L.threads) (exited L c) L (free (tids L.threads) L.next_tid s t.tid) (free (tids L.threads) L.next_tid s t.tid)
goes _ L s t c = tt

-- ---- waits that end

expires : CallLeaves expire
expires stage.Wait L s t c = of_map (Leaves L s t.tid) (wait_expired L.clock t.tid L.queue c) (on_queue L s t) (on_queue_left L s t)
expires stage.WaitMany L s t c = of_map (Leaves L s t.tid) (waitv_expired L.clock t.tid L.queue c) (on_queue L s t) (on_queue_left L s t)
expires stage.PiWait L s t c = of_map (Leaves L s t.tid) (lock_expired L.clock t.tid L.pi_queue c) (on_pi_queue L s t) (on_pi_queue_left L s t)
expires stage.Rest L s t c = of_map (Leaves L s t.tid) (nanosleep_expired L.clock c) (in_call_of L s t) (λ c'. back L s (with_call t c'))
expires stage.Move L s t c =
    of_if (Leaves L s t.tid) (has_passed L.clock c.deadline && not (can_move L.files c)) (option_map (on_files L s t) (epoll_expired L.files c)) None
    (of_map (Leaves L s t.tid) (epoll_expired L.files c) (on_files L s t) (λ o. back L s (with_call t o.call))) tt
expires _ L s t c = tt

given : (st : Stage) (L : LinuxState) (t : LxThread) (c : LxCall) → IfSome (gives_up st L t c) (Same L)
given stage.Wait L t c = of_map (Same L) (wait_given_up errno.EINTR t.tid L.queue c) (given_up_in_queue L) (λ o. (refl, refl))
given stage.WaitMany L t c = of_map (Same L) (waitv_given_up errno.EINTR t.tid L.queue c) (given_up_in_queue L) (λ o. (refl, refl))
given stage.PiWait L t c = of_map (Same L) (lock_given_up errno.EINTR t.tid L.pi_queue c) (given_up_in_pi_queue L) (λ o. (refl, refl))
given stage.Rest L t c = (of c).rests L c
given stage.Move L t c = of_if (Same L) (can_move L.files c) None ((rules_of c).move_given_up L c) tt ((of c).leaves L c)
given _ L t c = tt

kept_left : (list : PendingList) (info : SigInfo) (L : LinuxState) (s : ℕ) (t : LxThread) (g : GivenUp) → Same L g → Leaves L s t.tid (kept_in s t list info g)
kept_left list info L s t g h =
    let r = delivery.removed_from t g.state.pending list info in
    subst (λ (n : ℕ). Left (tids L.threads) L.next_tid s t.tid (tids (kept_in s t list info g).threads) n) (sym h.1)
    (back_after L s g.state.threads t.tid (with_call r.thread (delivery.with_kept g.call info)) (ap tids h.0) (signals.removed_tid t g.state.pending list info))

interrupts : (list : PendingList) (sig : LinuxSig) → CallLeaves (interrupt list sig)
interrupts list sig st L s t c =
    of_bind (Leaves L s t.tid) (found_in t.mask (listed t.pending L.pending list) sig) (λ info. option_map (kept_in s t list info) (gives_up st L t c)) (λ info.
    map_of (Same L) (Leaves L s t.tid) (gives_up st L t c) (kept_in s t list info) (kept_left list info L s t) (given st L t c))

-- ---- signals

forgotten_left : (o : Option LinuxSig) (L : LinuxState) (s : ℕ) (t : LxThread) (tid : ℕ) → t.tid ≡ tid → Leaves L s tid (forgotten o (with_thread L s t))
forgotten_left None L s t tid own = back_after L s L.threads tid t refl own
forgotten_left (Some sig) L s t tid own = back_then L s (map (forgotten_at sig) (with_thread L s t).threads) tid t (tids_forgotten sig (with_thread L s t).threads) own

delivered_by : (forgets ends : Option LinuxSig) (L : LinuxState) (s : ℕ) (t : LxThread) (tid : ℕ) → t.tid ≡ tid → Leaves L s tid (forgotten forgets (with_thread (delivery.killed_by ends L) s t))
delivered_by forgets None L s t tid own = forgotten_left forgets L s t tid own
delivered_by forgets (Some sig) L s t tid own = forgotten_left forgets (record L { end = Some (Killed sig) }) s t tid own

delivers : (L : LinuxState) (s tid : ℕ) (d : delivery.Delivered) → signals.Has tid d → Leaves L s tid (delivery.delivered_in L s d)
delivers L s tid d own = delivered_by d.fate.forgets d.fate.ends (record L { pending = d.pending; actions = d.actions }) s d.thread tid own

returns : (named : Option (PendingList × LinuxSig)) → ThreadLeaves (delivery.return named)
returns named L s t =
    map_of (signals.Has t.tid) (Leaves L s t.tid) (bind t.call (λ c. delivery.return_as (restarts c) L.actions L.pending named t c (stage_of c))) (delivery.delivered_in L s) (delivers L s t.tid)
    (of_bind (signals.Has t.tid) t.call (λ c. delivery.return_as (restarts c) L.actions L.pending named t c (stage_of c)) (λ c. signals.returns_as (restarts c) L.actions L.pending named t c (stage_of c)))

takes : (list : PendingList) (sig : LinuxSig) → ThreadLeaves (delivery.take list sig)
takes list sig L s t =
    map_of (signals.Has t.tid) (Leaves L s t.tid) (delivery.take_thread L.actions L.space.pages L.pending list sig t) (delivery.delivered_in L s) (delivers L s t.tid) (signals.takes L.actions L.space.pages L.pending list sig t)

framed_left : (o : Option ℕ) (L : LinuxState) (s : ℕ) (pages : Pages) (t : LxThread) (tid : ℕ) → t.tid ≡ tid → Leaves L s tid (with_thread (signal_frame.has_framed L s pages o) s t)
framed_left None L s pages t tid own = back_after L s L.threads tid t refl own
framed_left (Some at) L s pages t tid own = back_after L s (after_write s at signal_frame.frame_size L.threads) tid t (tids_written s at signal_frame.frame_size L.threads) own

frames : ThreadLeaves signal_frame.frame
frames L s t =
    map_of (signals.Framed t.tid) (Leaves L s t.tid) (signal_frame.framed L.space.pages t) (signal_frame.framed_in L s)
    (λ f own. framed_left f.stored L s f.pages f.thread t.tid own) (signals.frames L.space.pages t)

kills : ThreadLeaves delivery.kill
kills L s t = of_if (Leaves L s t.tid) (delivery.kill_follows t) (Some (with_thread (delivery.killed_by (Some signal.SIGSEGV) L) s t)) None (back L s t) tt

ran_left : (L : LinuxState) (s : ℕ) (t : LxThread) → Leaves L s t.tid (instruction L s t)
ran_left L s t =
    let r = ran L.space.pages t in
    back_to (tids L.threads) (tids (instruction L s t).threads) L.next_tid s t.tid
    (tids_written s r.at r.written (slice_set L.threads s (Some r.thread)) ∙ tids_set L.threads s (Some r.thread) ∙ ap (λ (n : ℕ). slice_set (tids L.threads) s (Some n)) (signals.runs L.space.pages t))

instructions : (L : LinuxState) (s : ℕ) → IfSome (outside_call L s (λ t. Some (instruction L s t))) (Keeps L)
instructions L s =
    of_bind_at (Keeps L) (at_place L.threads s) (λ t. if is_user t then Some (instruction L s t) else None) (λ t at.
    of_if (Keeps L) (is_user t) (Some (instruction L s t)) None (after_own L (instruction L s t) s t at (ran_left L s t)) tt)

-- ---- a step

same_tids : (L next : LinuxState) → next.threads ≡ L.threads → next.next_tid ≡ L.next_tid → TidsDiffer L → TidsDiffer next
same_tids L next same_threads same_next h = record {
  differ = λ i j m a b. h.differ i j m (ap (λ (ts : List (Option LxThread)). at_place (tids ts) i) (sym same_threads) ∙ a) (ap (λ (ts : List (Option LxThread)). at_place (tids ts) j) (sym same_threads) ∙ b);
  below = λ i m a. subst (λ (n : ℕ). m < n) (sym same_next) (h.below i m (ap (λ (ts : List (Option LxThread)). at_place (tids ts) i) (sym same_threads) ∙ a));
}

step_keeps : (L : LinuxState) (l : Label) → IfSome (step_of L l) (Keeps L)
step_keeps L (label.Instr s) = instructions L s
step_keeps L (label.Fetch s) = of_in_call fetch fetches L s
step_keeps L (label.Store s) = of_in_call store stores L s
step_keeps L (label.Hold s) = of_in_call hold holds L s
step_keeps L (label.Drop s) = of_in_call give_back gives_back L s
step_keeps L (label.Effect s short) = of_in_call (effect short) (effects short) L s
step_keeps L (label.Move s picks) = of_in_call (step.move picks) (moves picks) L s
step_keeps L (label.Clock s) = of_in_call step.clock clocks L s
step_keeps L (label.Queue s) = of_in_call step.queue queues L s
step_keeps L (label.Requeue s) = of_in_call step.requeue requeues L s
step_keeps L (label.WakeOp s) = of_in_call step.wake_op wake_ops L s
step_keeps L (label.Mark s) = of_in_call step.mark marks L s
step_keeps L (label.Release s) = of_in_call step.release releases L s
step_keeps L (label.PiLock s) = of_in_call step.pi_lock pi_locks L s
step_keeps L (label.PiUnlock s) = of_in_call step.pi_unlock pi_unlocks L s
step_keeps L (label.Resume s) = of_in_call resume resumes L s
step_keeps L (label.Expire s) = of_in_call expire expires L s
step_keeps L (label.Interrupt s list sig) = of_in_call (interrupt list sig) (interrupts list sig) L s
step_keeps L (label.Start s) = of_in_call step.start starts L s
step_keeps L (label.Leave s) = of_in_call step.leave leaves L s
step_keeps L (label.Gone s) = of_in_call step.gone goes L s
step_keeps L (label.Return s named) = of_thread (delivery.return named) (returns named) L s
step_keeps L (label.Take s list sig) = of_thread (delivery.take list sig) (takes list sig) L s
step_keeps L (label.Frame s) = of_thread signal_frame.frame frames L s
step_keeps L (label.Kill s) = of_thread delivery.kill kills L s
step_keeps L (label.Time t) = of_if (Keeps L) (nat_lt L.clock t) (Some (record L { clock = t })) None (same_tids L (record L { clock = t }) refl refl) tt
step_keeps L (label.Drain which n) =
    of_if (Keeps L) (nat_le 1 n && nat_le n (length (side_holds L.files which))) (Some (record L { files = drained_side L.files which n })) None (same_tids L (record L { files = drained_side L.files which n }) refl refl) tt

pub are_kept : IsKept TidsDiffer
are_kept L next l h e = in_option (Keeps L) (step_of L l) next (step_keeps L l) (unended L.end (step_of L l) next e) h

-- ---- the start

one_tid : (i tid : ℕ) → at_place (Some 1000 ∷ replicate 127 None) i ≡ Some tid → (i ≡ 0) × (tid ≡ 1000)
one_tid zero tid e = (refl, sym (some_is 1000 tid e))
one_tid (suc i) tid e = absurd (no_place 127 i tid e)

pub begin : HoldsAtStart TidsDiffer
begin image name arguments input seed rules = record {
  differ = λ i j tid a b. (one_tid i tid (none_else i ∙ a)).0 ∙ sym (one_tid j tid (none_else j ∙ b)).0;
  below = λ i tid a. let e = (one_tid i tid (none_else i ∙ a)).1 in omega arith;
}
  where
    no_tids : (k : ℕ) → ◌≡◌ {A = List (Option ℕ)} (replicate k None) (tids (replicate k None))
    no_tids zero = refl
    no_tids (suc k) = ap (λ (l : List (Option ℕ)). None ∷ l) (no_tids k)

    none_else : (i : ℕ) → at_place (Some 1000 ∷ replicate 127 None) i ≡ at_place (tids (start image name arguments input seed rules).threads) i
    none_else i = ap (λ (l : List (Option ℕ)). at_place (Some 1000 ∷ l) i) (no_tids 127)

pub are_always : HoldsAlways TidsDiffer
are_always = always TidsDiffer begin are_kept
