-- The table of calls: the rules of each, by its number. Source: the manual page of each call.
use Rattle.std.specs.Prelude.{Bool, List, None, Option, Some, [], false, true, ℕ, ◌∷◌}
use Rattle.std.specs.Option.{option_map}
use Rattle.linux_abi.specs.Call.{call_of}
use Rattle.linux_abi.specs.declared.calls.Call.{Call}
use Rattle.linux_abi.specs.declared.calls.Call.TheVariants as call
use Rattle.linux_abi.specs.declared.errno.LinuxErrno.TheVariants as errno
use Rattle.lx_machine.specs.Brk.{brk}
use Rattle.lx_machine.specs.Calls.{answered}
use Rattle.lx_machine.specs.ClockGettime.{clock_gettime_clocked, clock_gettime_refusals, clock_gettime_stage}
use Rattle.lx_machine.specs.Clone.{clone_not_stored, clone_refusals, clone_stage, clone_whole}
use Rattle.lx_machine.specs.Close.{close}
use Rattle.lx_machine.specs.Descriptors.{on_files}
use Rattle.lx_machine.specs.Dup.{dup, dup3, dup3_refusals}
use Rattle.lx_machine.specs.EpollCreate.{epoll_create1, epoll_create_refusals}
use Rattle.lx_machine.specs.EpollCtl.{epoll_ctl, epoll_ctl_pieces, epoll_ctl_refusals, epoll_ctl_stage}
use Rattle.lx_machine.specs.EpollWait.{epoll_can_move, epoll_held, epoll_interrupted, epoll_moved, epoll_pwait_pieces, epoll_pwait_refusals, epoll_pwait_stage, with_timeout}
use Rattle.lx_machine.specs.Eventfd.{eventfd2, eventfd_refusals}
use Rattle.lx_machine.specs.Exit.{exit_group, exit_stage}
use Rattle.lx_machine.specs.Fcntl.{fcntl}
use Rattle.lx_machine.specs.Futex.{futex_clocked, futex_fetched, futex_pieces, futex_refusals, futex_restarts, futex_stage}
use Rattle.lx_machine.specs.FutexWaitv.{waitv_clocked, waitv_fetched, waitv_pieces, waitv_refusals, waitv_restarts, waitv_stage}
use Rattle.lx_machine.specs.Getpid.{own_id}
use Rattle.lx_machine.specs.Ioctl.{ioctl}
use Rattle.lx_machine.specs.Kill.{kill_refusals, kill_sending, send_whole, tgkill_refusals, tgkill_sending, tkill_refusals, tkill_sending}
use Rattle.lx_machine.specs.Lseek.{lseek}
use Rattle.lx_machine.specs.Madvise.{madvise, madvise_refusals}
use Rattle.lx_machine.specs.Mmap.{mmap, mmap_refusals}
use Rattle.lx_machine.specs.Move.{may_restart}
use Rattle.lx_machine.specs.Mprotect.{mprotect, mprotect_refusals}
use Rattle.lx_machine.specs.Munmap.{munmap, munmap_refusals}
use Rattle.lx_machine.specs.Nanosleep.{nanosleep_clocked, nanosleep_interrupted, nanosleep_pieces, nanosleep_stage}
use Rattle.lx_machine.specs.Pipe.{pipe2, pipe_refusals}
use Rattle.lx_machine.specs.Queue.{queue_outcome}
use Rattle.lx_machine.specs.Ranges.{SpaceOutcome, space_answers, space_refuses}
use Rattle.lx_machine.specs.Read.{read_stage}
use Rattle.lx_machine.specs.Readv.{readv_stage, vector_pieces, vector_refusals, vectors_fetched}
use Rattle.lx_machine.specs.RobustList.{death_fetched, death_not_fetched, death_released, death_stored, get_robust_list, set_robust_list, set_robust_list_refusals, with_robust_list}
use Rattle.lx_machine.specs.Rules.{Effect, GivenUp, OnAll, OnFiles, OnSpace, OnThread, Rules, given_up, plain}
use Rattle.lx_machine.specs.SetTidAddress.{set_tid_address}
use Rattle.lx_machine.specs.Sigaction.{sigaction_pieces, sigaction_refusals, sigaction_stage, sigaction_whole}
use Rattle.lx_machine.specs.Sigaltstack.{sigaltstack_call, sigaltstack_pieces, sigaltstack_stack, sigaltstack_stage}
use Rattle.lx_machine.specs.Signal.{queued_signals}
use Rattle.lx_machine.specs.SignalCalls.{blockable, fetched_mask}
use Rattle.lx_machine.specs.Sigpending.{sigpending_call, sigpending_refusals}
use Rattle.lx_machine.specs.Sigprocmask.{sigprocmask_call, sigprocmask_mask, sigprocmask_pieces, sigprocmask_refusals, sigprocmask_stage}
use Rattle.lx_machine.specs.Sigreturn.{sigreturn_call, sigreturn_mask, sigreturn_pieces, sigreturn_regs, sigreturn_stage}
use Rattle.lx_machine.specs.Sigsuspend.{sigsuspend_pieces, sigsuspend_refusals, sigsuspend_stage}
use Rattle.lx_machine.specs.Threads.{InCall, in_call_of}
use Rattle.lx_machine.specs.Time.{timeout_fetched}
use Rattle.lx_machine.specs.Transfers.{transfer_pieces}
use Rattle.lx_machine.specs.Uname.{uname}
use Rattle.lx_machine.specs.Whole.{whole}
use Rattle.lx_machine.specs.Write.{write_stage}
use Rattle.lx_machine.specs.declared.calls.LxCall.{LxCall}
use Rattle.lx_machine.specs.declared.calls.Restart.{Restart}
use Rattle.lx_machine.specs.declared.calls.Restart.TheVariants as restart
use Rattle.lx_machine.specs.declared.calls.Stage.TheVariants as stage
use Rattle.lx_machine.specs.declared.label.Pick.{Pick}
use Rattle.lx_machine.specs.declared.space.Space.{Space}
use Rattle.lx_machine.specs.declared.state.LinuxState.{LinuxState}
use Rattle.lx_machine.specs.declared.threads.LxThread.{LxThread}

-- ---- effects on the own thread

-- the call answers this number, and no more; it stands so, and no more
abbrev pub answers_id : (LxThread → ℕ) → Effect
answers_id id = OnThread (λ L s t c. in_call_of L s t (answered c (id t)))

abbrev pub on_call : (LxCall → LxCall) → Effect
on_call f = OnThread (λ L s t c. in_call_of L s t (f c))

-- ---- epoll_pwait: Hold, Move, and its wait that a signal ends

abbrev pub hold_epoll_of : LinuxState → ℕ → LxThread → LxCall → LinuxState
hold_epoll_of L s t c = on_files L s t (epoll_held L.files c)

abbrev pub move_events : List Pick → InCall
move_events picks L s t c = option_map (on_files L s t) (epoll_moved L.files c picks)

abbrev pub events_given_up : LinuxState → LxCall → Option GivenUp
events_given_up L c = option_map (λ o. given_up (record L { files = o.files }) o.call) (epoll_interrupted L.files c)

-- ---- a transfer starts again where the handler of the signal asks for it

abbrev pub as_asked : Bool → Restart
as_asked true = restart.AsAsked
as_asked false = restart.Never

-- ---- calls that answer ENOMEM where memory runs short

abbrev pub lacks_memory : Option (Space → LxCall → SpaceOutcome)
lacks_memory = Some (λ S c. space_refuses S c errno.ENOMEM)

-- ---- the table

abbrev pub rules : Call → Rules
rules call.EpollCreate1 = record plain { refusals = epoll_create_refusals; effect = OnFiles epoll_create1 }
rules call.EpollCtl = record plain { refusals = epoll_ctl_refusals; pieces = λ sp. epoll_ctl_pieces; stage = epoll_ctl_stage; effect = OnFiles epoll_ctl }
rules call.EpollPwait = record plain {
  refusals = epoll_pwait_refusals;
  pieces = λ sp. epoll_pwait_pieces;
  stage = epoll_pwait_stage;
  mask = λ c. Some (blockable (fetched_mask c));
  clocked = λ clock c. Some (with_timeout clock c);
  hold = hold_epoll_of;
  move = move_events;
  can_move = epoll_can_move;
  move_given_up = events_given_up;
}
rules call.Eventfd2 = record plain { refusals = eventfd_refusals; effect = OnFiles eventfd2 }
rules call.Dup = record plain { effect = OnFiles dup }
rules call.Dup3 = record plain { refusals = dup3_refusals; effect = OnFiles dup3 }
rules call.Fcntl = record plain { effect = OnFiles fcntl }
rules call.Ioctl = record plain { effect = OnFiles ioctl }
rules call.Close = record plain { effect = OnFiles close }
rules call.Pipe2 = record plain { refusals = pipe_refusals; effect = OnFiles pipe2 }
rules call.Lseek = record plain { effect = OnFiles lseek }
rules call.Read = record plain { pieces = λ sp. transfer_pieces; stage = λ c. read_stage c c.held; restarts = λ c. as_asked (may_restart c) }
rules call.Write = record plain { pieces = λ sp. transfer_pieces; stage = λ c. write_stage c c.held; restarts = λ c. as_asked (may_restart c) }
rules call.Readv = record plain {
  refusals = vector_refusals;
  pieces = λ sp. vector_pieces;
  stage = λ c. readv_stage c c.held;
  fetched = vectors_fetched;
  restarts = λ c. as_asked (may_restart c);
}
rules call.Writev = record plain {
  refusals = vector_refusals;
  pieces = λ sp. vector_pieces;
  stage = λ c. write_stage c c.held;
  fetched = vectors_fetched;
  restarts = λ c. as_asked (may_restart c);
}
rules call.Exit = record plain {
  stage = λ c. exit_stage c.death;
  fetched = death_fetched;
  not_fetched = death_not_fetched;
  written = death_stored;
  not_written = death_stored;
  released = λ o c. queue_outcome o.queue (death_released c);
}
rules call.ExitGroup = record plain { effect = OnThread exit_group }
rules call.SetTidAddress = record plain { effect = OnThread set_tid_address }
rules call.Futex = record plain {
  refusals = futex_refusals;
  pieces = λ sp. futex_pieces;
  stage = futex_stage;
  fetched = futex_fetched;
  clocked = λ clock c. Some (futex_clocked clock c);
  restarts = futex_restarts;
}
rules call.SetRobustList = record plain {
  refusals = set_robust_list_refusals;
  effect = OnThread (λ L s t c. in_call_of L s (with_robust_list t c) (set_robust_list c));
}
rules call.GetRobustList = record plain { effect = OnAll (λ L mask robust_head c. whole L (get_robust_list L.threads robust_head c)) }
rules call.Nanosleep = record plain {
  pieces = λ sp. nanosleep_pieces;
  stage = nanosleep_stage;
  fetched = timeout_fetched;
  clocked = λ clock c. Some (nanosleep_clocked clock c);
  rest_given_up = λ L c. given_up L (nanosleep_interrupted L.clock c);
}
rules call.ClockGettime = record plain {
  refusals = clock_gettime_refusals;
  stage = clock_gettime_stage;
  clocked = λ clock c. Some (clock_gettime_clocked clock c);
}
rules call.SchedYield = record plain { effect = answers_id (λ t. 0) }
rules call.Kill = record plain {
  refusals = kill_refusals;
  effect = OnAll (λ L mask robust_head c. send_whole L c (kill_sending (queued_signals L.threads L.pending) c));
}
rules call.Tkill = record plain {
  refusals = tkill_refusals;
  effect = OnAll (λ L mask robust_head c. send_whole L c (tkill_sending L.threads (queued_signals L.threads L.pending) c));
}
rules call.Tgkill = record plain {
  refusals = tgkill_refusals;
  effect = OnAll (λ L mask robust_head c. send_whole L c (tgkill_sending L.threads (queued_signals L.threads L.pending) c));
}
rules call.Sigaltstack = record plain {
  pieces = λ sp. sigaltstack_pieces;
  stage = sigaltstack_stage;
  effect = OnThread (λ L s t c. in_call_of L s (record t { alt_stack = sigaltstack_stack t.regs.sp t.alt_stack c }) (sigaltstack_call t.regs.sp t.alt_stack c));
}
rules call.RtSigsuspend = record plain {
  refusals = sigsuspend_refusals;
  pieces = λ sp. sigsuspend_pieces;
  stage = sigsuspend_stage;
  mask = λ c. Some (blockable (fetched_mask c));
}
rules call.RtSigaction = record plain {
  refusals = sigaction_refusals;
  pieces = λ sp. sigaction_pieces;
  stage = sigaction_stage;
  effect = OnAll (λ L mask robust_head c. sigaction_whole L c);
}
rules call.RtSigprocmask = record plain {
  refusals = sigprocmask_refusals;
  pieces = λ sp. sigprocmask_pieces;
  stage = sigprocmask_stage;
  effect = OnThread (λ L s t c. in_call_of L s (record t { mask = sigprocmask_mask t.mask c }) (sigprocmask_call t.mask c));
}
rules call.RtSigpending = record plain {
  refusals = sigpending_refusals;
  effect = OnThread (λ L s t c. in_call_of L s t (sigpending_call t.mask t.pending L.pending c));
}
rules call.RtSigreturn = record plain {
  pieces = λ sp c. sigreturn_pieces sp;
  stage = sigreturn_stage;
  not_fetched = λ c. record c { pieces = [] };
  effect = OnThread (λ L s t c. in_call_of L s (record t { regs = sigreturn_regs t.regs c; mask = sigreturn_mask c }) (sigreturn_call c));
}
rules call.Uname = record plain { effect = on_call uname }
rules call.Getpid = record plain { effect = answers_id (λ t. own_id) }
rules call.Getppid = record plain { effect = answers_id (λ t. 1) }
rules call.Getuid = record plain { effect = answers_id (λ t. own_id) }
rules call.Geteuid = record plain { effect = answers_id (λ t. own_id) }
rules call.Getgid = record plain { effect = answers_id (λ t. own_id) }
rules call.Getegid = record plain { effect = answers_id (λ t. own_id) }
rules call.Gettid = record plain { effect = answers_id (λ t. t.tid) }
rules call.Brk = record plain { effect = OnSpace brk; short = Some (λ S c. space_answers S c S.break_at) }
rules call.Munmap = record plain { refusals = munmap_refusals; effect = OnSpace munmap; short = lacks_memory }
rules call.Clone = record plain {
  refusals = clone_refusals;
  stage = clone_stage;
  not_written = clone_not_stored;
  effect = OnAll (λ L mask robust_head c. clone_whole L mask c);
}
rules call.Mmap = record plain { refusals = mmap_refusals; effect = OnSpace mmap; short = lacks_memory }
rules call.Mprotect = record plain { refusals = mprotect_refusals; effect = OnSpace mprotect; short = lacks_memory }
rules call.Madvise = record plain { refusals = madvise_refusals; effect = OnSpace madvise }
rules call.FutexWaitv = record plain {
  refusals = waitv_refusals;
  pieces = λ sp. waitv_pieces;
  stage = waitv_stage;
  fetched = waitv_fetched;
  clocked = λ clock c. Some (waitv_clocked c);
  restarts = waitv_restarts;
}

-- a number without a call: it is refused with ENOSYS at its entry
abbrev pub unknown : Rules
unknown = record plain { refusals = λ c. (true, errno.ENOSYS) ∷ []; stage = λ c. stage.Return }

abbrev pub rules_at : Option Call → Rules
rules_at (Some k) = rules k
rules_at None = unknown

-- the rules of a call, by its number
abbrev pub rules_of : LxCall → Rules
rules_of c = rules_at (call_of c.number)
