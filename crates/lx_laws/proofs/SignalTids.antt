-- A thread keeps its tid as it takes a signal, stores a frame, or executes an instruction.
use Rattle.std.proofs.Common.{◌≡◌, ℕ, not, List, Option, Some, None, Result, Ok, Err, IfSome, refl, if◌then◌else◌, ◌==◌, ◌%◌, pos}
use Rattle.a64_model.specs.Exec.{after, needed, next}
use Rattle.a64_model.specs.Rows.{row}
use Rattle.a64_model.specs.declared.access.Access.{Access}
use Rattle.a64_model.specs.declared.access.Next.{Next}
use Rattle.a64_model.specs.declared.access.Next.TheVariants.{Call, Go, Trap}
use Rattle.a64_model.specs.declared.instr.Instr.{Instr}
use Rattle.linux_abi.specs.LinuxSig.{signal_number}
use Rattle.linux_abi.specs.SigAction.{has_handler}
use Rattle.linux_abi.specs.declared.signals.LinuxSig.{LinuxSig}
use Rattle.linux_abi.specs.declared.signals.LinuxSig.TheVariants as signal
use Rattle.lx_machine.specs.Calls.{argument}
use Rattle.lx_machine.specs.Delivery as delivery
use Rattle.lx_machine.specs.Delivery.{Delivered}
use Rattle.lx_machine.specs.Instruction.{Ran, accessed, executed, followed, leaves, ran, with_access, with_mark}
use Rattle.lx_machine.specs.Signal.{action_of, found_in, is_ignored, listed, without_signal}
use Rattle.lx_machine.specs.SignalFrame as signal_frame
use Rattle.lx_machine.specs.Threads.{is_user, trapped, with_regs}
use Rattle.lx_machine.specs.declared.calls.LxCall.{LxCall}
use Rattle.lx_machine.specs.declared.calls.Restart.{Restart}
use Rattle.lx_machine.specs.declared.calls.Stage.{Stage}
use Rattle.lx_machine.specs.declared.calls.Stage.TheVariants as stage
use Rattle.lx_machine.specs.declared.label.PendingList.{PendingList}
use Rattle.lx_machine.specs.declared.label.PendingList.TheVariants.{Own, Shared}
use Rattle.lx_machine.specs.declared.signals.Action.{Action}
use Rattle.lx_machine.specs.declared.signals.SigInfo.{SigInfo}
use Rattle.lx_machine.specs.declared.signals.Taken.{Taken}
use Rattle.lx_machine.specs.declared.threads.LxThread.{LxThread}
use Rattle.lx_memory.specs.Bytes.{bytes_at}
use Rattle.lx_memory.specs.Queries.{is_allowed}
use Rattle.lx_memory.specs.declared.right.Right.TheVariants.{Execute}
use Rattle.page_store.specs.Pages.{Pages}
use Rattle.places.specs.Places.{number_of}
use Rattle.lx_laws.proofs.Results.{if_of, of_bind, of_if, of_map}

-- ---- signals

-- the thread has this tid
abbrev pub Has : ℕ → Delivered → Type 0
Has tid d = d.thread.tid ≡ tid

delivers : (a : Action) (actions : List Action) (t : LxThread) (pending : List SigInfo) (info : SigInfo) → Has t.tid (delivery.delivered_by a actions t pending info)
delivers a actions t pending info = if_of (λ (u : LxThread). u.tid ≡ t.tid) (has_handler a.handler) (delivery.handled t info a) t refl refl

delivers_from : (actions : List Action) (t : LxThread) (pending : List SigInfo) (list : PendingList) (info : SigInfo) → Has t.tid (delivery.delivered_from actions t pending list info)
delivers_from actions t pending Own info = delivers (action_of actions info.signal) actions (record t { pending = without_signal info.signal t.pending }) pending info
delivers_from actions t pending Shared info = delivers (action_of actions info.signal) actions t (without_signal info.signal pending) info

takes_pending : (actions : List Action) (t : LxThread) (pending : List SigInfo) (list : PendingList) (sig : LinuxSig) → IfSome (delivery.take_pending actions t pending list sig) (Has t.tid)
takes_pending actions t pending list sig =
    of_map (Has t.tid) (found_in t.mask (listed t.pending pending list) sig) (delivery.delivered_from actions t pending list) (delivers_from actions t pending list)

takes_at_return : (actions : List Action) (t : LxThread) (pending : List SigInfo) (named : Option (PendingList × LinuxSig)) → IfSome (delivery.taken_at_return actions t pending named) (Has t.tid)
takes_at_return actions t pending (Some named) = takes_pending actions (delivery.unmasked t) pending named.0 named.1
takes_at_return actions t pending None =
    of_if (Has t.tid) (delivery.has_none_to_take (delivery.unmasked t) pending) (Some (delivery.delivery (delivery.unmasked t) pending actions delivery.no_fate)) None refl tt

delivers_kept : (restarts_so : Restart) (actions : List Action) (t : LxThread) (pending : List SigInfo) (info : SigInfo) (first n : ℕ) (named : Option (PendingList × LinuxSig)) → IfSome (delivery.kept_delivered restarts_so actions t pending info first n named) (Has t.tid)
delivers_kept restarts_so actions t pending info first n (Some named) = tt
delivers_kept restarts_so actions t pending info first n None =
    delivers (action_of actions info.signal) actions (delivery.out_of_call t (delivery.regs_after (delivery.starts_again restarts_so (action_of actions info.signal)) t.regs first n)) pending info

returns_with : (restarts_so : Restart) (actions : List Action) (t : LxThread) (pending : List SigInfo) (first n : ℕ) (named : Option (PendingList × LinuxSig)) (kept : Option SigInfo) → IfSome (delivery.returned restarts_so actions t pending first n named kept) (Has t.tid)
returns_with restarts_so actions t pending first n named None = takes_at_return actions (delivery.out_of_call t (delivery.with_result t.regs n)) pending named
returns_with restarts_so actions t pending first n named (Some info) =
    of_if (Has t.tid) (is_ignored (action_of actions info.signal) info.signal)
    (delivery.taken_at_return actions (delivery.out_of_call t (delivery.regs_after (delivery.may_start_again restarts_so) t.regs first n)) pending named)
    (delivery.kept_delivered restarts_so actions t pending info first n named)
    (takes_at_return actions (delivery.out_of_call t (delivery.regs_after (delivery.may_start_again restarts_so) t.regs first n)) pending named)
    (delivers_kept restarts_so actions t pending info first n named)

pub returns_as : (restarts_so : Restart) (actions : List Action) (pending : List SigInfo) (named : Option (PendingList × LinuxSig)) (t : LxThread) (c : LxCall) (st : Stage) → IfSome (delivery.return_as restarts_so actions pending named t c st) (Has t.tid)
returns_as restarts_so actions pending named t c stage.Return =
    of_bind (Has t.tid) c.result (λ n. delivery.returned restarts_so actions t pending (argument c 0) n named c.kept) (λ n. returns_with restarts_so actions t pending (argument c 0) n named c.kept)
returns_as restarts_so actions pending named t c _ = tt

forces_by : (a : Action) (actions : List Action) (pages : Pages) (t : LxThread) (pending : List SigInfo) (trap : SigInfo) → Has t.tid (delivery.forced_by a actions pages t pending trap)
forces_by a actions pages t pending trap =
    if_of (Has t.tid) (delivery.is_fatal t.mask a trap.signal) (delivery.delivery t pending actions (delivery.ends_by trap.signal))
    (delivery.delivered_by a actions (record t { trap = None }) pending (delivery.judged pages trap)) refl
    (delivers a actions (record t { trap = None }) pending (delivery.judged pages trap))

forces : (actions : List Action) (pages : Pages) (t : LxThread) (pending : List SigInfo) (trap : SigInfo) (sig : LinuxSig) → IfSome (delivery.forced actions pages t pending trap sig) (Has t.tid)
forces actions pages t pending trap sig =
    of_if (Has t.tid) (signal_number trap.signal == signal_number sig) (Some (delivery.forced_by (action_of actions trap.signal) actions pages t pending trap)) None
    (forces_by (action_of actions trap.signal) actions pages t pending trap) tt

takes_outside : (actions : List Action) (pending : List SigInfo) (t : LxThread) (list : PendingList) (sig : LinuxSig) → IfSome (if is_user t then delivery.take_pending actions t pending list sig else None) (Has t.tid)
takes_outside actions pending t list sig = of_if (Has t.tid) (is_user t) (delivery.take_pending actions t pending list sig) None (takes_pending actions t pending list sig) tt

takes_by : (actions : List Action) (pages : Pages) (pending : List SigInfo) (t : LxThread) (list : PendingList) (sig : LinuxSig) (trap : Option SigInfo) → IfSome (delivery.take_by actions pages pending t list sig trap) (Has t.tid)
takes_by actions pages pending t Own sig (Some trap) = forces actions pages t pending trap sig
takes_by actions pages pending t Shared sig (Some trap) = tt
takes_by actions pages pending t Own sig None = takes_outside actions pending t Own sig
takes_by actions pages pending t Shared sig None = takes_outside actions pending t Shared sig

pub takes : (actions : List Action) (pages : Pages) (pending : List SigInfo) (list : PendingList) (sig : LinuxSig) (t : LxThread) → IfSome (delivery.take_thread actions pages pending list sig t) (Has t.tid)
takes actions pages pending list sig t = takes_by actions pages pending t list sig t.trap

pub removed_tid : (t : LxThread) (pending : List SigInfo) (list : PendingList) (info : SigInfo) → (delivery.removed_from t pending list info).thread.tid ≡ t.tid
removed_tid t pending Own info = refl
removed_tid t pending Shared info = refl

-- ---- frames

abbrev pub Framed : ℕ → signal_frame.Framed → Type 0
Framed tid f = f.thread.tid ≡ tid

frames_if : (o : Option ℕ) (pages : Pages) (t : LxThread) (taken : Taken) → Framed t.tid (signal_frame.frame_if o pages t taken)
frames_if None pages t taken = refl
frames_if (Some at) pages t taken = refl

pub frames : (pages : Pages) (t : LxThread) → IfSome (signal_frame.framed pages t) (Framed t.tid)
frames pages t = of_map (Framed t.tid) t.taken (signal_frame.framed_by pages t) (λ taken. frames_if (signal_frame.storable_place pages (signal_frame.frame_top taken.action t.regs.sp t.alt_stack)) pages t taken)

-- ---- instructions

abbrev pub Runs : ℕ → Ran → Type 0
Runs tid r = r.thread.tid ≡ tid

follows : (t : LxThread) (n : Next) → (followed t n).tid ≡ t.tid
follows t Go = refl
follows t Call = refl
follows t (Trap n code address) = refl

accesses : (pages : Pages) (t : LxThread) (i : Instr) (o : Result Access Next) → Runs t.tid (with_access pages t i o)
accesses pages t i (Ok a) =
    let b = accessed pages t.mark a in follows (with_regs (with_mark t b.mark) (after t.regs i b.answer)) (next t.regs i b.answer)
accesses pages t i (Err n) = follows t n

executes : (pages : Pages) (t : LxThread) (o : Option Instr) → Runs t.tid (executed pages t o)
executes pages t (Some i) = accesses pages t i (needed t.regs i)
executes pages t None = refl

pub runs : (pages : Pages) (t : LxThread) → Runs t.tid (ran pages t)
runs pages t =
    let there = executed pages t (row (number_of (bytes_at pages t.regs.pc 4))) in
    let denied = leaves pages (trapped t signal.SIGSEGV (pos 0) t.regs.pc) in
    if_of (Runs t.tid) (not (t.regs.pc % 4 == 0)) (leaves pages (trapped t signal.SIGBUS (pos 1) t.regs.pc)) (if is_allowed Execute pages t.regs.pc 4 then there else denied) refl
    (if_of (Runs t.tid) (is_allowed Execute pages t.regs.pc 4) there denied (executes pages t (row (number_of (bytes_at pages t.regs.pc 4)))) refl)
