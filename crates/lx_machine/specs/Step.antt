-- LStep: one step of the Linux machine; and LRun, a run of it. A guest that has ended takes no step. Source: the manual pages of
-- the calls; which steps there are is this project's own.
use Rattle.std.specs.Option.{option_map}
use Rattle.std.specs.Prelude.{Bool, List, None, Option, Some, [], drop, false, if◌then◌else◌, length, nat_le, nat_lt, take, true, ℕ, ◌&&◌, ◌++◌, ◌+◌, ◌∷◌}
use Rattle.lx_machine.specs.Clone as clone
use Rattle.lx_machine.specs.Delivery as delivery
use Rattle.lx_machine.specs.Exit as exit
use Rattle.lx_machine.specs.Futex as futex
use Rattle.lx_machine.specs.FutexPi as futex_pi
use Rattle.lx_machine.specs.Instruction.{instruction, stored}
use Rattle.lx_machine.specs.Interests.{drained_side, side_holds}
use Rattle.lx_machine.specs.Lists.{at_place, bind}
use Rattle.lx_machine.specs.Move as transfers
use Rattle.lx_machine.specs.Pieces.{behind_first}
use Rattle.lx_machine.specs.Ranges.{on_space}
use Rattle.lx_machine.specs.RobustList as robust_list
use Rattle.lx_machine.specs.Rules.{has_effect, short_outcome}
use Rattle.lx_machine.specs.Shape.{fetched, mask_of, not_fetched, not_written, stage_of, written}
use Rattle.lx_machine.specs.SignalFrame as signal_frame
use Rattle.lx_machine.specs.Table.{rules_of}
use Rattle.lx_machine.specs.Threads.{InCall, OfThread, in_call_of, outside_call, without_call, without_thread}
use Rattle.lx_machine.specs.Waits as waits
use Rattle.lx_machine.specs.declared.calls.LxCall.{LxCall}
use Rattle.lx_machine.specs.declared.calls.Piece.{Piece}
use Rattle.lx_machine.specs.declared.calls.Stage.{Stage}
use Rattle.lx_machine.specs.declared.calls.Stage.TheVariants as stage
use Rattle.lx_machine.specs.declared.label.Label.{Label}
use Rattle.lx_machine.specs.declared.label.Label.TheVariants as label
use Rattle.lx_machine.specs.declared.label.LxSide.{LxSide}
use Rattle.lx_machine.specs.declared.label.Pick.{Pick}
use Rattle.lx_machine.specs.declared.state.LinuxState.{LinuxState}
use Rattle.lx_machine.specs.declared.threads.GuestEnd.{GuestEnd}
use Rattle.lx_machine.specs.declared.threads.LxThread.{LxThread}
use Rattle.lx_memory.specs.Bytes.{bytes_at}
use Rattle.lx_memory.specs.Queries.{is_allowed}
use Rattle.lx_memory.specs.declared.right.Right.TheVariants.{Read, Write}

-- ---- threads that may step

-- the thread in slot s, whose place is then free
abbrev pub on_thread : LinuxState → ℕ → OfThread → Option LinuxState
on_thread L s f = bind (at_place L.threads s) (λ t. f (without_thread L s) s t)

-- the same of a thread in a call, which is then in none, with what the call does next
abbrev pub of_call : (Stage → InCall) → OfThread
of_call f L s t = bind t.call (λ c. f (stage_of c) L s (without_call t) c)

abbrev pub in_call : LinuxState → ℕ → (Stage → InCall) → Option LinuxState
in_call L s f = on_thread L s (of_call f)

-- ---- pieces: each is copied whole or, where any byte lacks the right, not at all

-- Fetch
abbrev pub with_fetched : LxCall → List ℕ → LxCall
with_fetched c bytes = record c { fetched = c.fetched + 1; pieces = behind_first c.pieces; bytes = c.bytes ++ bytes }

-- a call that uses a mask for its time: the thread gets its own back when the call returns
abbrev pub masked : Option ℕ → LxThread → LxThread
masked None t = t
masked (Some mask) t = record t { mask = mask; saved_mask = Some t.mask }

abbrev pub has_fetched : LinuxState → ℕ → LxThread → LxCall → LinuxState
has_fetched L s t c = in_call_of L s (masked (mask_of c) t) c

abbrev pub fetch_of : Piece → LinuxState → ℕ → LxThread → LxCall → LinuxState
fetch_of p L s t c =
    if is_allowed Read L.space.pages p.at p.len then has_fetched L s t (fetched (with_fetched c (bytes_at L.space.pages p.at p.len)))
    else in_call_of L s t (not_fetched c)

abbrev pub fetch : Stage → InCall
fetch (stage.Fetch p) L s t c = Some (fetch_of p L s t c)
fetch _ L s t c = None

-- Store: the first bytes that are left go to the first piece
abbrev pub with_stored : LxCall → ℕ → LxCall
with_stored c len = record c { pieces = behind_first c.pieces; bytes = drop len c.bytes }

abbrev pub store_of : Piece → LinuxState → ℕ → LxThread → LxCall → LinuxState
store_of p L s t c =
    if is_allowed Write L.space.pages p.at p.len then in_call_of (stored L s p.at (take p.len c.bytes)) s t (written (with_stored c p.len))
    else in_call_of L s t (not_written c)

abbrev pub store : Stage → InCall
store (stage.Store p) L s t c = Some (store_of p L s t c)
store _ L s t c = None

-- ---- Effect, and Effect where memory runs short

abbrev pub effect_of : Bool → InCall
effect_of true L s t c = option_map (on_space L s t) (short_outcome (rules_of c) L.space c)
effect_of false L s t c = has_effect (rules_of c).effect L s t c

-- ---- the other steps of a call, where they are what it does next

abbrev pub hold : Stage → InCall
hold stage.Hold L s t c = waits.hold L s t c
hold _ L s t c = None

abbrev pub give_back : Stage → InCall
give_back stage.Drop L s t c = transfers.give_back L s t c
give_back _ L s t c = None

abbrev pub effect : Bool → Stage → InCall
effect short stage.Effect L s t c = effect_of short L s t c
effect short _ L s t c = None

abbrev pub move : List Pick → Stage → InCall
move picks stage.Move L s t c = waits.move picks L s t c
move picks _ L s t c = None

abbrev pub clock : Stage → InCall
clock stage.Clock L s t c = waits.clock L s t c
clock _ L s t c = None

abbrev pub queue : Stage → InCall
queue (stage.Queue w) L s t c = futex.queue w L s t c
queue _ L s t c = None

abbrev pub requeue : Stage → InCall
requeue (stage.Requeue r) L s t c = futex.requeue r L s t c
requeue _ L s t c = None

abbrev pub wake_op : Stage → InCall
wake_op (stage.WakeOp w) L s t c = futex.wake_op w L s t c
wake_op _ L s t c = None

abbrev pub mark : Stage → InCall
mark (stage.Mark m) L s t c = robust_list.mark m L s t c
mark _ L s t c = None

abbrev pub release : Stage → InCall
release (stage.Release w) L s t c = waits.release w L s t c
release _ L s t c = None

abbrev pub pi_lock : Stage → InCall
pi_lock (stage.PiLock l) L s t c = futex_pi.pi_lock l L s t c
pi_lock _ L s t c = None

abbrev pub pi_unlock : Stage → InCall
pi_unlock (stage.PiUnlock at) L s t c = futex_pi.pi_unlock at L s t c
pi_unlock _ L s t c = None

abbrev pub start : Stage → InCall
start stage.Start L s t c = clone.start L s t c
start _ L s t c = None

abbrev pub leave : Stage → InCall
leave stage.Leave L s t c = exit.leave L s t c
leave _ L s t c = None

abbrev pub gone : Stage → InCall
gone stage.Gone L s t c = exit.gone L s t c
gone _ L s t c = None

-- ---- Time, and Drain: the first n bytes of a console room

abbrev pub at_time : LinuxState → ℕ → Option LinuxState
at_time L t = if nat_lt L.clock t then Some (record L { clock = t }) else None

abbrev pub drain : LinuxState → LxSide → ℕ → Option LinuxState
drain L which n = if nat_le 1 n && nat_le n (length (side_holds L.files which)) then Some (record L { files = drained_side L.files which n }) else None

-- ---- LStep and LRun

abbrev pub step_of : LinuxState → Label → Option LinuxState
step_of L (label.Instr s) = outside_call L s (λ t. Some (instruction L s t))
step_of L (label.Fetch s) = in_call L s fetch
step_of L (label.Store s) = in_call L s store
step_of L (label.Hold s) = in_call L s hold
step_of L (label.Drop s) = in_call L s give_back
step_of L (label.Effect s short) = in_call L s (effect short)
step_of L (label.Move s picks) = in_call L s (move picks)
step_of L (label.Clock s) = in_call L s clock
step_of L (label.Queue s) = in_call L s queue
step_of L (label.Requeue s) = in_call L s requeue
step_of L (label.WakeOp s) = in_call L s wake_op
step_of L (label.Mark s) = in_call L s mark
step_of L (label.Release s) = in_call L s release
step_of L (label.PiLock s) = in_call L s pi_lock
step_of L (label.PiUnlock s) = in_call L s pi_unlock
step_of L (label.Resume s) = in_call L s waits.resume
step_of L (label.Expire s) = in_call L s waits.expire
step_of L (label.Interrupt s list sig) = in_call L s (waits.interrupt list sig)
step_of L (label.Start s) = in_call L s start
step_of L (label.Leave s) = in_call L s leave
step_of L (label.Gone s) = in_call L s gone
step_of L (label.Return s named) = on_thread L s (delivery.return named)
step_of L (label.Take s list sig) = on_thread L s (delivery.take list sig)
step_of L (label.Frame s) = on_thread L s signal_frame.frame
step_of L (label.Kill s) = on_thread L s delivery.kill
step_of L (label.Time t) = at_time L t
step_of L (label.Drain which n) = drain L which n

-- a guest that has ended takes no step
abbrev pub unless_ended : Option GuestEnd → Option LinuxState → Option LinuxState
unless_ended (Some end) next = None
unless_ended None next = next

abbrev pub LStep : LinuxState → Label → Option LinuxState
LStep L l = unless_ended L.end (step_of L l)

abbrev pub LRun : LinuxState → List Label → Option LinuxState
LRun L [] = Some L
LRun L (l ∷ ls) = bind (LStep L l) (λ next. LRun next ls)
