-- The phase of a thread in a call: that of the stage of its call in the Linux machine. Source: the phases of a thread are this
-- project's own.
use Rattle.std.specs.Prelude.{◌≡◌, ℕ, Bool, true, false, List, [], ◌∷◌, Option, Some, None}
use Rattle.linux_abi.specs.Call.{call_of}
use Rattle.linux_abi.specs.declared.calls.Call.{Call as LinuxCall}
use Rattle.linux_abi.specs.declared.calls.Call.TheVariants as call
use Rattle.linux_abi.specs.declared.futexes.FutexOperation.{FutexOperation}
use Rattle.linux_abi.specs.declared.futexes.FutexOperation.TheVariants as operation
use Rattle.lx_machine.specs.Futex.{operation_in}
use Rattle.lx_machine.specs.Shape.{stage_of}
use Rattle.lx_machine.specs.declared.calls.LxCall.{LxCall}
use Rattle.lx_machine.specs.declared.calls.Piece.{Piece}
use Rattle.lx_machine.specs.declared.calls.Stage.{Stage}
use Rattle.lx_machine.specs.declared.calls.Stage.TheVariants as stage
use Rattle.lx_machine.specs.declared.death.Death.{Death}
use Rattle.bsd_thread.specs.declared.call.Call.{Call}
use Rattle.bsd_thread.specs.declared.phase.Doom.TheVariants as doom
use Rattle.bsd_thread.specs.declared.phase.Owed.TheVariants as owed
use Rattle.bsd_thread.specs.declared.phase.Phase.{Phase}
use Rattle.bsd_thread.specs.declared.phase.Phase.TheVariants as phase
use Rattle.bsd_thread.specs.declared.phase.Turn.TheVariants as turn
use Rattle.bsd_thread.specs.declared.thread.ThreadState.{ThreadState}
use Rattle.threads_stand.specs.Image.{linux_call, resting, waits_in}

-- ---- the phase of a stage

-- on what a call has its effect: the process, memory, files, or an interest of an epoll
pub data Ground : Type 0 where
  OfProcess : Ground
  OfSpace : Ground
  OfFiles : Ground
  OfInterest : Ground

abbrev pub ground_of : Option LinuxCall → Ground
ground_of (Some call.Brk) = OfSpace
ground_of (Some call.Mmap) = OfSpace
ground_of (Some call.Munmap) = OfSpace
ground_of (Some call.Mprotect) = OfSpace
ground_of (Some call.Madvise) = OfSpace
ground_of (Some call.EpollCreate1) = OfFiles
ground_of (Some call.Eventfd2) = OfFiles
ground_of (Some call.Dup) = OfFiles
ground_of (Some call.Dup3) = OfFiles
ground_of (Some call.Fcntl) = OfFiles
ground_of (Some call.Ioctl) = OfFiles
ground_of (Some call.Close) = OfFiles
ground_of (Some call.Pipe2) = OfFiles
ground_of (Some call.Lseek) = OfFiles
ground_of (Some call.EpollCtl) = OfInterest
ground_of _ = OfProcess

abbrev pub effect_phase : Ground → Phase
effect_phase OfProcess = phase.Process
effect_phase OfSpace = phase.Space
effect_phase OfFiles = phase.Files
effect_phase OfInterest = phase.Flux1

-- a thread that dies stores at its clear address alone
abbrev pub store_phase : Option Death → Phase
store_phase (Some d) = phase.Clear
store_phase None = phase.Store

-- the first phase of a stage
abbrev pub phase_of : LxCall → Stage → Phase
phase_of c (stage.Fetch p) = phase.Fetch
phase_of c stage.Hold = phase.Hold
phase_of c stage.Drop = phase.Drop
phase_of c stage.Effect = effect_phase (ground_of (call_of c.number))
phase_of c stage.Move = phase.Look
phase_of c stage.Clock = phase.Ask
phase_of c (stage.Queue w) = phase.Busy turn.First
phase_of c (stage.Requeue r) = phase.Busy turn.First
phase_of c (stage.WakeOp w) = phase.Busy turn.First
phase_of c (stage.Mark m) = phase.Busy turn.First
phase_of c (stage.PiLock l) = phase.Busy turn.First
phase_of c (stage.PiUnlock at) = phase.Busy turn.First
phase_of c (stage.Release w) = phase.Release
phase_of c stage.Wait = phase.Sleep
phase_of c stage.WaitMany = phase.Sleep
phase_of c stage.PiWait = phase.Sleep
phase_of c stage.Rest = phase.Rest
phase_of c stage.Start = phase.Start
phase_of c (stage.Store p) = store_phase c.death
phase_of c stage.Leave = phase.Leave
phase_of c stage.Gone = phase.Gone
phase_of c stage.Kill = phase.Kill doom.InCall
phase_of c stage.Return = phase.Return

-- the phase of the stage that the call has in this phase
abbrev pub next_in : Phase → Call → Phase
next_in p c = phase_of (linux_call p c 0) (stage_of (linux_call p c 0))

-- and of a call that rests: an entry changes its call, and its thread goes to the call's next phase
abbrev pub next_phase : Call → Phase
next_phase c = next_in phase.Return c

-- the thread in this call, at its next phase
unfoldable pub advanced : ThreadState → Call → ThreadState
advanced t c = record t { call = c; phase = next_phase c }

-- ---- by the FreeBSD call itself

-- a call that has its answer stores its bytes piece by piece, and then it returns
abbrev pub storing_phase : List Piece → List ℕ → Option Death → Phase
storing_phase [] bytes d = phase.Return
storing_phase (p ∷ ps) [] d = phase.Return
storing_phase (p ∷ ps) (b ∷ bytes) d = store_phase d

-- before that it gives its hold back
abbrev pub held_phase : Call → Option ℕ → Phase
held_phase c (Some file) = phase.Drop
held_phase c None = storing_phase c.pieces c.bytes c.death

-- a clone stores its tid, and then its child starts
abbrev pub birth_phase : List Piece → Option Death → Phase
birth_phase [] d = phase.Start
birth_phase (p ∷ ps) d = store_phase d

abbrev pub answered_phase : Call → Option ℕ → Phase
answered_phase c (Some child) = birth_phase c.pieces c.death
answered_phase c None = held_phase c c.held

-- a wait for a lock that names its owner (FUTEX_LOCK_PI)
abbrev pub is_lock_pi : Option FutexOperation → Bool
is_lock_pi (Some operation.LockPi) = true
is_lock_pi _ = false

abbrev pub asks_lock : Call → Bool
asks_lock c = is_lock_pi (operation_in (resting c))

-- ---- a phase fits its call

-- the first phase of the stage, of which this one is a later one. Outside a call, and as long as a chain is owed, the stage says nothing
abbrev pub base : Phase → Option Phase
base phase.Idle = None
base phase.User = None
base (phase.Forced signal) = None
base (phase.Frame delivery) = None
base (phase.Kill doom.Frame) = None
base (phase.Finish which o) = None
base phase.Clock = Some phase.Ask
base (phase.Busy which) = Some (phase.Busy turn.First)
base phase.Word = Some (phase.Busy turn.First)
base phase.Flux2 = Some phase.Flux1
base p = Some p

abbrev pub Same : Option Phase → Phase → Type 0
Same None q = Unit {0}
Same (Some p) q = q ≡ p

-- one wait, once its insertion is made, sleeps. The places of futex_waitv go on as the call rests
abbrev pub WaitsOn : Call → Type 0
WaitsOn c = waits_in phase.Sleep c ≡ true → next_in phase.Sleep c ≡ phase.Sleep

-- the phase is that of the stage of its call
abbrev pub Fits : Call → Phase → Type 0
Fits c phase.Sleep = next_in phase.Sleep c ≡ phase.Sleep
Fits c (phase.Finish which owed.Insertion) = WaitsOn c
Fits c p = Same (base p) (next_phase c)
