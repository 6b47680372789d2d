-- Move of a transfer, its Drop and its Interrupt, and SIGPIPE. Source: read(2), write(2), pipe(7), signal(7).
use Rattle.std.specs.Option.{option_map}
use Rattle.std.specs.Prelude.{Bool, Option, Result, if◌then◌else◌, is_some, nat_lt, ℕ, ◌==◌, ◌≡◌}
use Rattle.linux_abi.specs.LinuxErrno.{answer_of}
use Rattle.lx_machine.specs.Answers.{Goes}
use Rattle.linux_abi.specs.declared.signals.TheConstants.{SI_USER}
use Rattle.lx_machine.specs.Files.{numbered_at}
use Rattle.lx_machine.specs.Lists.{bind}
use Rattle.lx_machine.specs.Read.{read_move}
use Rattle.lx_machine.specs.Signal.{sent, sent_by}
use Rattle.lx_machine.specs.Threads.{in_call_of}
use Rattle.lx_machine.specs.Transfers.{TransferOutcome, ends_with, hold_given_back, is_read}
use Rattle.lx_machine.specs.Write.{write_move}
use Rattle.lx_machine.specs.declared.calls.LxCall.{LxCall}
use Rattle.lx_machine.specs.declared.files.Files.{Files}
use Rattle.lx_machine.specs.declared.files.NumberedFile.{NumberedFile}
use Rattle.lx_machine.specs.declared.refusal.LxRefusal.{LxRefusal}
use Rattle.lx_machine.specs.declared.signals.SigInfo.{SigInfo}
use Rattle.lx_machine.specs.declared.state.LinuxState.{LinuxState}
use Rattle.lx_machine.specs.declared.threads.LxThread.{LxThread}
use Rattle.linux_abi.specs.declared.errno.LinuxErrno.TheVariants as errno
use Rattle.linux_abi.specs.declared.signals.LinuxSig.TheVariants as signal

-- ---- writes

-- the bytes between a transfer and its open file
abbrev pub move_file : Files → LxCall → NumberedFile → Option TransferOutcome
move_file F c f = if is_read c then read_move F c f f.file.kind else write_move F c f f.file.kind

abbrev pub transferred : Files → LxCall → Option TransferOutcome
transferred F c = bind c.held (λ file. bind (numbered_at F file) (move_file F c))

-- Move has a step
abbrev pub can_transfer : Files → LxCall → Bool
can_transfer F c = is_some (transferred F c)

-- ---- Interrupt

-- what a transfer answers that a signal ends: what it has moved before, and else EINTR
abbrev pub interrupted_answer : LxCall → ℕ
interrupted_answer c = if nat_lt 0 c.moved then c.moved else answer_of errno.EINTR

-- the wait of a transfer ends by a signal, and the hold is given back
abbrev pub interrupted : Files → LxCall → Option TransferOutcome
interrupted F c = bind c.held (λ file. ends_with F c file (interrupted_answer c))

-- a transfer that has moved nothing may start again after that
abbrev pub may_restart : LxCall → Bool
may_restart c = c.moved == 0

-- a function that computes a step of a transfer, and tells whether its thread gets SIGPIPE: it leaves what the step leaves.
-- Where there is no such step, or memory is wanting, nothing changes
abbrev pub MakesTransfer : Option TransferOutcome → Files → LxCall → Files → LxCall → Result Bool LxRefusal → Type 0
MakesTransfer step F c new_files new_call result =
    Goes step (λ broken. record { files = new_files; call = new_call; is_broken = broken }) ((new_files ≡ F) × (new_call ≡ c)) result

-- ---- SIGPIPE

-- SIGPIPE as the thread's own signal
abbrev pub broken_pipe : SigInfo
broken_pipe = sent_by SI_USER signal.SIGPIPE

-- ---- the steps of the thread t in slot s

-- the thread after a move: SIGPIPE is sent to it where a pipe broke
abbrev pub thread_after_move : LinuxState → LxThread → Bool → LxThread
thread_after_move L t is_broken =
    if is_broken then record t { pending = sent L.actions broken_pipe t.pending } else t

-- the state after a step of a transfer
abbrev pub on_transfer : LinuxState → ℕ → LxThread → TransferOutcome → LinuxState
on_transfer L s t o = in_call_of (record L { files = o.files }) s (thread_after_move L t o.is_broken) o.call

abbrev pub give_back : LinuxState → ℕ → LxThread → LxCall → Option LinuxState
give_back L s t c = option_map (on_transfer L s t) (hold_given_back L.files c)
