-- What is told of a call: what refuses it at its entry, what it fetches first, what it does next, and what its steps do. Most calls
-- are refused by nothing, fetch nothing and have one effect. Source: syscall(2); the manual page of each call.
use Rattle.std.specs.Option.{option_map}
use Rattle.std.specs.Prelude.{Bool, List, None, Option, Some, [], ℕ, ◌∷◌}
use Rattle.linux_abi.specs.declared.errno.LinuxErrno.{LinuxErrno}
use Rattle.linux_abi.specs.declared.errno.LinuxErrno.TheVariants as errno
use Rattle.lx_machine.specs.Calls.{refused}
use Rattle.lx_machine.specs.Descriptors.{FilesOutcome, on_files}
use Rattle.lx_machine.specs.Move.{can_transfer, interrupted, on_transfer, transferred}
use Rattle.lx_machine.specs.Queue.{QueueOutcome}
use Rattle.lx_machine.specs.Ranges.{SpaceOutcome, on_space}
use Rattle.lx_machine.specs.Threads.{InCall, with_thread}
use Rattle.lx_machine.specs.Transfers.{TransferOutcome, held}
use Rattle.lx_machine.specs.Whole.{Whole, put_whole}
use Rattle.lx_machine.specs.declared.calls.LxCall.{LxCall}
use Rattle.lx_machine.specs.declared.calls.Piece.{Piece}
use Rattle.lx_machine.specs.declared.calls.Restart.{Restart}
use Rattle.lx_machine.specs.declared.calls.Restart.TheVariants as restart
use Rattle.lx_machine.specs.declared.calls.Stage.{Stage}
use Rattle.lx_machine.specs.declared.calls.Stage.TheVariants as stage
use Rattle.lx_machine.specs.declared.files.Files.{Files}
use Rattle.lx_machine.specs.declared.label.Pick.{Pick}
use Rattle.lx_machine.specs.declared.space.Space.{Space}
use Rattle.lx_machine.specs.declared.state.LinuxState.{LinuxState}
use Rattle.lx_machine.specs.declared.threads.LxThread.{LxThread}

-- what the effect of a call is on: nothing, files, memory, its own thread, or all threads. The last is of the state with the
-- caller in its place, but in no call, of the caller's mask and of its robust list
pub data Effect : Type 0 where
  OnNothing : Effect
  OnFiles : (Files → LxCall → FilesOutcome) → Effect
  OnSpace : (Space → LxCall → SpaceOutcome) → Effect
  OnThread : (LinuxState → ℕ → LxThread → LxCall → LinuxState) → Effect
  OnAll : (LinuxState → ℕ → ℕ → LxCall → Whole) → Effect

-- the step of the thread t in slot s that has this effect
abbrev pub has_effect : Effect → InCall
has_effect OnNothing L s t c = None
has_effect (OnFiles f) L s t c = Some (on_files L s t (f L.files c))
has_effect (OnSpace f) L s t c = Some (on_space L s t (f L.space c))
has_effect (OnThread f) L s t c = Some (f L s t c)
has_effect (OnAll f) L s t c = Some (put_whole s (f (with_thread L s t) t.mask t.robust_head c))

-- the state and the call once a signal has ended a wait
pub record GivenUp : Type 0 where
  pub state : LinuxState
  pub call : LxCall

abbrev pub given_up : LinuxState → LxCall → GivenUp
given_up L c = record { state = L; call = c }

-- `refusals`: the tests that refuse the call at its entry, in their order; `pieces`: what it fetches first, where sp is this;
-- `stage`: what it does next, as long as it has no result; `fetched`, `not_fetched`: the call behind whose bytes those of a
-- piece have come, and one whose piece can't be read; `mask`: the signals that it then blocks for its time; `written`,
-- `not_written`: the call after a piece was stored, and one whose piece can't be written; `effect`, `short`: Effect, and Effect
-- where memory runs short; `clocked`: Clock at this time; `hold`, `move`, `can_move`: Hold, Move, and whether Move has a step;
-- `released`: Release, which has left this of the queue and of the call; `rest_given_up`, `move_given_up`: a rest, and a wait at
-- a file, that a signal ends; `restarts`: whether after that it starts again
pub record Rules : Type 0 where
  pub refusals : LxCall → List (Bool × LinuxErrno)
  pub pieces : ℕ → LxCall → List Piece
  pub stage : LxCall → Stage
  pub fetched : LxCall → LxCall
  pub not_fetched : LxCall → LxCall
  pub mask : LxCall → Option ℕ
  pub written : LxCall → LxCall
  pub not_written : LxCall → LxCall
  pub effect : Effect
  pub short : Option (Space → LxCall → SpaceOutcome)
  pub clocked : ℕ → LxCall → Option LxCall
  pub hold : LinuxState → ℕ → LxThread → LxCall → LinuxState
  pub move : List Pick → InCall
  pub can_move : Files → LxCall → Bool
  pub released : QueueOutcome → LxCall → QueueOutcome
  pub rest_given_up : LinuxState → LxCall → GivenUp
  pub move_given_up : LinuxState → LxCall → Option GivenUp
  pub restarts : LxCall → Restart

-- what a call leaves of memory where memory runs short
abbrev pub short_outcome : Rules → Space → LxCall → Option SpaceOutcome
short_outcome r S c = option_map (λ f. f S c) r.short

-- ---- the rules of most calls

-- Hold and Move of a transfer, which picks nothing, and its wait that a signal ends
abbrev pub hold_transfer : LinuxState → ℕ → LxThread → LxCall → LinuxState
hold_transfer L s t c = on_transfer L s t (held L.files c)

abbrev pub move_transfer : List Pick → InCall
move_transfer [] L s t c = option_map (on_transfer L s t) (transferred L.files c)
move_transfer (p ∷ ps) L s t c = None

abbrev pub left_transfer : LinuxState → TransferOutcome → GivenUp
left_transfer L o = given_up (record L { files = o.files }) o.call

abbrev pub transfer_given_up : LinuxState → LxCall → Option GivenUp
transfer_given_up L c = option_map (left_transfer L) (interrupted L.files c)

-- a call that is refused by nothing, fetches nothing, and has an effect next
abbrev pub plain : Rules
plain = record {
  refusals = λ c. [];
  pieces = λ sp c. [];
  stage = λ c. stage.Effect;
  fetched = λ c. c;
  not_fetched = λ c. refused c errno.EFAULT;
  mask = λ c. None;
  written = λ c. c;
  not_written = λ c. refused c errno.EFAULT;
  effect = OnNothing;
  short = None;
  clocked = λ clock c. None;
  hold = hold_transfer;
  move = move_transfer;
  can_move = can_transfer;
  released = λ o c. o;
  rest_given_up = λ L c. given_up L (refused c errno.EINTR);
  move_given_up = transfer_given_up;
  restarts = λ c. restart.Never;
}
