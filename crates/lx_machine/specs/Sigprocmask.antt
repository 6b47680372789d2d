-- rt_sigprocmask. Source: sigprocmask(2).
use Rattle.std.proofs.Math.Bool.{not}
use Rattle.std.specs.Prelude.{Bool, List, None, Option, Some, [], bit_and, bit_or, if◌then◌else◌, is_some, ℕ, ◌&&◌, ◌-◌, ◌==◌, ◌^◌, ◌∷◌}
use Rattle.linux_abi.specs.MaskChange.{mask_change_of}
use Rattle.linux_abi.specs.declared.errno.LinuxErrno.{LinuxErrno}
use Rattle.linux_abi.specs.declared.signals.MaskChange.{MaskChange}
use Rattle.lx_machine.specs.Calls.{argument, low_argument}
use Rattle.lx_machine.specs.SignalCalls.{answered_storing, blockable, fetch_then, is_no_set_size, optional_piece}
use Rattle.lx_machine.specs.declared.calls.LxCall.{LxCall}
use Rattle.lx_machine.specs.declared.calls.Piece.{Piece}
use Rattle.lx_machine.specs.declared.calls.Stage.{Stage}
use Rattle.places.specs.Places.{bytes_of, number_at}
use Rattle.linux_abi.specs.declared.errno.LinuxErrno.TheVariants as errno
use Rattle.linux_abi.specs.declared.signals.MaskChange.TheVariants as change
use Rattle.lx_machine.specs.declared.calls.Stage.TheVariants as stage

-- ---- rt_sigprocmask(how, set, old, size)

abbrev pub sigprocmask_refusals : LxCall → List (Bool × LinuxErrno)
sigprocmask_refusals c =
    (is_no_set_size (argument c 3), errno.EINVAL) ∷
    (not (argument c 1 == 0) && not (is_some (mask_change_of (low_argument c 0))), errno.EINVAL) ∷
    []

abbrev pub sigprocmask_pieces : LxCall → List Piece
sigprocmask_pieces c = optional_piece (argument c 1) 8

abbrev pub sigprocmask_stage : LxCall → Stage
sigprocmask_stage c = fetch_then stage.Effect c.pieces

abbrev pub changed_mask : Option MaskChange → ℕ → ℕ → ℕ
changed_mask (Some change.Block) mask set = bit_or mask set
changed_mask (Some change.Unblock) mask set = bit_and mask (2 ^ 64 - 1 - set)
changed_mask (Some change.Set) mask set = set
changed_mask None mask set = mask

-- the thread's mask after the call
abbrev pub sigprocmask_mask : ℕ → LxCall → ℕ
sigprocmask_mask mask c =
    if argument c 1 == 0 then mask else blockable (changed_mask (mask_change_of (low_argument c 0)) mask (number_at c.bytes 0 8))

-- the call stores the mask before
abbrev pub sigprocmask_call : ℕ → LxCall → LxCall
sigprocmask_call mask c = answered_storing c (argument c 2) (bytes_of mask 8)
