-- A change of an interest takes two entries, and between them the queue is in flux: its Read knote is as the change asks, its Write
-- knote still as it was, and the Linux machine has not changed. This project's own.
use Rattle.std.specs.Prelude.{◌≡◌, ℕ, ◌==◌, Bool, true, false, ◌&&◌, if◌then◌else◌, List, Option, Some, None, is_some}
use Rattle.std.proofs.Math.Bool.{not}
use Rattle.linux_abi.specs.declared.epoll.EpollOperation.{EpollOperation}
use Rattle.linux_abi.specs.declared.epoll.EpollOperation.TheVariants as operation
use Rattle.kqueue_core.specs.Changes.{tally}
use Rattle.kqueue_core.specs.Queues.{Queue}
use Rattle.kqueue_core.specs.Watches.{is_of}
use Rattle.kqueue_core.specs.declared.knotes.Flux.{Flux}
use Rattle.kqueue_core.specs.declared.knotes.Knote.{Knote}
use Rattle.kqueue_core.specs.declared.knotes.Watch.{Watch}
use Rattle.kqueue_laws.specs.Pairs.{edge_bit, one_shot_bit, same}
use Rattle.lx_machine.specs.Calls.{first_refusal, low_argument}
use Rattle.lx_machine.specs.EpollCtl.{asked_of, control_of, data_of, descriptor_refusals, epoll_of, file_of, is_add}
use Rattle.lx_machine.specs.Interests.{is_named}
use Rattle.lx_machine.specs.Lists.{at_place}
use Rattle.lx_machine.specs.declared.calls.LxCall.{LxCall}
use Rattle.lx_machine.specs.declared.files.Files.{Files}
use Rattle.lx_machine.specs.declared.files.Interest.{Interest}
use Rattle.files_stand.specs.Changes.{exclusive_refusal}
use Rattle.files_stand.specs.Same.{Name, Same}

-- ---- the interest that is being changed

abbrev pub is_delete : Option EpollOperation → Bool
is_delete (Some operation.Delete) = true
is_delete _ = false

-- a knote is as the call asks, but for whether it is active
abbrev pub is_asked_by : LxCall → Knote → Bool
is_asked_by c k =
    (k.asked == asked_of c) && (k.user == data_of c) && same k.clear (edge_bit (asked_of c)) && same k.dispatch (one_shot_bit (asked_of c))
    && k.enabled

-- the Read knote is gone where the call deletes, and else stands as it asks
abbrev pub read_stands : LxCall → Option Knote → Bool
read_stands c None = is_delete (control_of c)
read_stands c (Some k) = not (is_delete (control_of c)) && is_asked_by c k

-- and the Write knote still stands where the call doesn't add
abbrev pub is_in_flux_for : LxCall → Watch → Bool
is_in_flux_for c w = read_stands c w.read && same (is_some w.write) (not (is_add (control_of c)))

-- a queue whose interest of this name the call changes: the others are the same, the epoll has the interest exactly where the call
-- doesn't add, and the queue has it once, half changed
pub record FluxStands (c : LxCall) (x : Name) (is : List Interest) (ws : List Watch) : Type 0 where
  pub same : Same (Some x) is ws
  pub linux : tally (is_named x.file x.descriptor) is ≡ (if is_add (control_of c) then 0 else 1)
  pub watch : tally (is_of x.file x.descriptor) ws ≡ 1
  pub asked : tally (λ w. is_of x.file x.descriptor w && is_in_flux_for c w) ws ≡ 1

-- ---- a queue in flux

-- `calls` has the Linux call of each slot that stands between the two entries of a change, and none of the others.
-- The queue n is in flux by such a slot, whose call names it and the descriptor of the flux. What would refuse the change hasn't come
pub record InFlux (calls : ℕ → Option LxCall) (F : Files) (n : ℕ) (flux : Flux) (is : List Interest) (ws : List Watch) : Type 0 where
  pub call : LxCall
  pub own : calls flux.slot ≡ Some call
  pub on : low_argument call 2 ≡ flux.descriptor
  pub place : epoll_of F (low_argument call 0) ≡ Some n
  pub file : ℕ
  pub open_file : file_of F (low_argument call 2) ≡ Some file
  pub calm : first_refusal (descriptor_refusals F call) ≡ None
  pub shared : exclusive_refusal call ≡ None
  pub stands : FluxStands call (record { file = file; descriptor = low_argument call 2 }) is ws

-- the queue that this slot's call names is in flux by it, on the descriptor that the call names
pub record HasFlux (F : Files) (queues : List (Option Queue)) (s : ℕ) (c : LxCall) : Type 0 where
  pub place : ℕ
  pub is_place : epoll_of F (low_argument c 0) ≡ Some place
  pub queue : Queue
  pub is_queue : at_place queues place ≡ Some queue
  pub flux : queue.flux ≡ Some (record { slot = s; descriptor = low_argument c 2 })

-- the calls where this slot has this one, or none
abbrev pub with_call : (ℕ → Option LxCall) → ℕ → Option LxCall → ℕ → Option LxCall
with_call calls s o x = if x == s then o else calls x
