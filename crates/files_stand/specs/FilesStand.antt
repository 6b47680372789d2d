-- The clause Files: when the files of the FreeBSD kernel's model stand for those of the Linux machine. This project's own.
use Rattle.std.specs.Prelude.{◌≡◌, ℕ, List, length, Option, Some, None}
use Rattle.kqueue_core.specs.Queues.{Queue}
use Rattle.kqueue_core.specs.declared.knotes.Flux.{Flux}
use Rattle.kqueue_core.specs.declared.knotes.Watch.{Watch}
use Rattle.lx_machine.specs.Lists.{at_place}
use Rattle.lx_machine.specs.declared.calls.LxCall.{LxCall}
use Rattle.lx_machine.specs.declared.files.Files.{Files}
use Rattle.lx_machine.specs.declared.files.Interest.{Interest}
use Rattle.open_files.specs.Plain.{plain_of}
use Rattle.bsd_files.specs.State.{FilesState}
use Rattle.files_stand.specs.Fluxes.{InFlux, HasFlux}
use Rattle.files_stand.specs.Same.{Same}

-- one queue: the same interests where it is in no flux
abbrev pub QueueStands : (ℕ → Option LxCall) → Files → ℕ → Option Flux → List Interest → List Watch → Type 0
QueueStands calls F n None is ws = Same None is ws
QueueStands calls F n (Some flux) is ws = InFlux calls F n flux is ws

-- one number: a queue lives there exactly where an epoll does
abbrev pub PlaceStands : (ℕ → Option LxCall) → Files → ℕ → Option Queue → Option (List Interest) → Type 0
PlaceStands calls F n None None = Unit {0}
PlaceStands calls F n (Some q) (Some is) = QueueStands calls F n q.flux is q.watches
PlaceStands calls F n _ _ = ⊥

-- all queues and epolls
abbrev pub AllStand : (ℕ → Option LxCall) → Files → List (Option Queue) → List (Option (List Interest)) → Type 0
AllStand calls F queues epolls = (n : ℕ) → PlaceStands calls F n (at_place queues n) (at_place epolls n)

-- all but the queues is equal, what was ever put into a console room aside; the queues are the epolls, and as many numbers are there
-- for them; and who stands between the two entries of a change has its queue in flux
pub record FilesStand (calls : ℕ → Option LxCall) (M : FilesState) (L : Files) : Type 0 where
  pub plain : M.plain ≡ plain_of L
  pub queues : AllStand calls M.plain M.queues L.epolls
  pub rooms : length M.queues ≡ length L.epolls
  pub fluxes : (s : ℕ) (c : LxCall) → calls s ≡ Some c → HasFlux M.plain M.queues s c
