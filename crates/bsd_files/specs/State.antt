-- The files of the FreeBSD kernel's model: all but the queues is the Linux machine's record, in which nothing stands for epolls,
-- nor for what was ever put into a console room. The queues are kqueues, each at its number. This project's own.
use Rattle.std.specs.Prelude.{ℕ, Bool, false, List, Option, None, Some, replicate, is_some, ◌||◌, ◌==◌}
use Rattle.std.specs.List.{list_any}
use Rattle.kqueue_core.specs.Queues.{Queue}
use Rattle.kqueue_core.specs.declared.knotes.Flux.{Flux}
use Rattle.lx_machine.specs.Lists.{at_place, bind}
use Rattle.lx_machine.specs.Start.{first_files}
use Rattle.lx_machine.specs.declared.files.Descriptor.{Descriptor}
use Rattle.lx_machine.specs.declared.files.Files.{Files}
use Rattle.open_files.specs.Plain.{plain_of, queue_number}

pub record FilesState : Type 0 where
  pub plain : Files
  pub queues : List (Option Queue)

-- at the start: the input and the two consoles, on the descriptors 0, 1 and 2
abbrev pub first_state : List ℕ → FilesState
first_state input = record { plain = plain_of (first_files input); queues = replicate 32 None }

-- ---- queues and fluxes

-- the queue that an open file is
abbrev pub queue_at : FilesState → ℕ → Option Queue
queue_at S file = bind (queue_number S.plain file) (at_place S.queues)

-- a flux stands in the queue
abbrev pub has_flux : Option Queue → Bool
has_flux None = false
has_flux (Some q) = is_some q.flux

-- an open file is a queue in which a flux stands
abbrev pub is_in_flux : FilesState → ℕ → Bool
is_in_flux S file = has_flux (queue_at S file)

-- a flux is on this descriptor
abbrev pub is_on : ℕ → Option Flux → Bool
is_on fd None = false
is_on fd (Some flux) = flux.descriptor == fd

abbrev pub has_flux_on : ℕ → Option Queue → Bool
has_flux_on fd None = false
has_flux_on fd (Some q) = is_on fd q.flux

-- a flux names an open descriptor, or its queue
abbrev pub is_awaited_as : FilesState → ℕ → Option Descriptor → Bool
is_awaited_as S fd None = false
is_awaited_as S fd (Some d) = list_any (has_flux_on fd) S.queues || is_in_flux S d.file

abbrev pub is_awaited : FilesState → ℕ → Bool
is_awaited S fd = is_awaited_as S fd (at_place S.plain.descriptors fd)
