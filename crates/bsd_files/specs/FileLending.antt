-- What the files lend, and how what is written to it comes back.
use Rattle.std.specs.Prelude.{ℕ, Option, Some, None}
use Rattle.std.specs.Borrow.{LendsIf, MutBor, Fml}
use Rattle.kqueue_core.specs.Queues.{Queue}
use Rattle.kqueue_core.specs.contracts.queue.Kqueue as kqueue
use Rattle.lx_machine.specs.Lists.{with_place}
use Rattle.bsd_files.specs.State.{FilesState}
use Rattle.open_files.specs.Plain.{queue_number}
use Rattle.bsd_files.specs.contracts.files.Files as files

-- the files with this queue at a number
abbrev pub with_queue_as : FilesState → Option ℕ → Queue → FilesState
with_queue_as S None q = S
with_queue_as S (Some n) q = record S { queues = with_place S.queues n q }

-- the files end with the last value behind r as the queue that the open file is
abbrev pub LendsFileQueue : MutBor FilesState → ℕ → Option (MutBor Queue) → Fml
LendsFileQueue s file r = LendsIf files.the_row kqueue.the_row s r (with_queue_as s.now (queue_number s.now.plain file)) s.now
