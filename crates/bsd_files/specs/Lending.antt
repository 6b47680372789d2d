-- What is lent, and how what is written to it comes back.
use Rattle.std.specs.Prelude.{ℕ, List, Option}
use Rattle.std.specs.Borrow.{LendsIf, MutBor, Fml}
use Rattle.kqueue_core.specs.Queues.{Queue}
use Rattle.kqueue_core.specs.contracts.queue.Kqueue as kqueue
use Rattle.lx_machine.specs.Lists.{with_place}
use Rattle.bsd_files.specs.contracts.queues.Queues as queues

-- the queues end with the last value behind r at this number
abbrev pub LendsQueue : MutBor (List (Option Queue)) → ℕ → Option (MutBor Queue) → Fml
LendsQueue s number r = LendsIf queues.the_row kqueue.the_row s r (with_place s.now number) s.now
