-- The files without the queues: the Linux machine's record, in which nothing stands for epolls, nor for what was ever put into a
-- console room. This project's own.
use Rattle.std.specs.Prelude.{ℕ, [], Option, bit_and, Some}
use Rattle.kqueue_core.specs.Knotes.{filter_events}
use Rattle.kqueue_core.specs.declared.knotes.Filter.{Filter}
use Rattle.lx_machine.specs.Epoll.{epoll_number, ready_at}
use Rattle.lx_machine.specs.Lists.{at_place, bind}
use Rattle.lx_machine.specs.declared.files.Files.{Files}

-- the Linux machine's files without epolls, and without what was ever put into a console room
abbrev pub plain_of : Files → Files
plain_of F = record F { epolls = []; put_out = []; put_err = [] }

-- the open file that a descriptor names
abbrev pub named_by : Files → ℕ → Option ℕ
named_by F fd = bind (at_place F.descriptors fd) (λ d. Some d.file)

-- the number of the queue that an open file is
abbrev pub queue_number : Files → ℕ → Option ℕ
queue_number F file = bind (at_place F.files file) (λ f. epoll_number f.kind)

-- of the events that hold of an open file now, those that a filter tells of
abbrev pub readiness : Files → ℕ → Filter → ℕ
readiness F file f = bit_and (ready_at F (at_place F.files file)) (filter_events f)
