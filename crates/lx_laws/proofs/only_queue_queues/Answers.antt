use Rattle.lx_laws.proofs.Enters.{only_own, only_queue}
use Rattle.lx_laws.proofs.only_queue_queues.Goals as goal

pub returns-clause-place : goal.returns-clause-place
returns-clause-place c = only_queue

pub returns-clause-thread : goal.returns-clause-thread
returns-clause-thread c = only_own
