-- Each call keeps a waiter of another thread.
use Rattle.std.proofs.Common.{rules}
use Rattle.arrayvec.proofs.ArrayVecLemmas.{filter-from_retain}
use Rattle.lx_machine.proofs.pi_queue.retain_others.Goals as goal

pub returns : goal.returns
returns c = filter-from_retain _ _ _ (λ x b f' y called. search rules) _ _ c.retain.ensures.filtered
