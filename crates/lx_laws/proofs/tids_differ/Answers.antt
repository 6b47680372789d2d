use Rattle.lx_laws.proofs.Tids.{are_always, are_kept, begin}
use Rattle.lx_laws.proofs.tids_differ.Goals as goal

pub returns-clause-start : goal.returns-clause-start
returns-clause-start c = begin

pub returns-clause-step : goal.returns-clause-step
returns-clause-step c = are_kept

pub returns-clause-run : goal.returns-clause-run
returns-clause-run c = are_always
