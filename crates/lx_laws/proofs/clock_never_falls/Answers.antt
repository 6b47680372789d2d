use Rattle.lx_laws.proofs.Clocks.{never_falls, never_falls_in_a_run}
use Rattle.lx_laws.proofs.clock_never_falls.Goals as goal

pub returns-clause-step : goal.returns-clause-step
returns-clause-step c = never_falls

pub returns-clause-run : goal.returns-clause-run
returns-clause-run c = never_falls_in_a_run
