-- Standard error as it stands before the last line.
use Rattle.std.proofs.Common.{rules}
use Rattle.linuxulator_cli.proofs.Complete.{complete}
use Rattle.linuxulator_cli.proofs.program.run_program.Goals as goal

pub returns-clause-outcome : goal.returns-clause-outcome
returns-clause-outcome g c = record {
  mid = _;
  cause = c.run_before_last_line-outcome.ensures.cause;
  write_fault = c.run_before_last_line-outcome.ensures.write;
  last = search rules;
}

pub returns-clause-complete : goal.returns-clause-complete
returns-clause-complete g c = complete _ _ _ _ _ c.run_before_last_line-outcome.ensures.cause
