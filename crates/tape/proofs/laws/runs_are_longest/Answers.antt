use Rattle.std.proofs.Common.{None}
use Rattle.tape.proofs.Runs.{runs_stand, runs_longest, one_after}
use Rattle.tape.proofs.laws.runs_are_longest.Goals as goal

pub returns-clause-runs_are_longest : goal.returns-clause-runs_are_longest
returns-clause-runs_are_longest c = λ entries. (runs_longest entries, runs_stand entries)

pub returns-clause-runs_are_one : goal.returns-clause-runs_are_one
returns-clause-runs_are_one c = one_after None
