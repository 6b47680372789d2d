use Rattle.std.proofs.Common.{◌≡◌, ◌+◌, ◌≤◌, length}
use Rattle.std.specs.List.{AllByRecursion}
use Rattle.tape.specs.Runs.{runs_of, FitsRun}
use Rattle.tape.proofs.writing.count_runs.Given as goal

abbrev pub invariant-loop-behind : goal.invariant-loop-behind
invariant-loop-behind l = record {
  counted : l.count + length (runs_of l.rest) ≡ length (runs_of l.entries);
  few : l.count + length l.rest ≤ length l.entries;
  fit : AllByRecursion FitsRun (runs_of l.rest) → AllByRecursion FitsRun (runs_of l.entries);
}

abbrev pub decreases-loop-behind : goal.decreases-loop-behind
decreases-loop-behind l = length l.rest
