use Rattle.std.proofs.Common.{◌≡◌, ◌+◌, ◌*◌, ◌≤◌, ◌++◌, length, vec_len}
use Rattle.std.specs.List.{flat_map}
use Rattle.tape.specs.Runs.{run_text, runs_of}
use Rattle.tape.proofs.writing.write_runs.Given as goal

abbrev pub invariant-loop-run : goal.invariant-loop-run
invariant-loop-run l = record {
  written : l.text.items ++ flat_map run_text (runs_of l.rest) ≡ l.initial.text.items ++ flat_map run_text (runs_of l.entries);
  long : vec_len l.text + 13 * length (runs_of l.rest) ≡ vec_len l.initial.text + 13 * length (runs_of l.entries);
  few : length l.rest ≤ length l.entries;
}

abbrev pub decreases-loop-run : goal.decreases-loop-run
decreases-loop-run l = length l.rest
