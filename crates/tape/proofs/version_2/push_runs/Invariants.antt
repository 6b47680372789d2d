use Rattle.std.proofs.Common.{◌≡◌, ◌+◌, ◌≤◌, ◌++◌, length}
use Rattle.std.specs.List.{flat_map}
use Rattle.tape.specs.Runs.{entries_of}
use Rattle.tape.specs.TapeFile.{run_at}
use Rattle.tape.proofs.version_2.push_runs.Given as goal

abbrev pub invariant-loop-rest : goal.invariant-loop-rest
invariant-loop-rest l = record {
  seed : l.tape.seed ≡ l.initial.tape.seed;
  pages : l.tape.pages ≡ l.initial.tape.pages;
  rules : l.tape.rules ≡ l.initial.tape.rules;
  room : l.tape.room ≡ l.initial.tape.room;
  left : length l.tape.entries + length (flat_map (λ bytes. entries_of (run_at bytes 0)) l.rest) ≤ l.tape.room;
  entries : l.tape.entries ++ flat_map (λ bytes. entries_of (run_at bytes 0)) l.rest ≡ l.initial.tape.entries ++ flat_map (λ bytes. entries_of (run_at bytes 0)) l.records;
}

abbrev pub decreases-loop-rest : goal.decreases-loop-rest
decreases-loop-rest l = length l.rest
