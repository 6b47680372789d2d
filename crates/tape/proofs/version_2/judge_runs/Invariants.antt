use Rattle.std.proofs.Common.{◌≡◌, ◌+◌, ◌≤◌, length, map}
use Rattle.tape.specs.TapeFile.{run_at}
use Rattle.tape.specs.TapeFault.{runs_fault, at_start}
use Rattle.tape.proofs.version_2.judge_runs.Given as goal

abbrev pub invariant-loop-rest : goal.invariant-loop-rest
invariant-loop-rest l = record {
  same : runs_fault l.size l.header l.front (map (λ bytes. run_at bytes 0) l.rest) ≡ runs_fault l.size l.header at_start (map (λ bytes. run_at bytes 0) l.records);
  numbered : l.front.runs + length l.rest ≡ length l.records;
  counted : l.front.entries ≤ l.header.count;
}

abbrev pub decreases-loop-rest : goal.decreases-loop-rest
decreases-loop-rest l = length l.rest
