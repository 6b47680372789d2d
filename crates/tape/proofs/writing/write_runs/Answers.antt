use Rattle.std.proofs.Common.{◌++◌, ◌∙◌, List, ℕ, length, ap, arith}
use Rattle.tape.specs.Runs.{runs_of}
use Rattle.tape.proofs.Version2.{written_more}
use Rattle.tape.proofs.writing.write_runs.Goals as goal

pub loop-run-preserved : goal.loop-run-preserved
loop-run-preserved c = record {
  written = written_more c.loop-run.text.items c.extend_from_slice.new.self.items _ c.in-Some.run' (runs_of c.in-Some.behind.now) (runs_of c.loop-run.rest.now) c.loop-run.invariant.written c.in-Some.ensures.run
      (c.in_ok-extend_from_slice.ensures.items ∙ ap (λ (text : List ℕ). c.loop-run.text.items ++ text) c.record_of.ensures);
  long = omega (arith, ap length c.in-Some.ensures.run, c.in_ok-extend_from_slice.ensures.len, ap length c.record_of.ensures, c.loop-run.invariant.long);
  few = omega (arith, c.in-Some.ensures.shorter, c.loop-run.invariant.few);
}
