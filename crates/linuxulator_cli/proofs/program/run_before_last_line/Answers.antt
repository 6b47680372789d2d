-- The run, and all that it put out taken.
use Rattle.std.proofs.Common.{rules}
use Rattle.linuxulator_cli.proofs.Runs.{cause_of_run}
use Rattle.linuxulator_cli.proofs.program.run_before_last_line.Goals as goal

pub returns-in-Ok-put-clause-cause : goal.returns-in-Ok-put-clause-cause
returns-in-Ok-put-clause-cause g c =
    rw (c.after-in-Ok-put.ensures, c.end_of.ensures) (cause_of_run _ _ _ _ c.in-Ok-run.ran.end (record {
      file = c.in-Ok.file.items;
      program = c.in-Ok-read_program.program;
      state = c.in-Ok-run.ran.machine;
      ran = record {
        loaded = c.in-Ok.ensures.loaded;
        program_of = search rules;
        reached = c.in-Ok-run.ensures.state;
        ended = c.in-Ok-run.ensures.end;
      };
      out = search rules;
      err = search rules;
    }))
