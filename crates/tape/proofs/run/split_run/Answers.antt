use Rattle.std.proofs.lemmas.Grind.{common_steps}
use Rattle.std.proofs.Common.{arith}
use Rattle.tape.proofs.Runs.{first_run}
use Rattle.tape.proofs.run.split_run.Goals as goal

pub returns-clause-run : goal.returns-clause-run
returns-clause-run c =
    let first = first_run c.in_ok-first.first.now c.in_ok-first.others.now in
    grind (arith, common_steps, first)
