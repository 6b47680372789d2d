use Rattle.std.proofs.lemmas.List.{take_rest}
use Rattle.tape.proofs.Version2.{runs_in-chunks}
use Rattle.tape.proofs.version_2.records_of.Goals as goal

pub returns-clause-runs : goal.returns-clause-runs
returns-clause-runs c = runs_in-chunks c.args.bytes.now c.as_chunks.result.0.now (simp take_rest at c.as_chunks.ensures.front)
