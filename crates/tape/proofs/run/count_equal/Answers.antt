use Rattle.tape.specs.Entry.{same_entry}
use Rattle.tape.proofs.Runs.{place_or_length}
use Rattle.tape.proofs.run.count_equal.Goals as goal

pub returns-clause-value : goal.returns-clause-value
returns-clause-value c = place_or_length (same_entry c.args.first.now) c.args.entries.now c.first_other.result c.unwrap_or.result c.first_other.ensures c.unwrap_or.ensures
