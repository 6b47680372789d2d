use Rattle.tape.proofs.Version2.{long_2, entries-records}
use Rattle.tape.proofs.version_2.fill.Goals as goal

pub records_of-requires : goal.records_of-requires
records_of-requires c = long_2 c.args.bytes.now c.requires.whole

pub push_runs-requires : goal.push_runs-requires
push_runs-requires c = rw (entries-records c.args.bytes.now c.records_of.result.now c.records_of.ensures.runs) c.requires.room

pub returns : goal.returns
returns c = let entries = entries-records c.args.bytes.now c.records_of.result.now c.records_of.ensures.runs in cc
