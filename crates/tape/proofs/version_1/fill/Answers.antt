use Rattle.tape.proofs.Version1.{exact_1}
use Rattle.tape.proofs.version_1.fill.Goals as goal

pub records_of-requires : goal.records_of-requires
records_of-requires c = exact_1 c.args.bytes.now c.requires.whole
