use Rattle.std.proofs.lemmas.List.{take_rest}
use Rattle.tape.proofs.Version1.{entries_in_1-chunks}
use Rattle.tape.proofs.version_1.records_of.Goals as goal

pub returns : goal.returns
returns c = entries_in_1-chunks c.args.bytes.now c.as_chunks.result.0.now c.requires (simp take_rest at c.as_chunks.ensures.front)
