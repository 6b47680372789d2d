use Rattle.std.proofs.Common.{ap, ◌∙◌}
use Rattle.a64_model.specs.VectorRecord.{recorded_vectors}
use Rattle.vector_moves.proofs.ReadBack.{read_back}
use Rattle.vector_moves.proofs.records.record_of.Goals as goal

pub returns-clause-again : goal.returns-clause-again
returns-clause-again c = ap recorded_vectors c.written_record.ensures ∙ read_back c.args.v.now c.told-v c.fits-v
