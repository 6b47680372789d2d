use Rattle.std.proofs.Common.{length}
use Rattle.vector_moves.proofs.records.+write_vectors.Given as goal

abbrev pub decreases-write_vectors : goal.decreases-write_vectors
decreases-write_vectors l = length l.v.now
