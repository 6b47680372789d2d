use Rattle.std.proofs.Common.{length}
use Rattle.vector_moves.proofs.records.+read_vectors.Given as goal

abbrev pub decreases-read_vectors : goal.decreases-read_vectors
decreases-read_vectors l = length l.v.now
