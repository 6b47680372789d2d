use Rattle.std.proofs.Common.{length}
use Rattle.lx_files.proofs.lists.+first_free_from.Given as goal

abbrev pub decreases-first_free_from : goal.decreases-first_free_from
decreases-first_free_from g l = length l.places.now
