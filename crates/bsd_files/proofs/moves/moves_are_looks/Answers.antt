use Rattle.bsd_files.proofs.LinuxMoves.{of_reads, of_writes}
use Rattle.bsd_files.proofs.moves.moves_are_looks.Goals as goal

pub returns-clause-reads : goal.returns-clause-reads
returns-clause-reads c = of_reads

pub returns-clause-writes : goal.returns-clause-writes
returns-clause-writes c = of_writes
