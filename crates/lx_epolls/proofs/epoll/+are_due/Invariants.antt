use Rattle.std.proofs.Common.{length}
use Rattle.lx_epolls.proofs.epoll.+are_due.Given as goal

abbrev pub decreases-are_due : goal.decreases-are_due
decreases-are_due l = length l.picks.now
