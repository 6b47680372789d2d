use Rattle.std.proofs.Common.{length}
use Rattle.lx_epolls.proofs.epoll_wait.+push_due.Given as goal

abbrev pub decreases-push_due : goal.decreases-push_due
decreases-push_due l = length l.interests.now
