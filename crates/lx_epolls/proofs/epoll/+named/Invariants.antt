use Rattle.std.proofs.Common.{length}
use Rattle.lx_epolls.proofs.epoll.+named.Given as goal

abbrev pub decreases-named : goal.decreases-named
decreases-named l = length l.interests.now
