use Rattle.std.proofs.Common.{length}
use Rattle.lx_epolls.proofs.epoll.+append_events.Given as goal

abbrev pub decreases-append_events : goal.decreases-append_events
decreases-append_events l = length l.picks.now
