use Rattle.std.proofs.Common.{arith, false, rules}
use Rattle.lx_epolls.proofs.FirstAnswer.{behind_due}
use Rattle.lx_epolls.proofs.epoll_wait.+push_due.Goals as goal

pub returns-in_ok-push_pick-in-len1-up : goal.returns-in_ok-push_pick-in-len1-up
returns-in_ok-push_pick-in-len1-up t c =
    behind_due c.push_due-in-len1-up.result c.args.files.now c.args.most c.args.interests.now (record { descriptor = 0; file = 0; asked = 0; «data» = 0; armed = false; enabled = false })
    c.push_due-in-len1-up.new.picks.items c.push_pick.new.picks.items c.args.picks.now.items
    (omega (arith, c.if-most-eq0.false)) c.in-len1-up.len_at_least (search rules) (search rules) c.push_due-in-len1-up.ensures
