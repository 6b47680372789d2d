use Rattle.std.proofs.Common.{◌≡◌, true, subst}
use Rattle.std.specs.Prelude.{nat_le}
use Rattle.std.specs.List.{list_all}
use Rattle.kqueue_core.specs.Queues.{Queue}
use Rattle.kqueue_core.proofs.Watching.{all_below}
use Rattle.kqueue_core.proofs.queue.Kqueue.last_watched.Goals as goal

pub returns : goal.returns
returns c =
    subst (λ (q : Queue). list_all (λ w. nat_le w.file c.self.inside.watched.last) q.watches ≡ true) c.self.view_is
    (all_below c.self.inside.watched c.self.inside.watches.items c.self.invariant.covers)
