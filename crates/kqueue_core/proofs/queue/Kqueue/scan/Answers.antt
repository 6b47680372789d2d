use Rattle.std.proofs.Common.{arith, subst, sym}
use Rattle.kqueue_core.specs.Changes.{IsWatches}
use Rattle.kqueue_core.proofs.Keeping.{kept_scanned}
use Rattle.std.specs.Prelude.{List}
use Rattle.kqueue_core.specs.Watched.{Covers}
use Rattle.kqueue_core.specs.declared.knotes.Watch.{Watch}
use Rattle.kqueue_core.proofs.Watching.{covers_scanned}
use Rattle.kqueue_core.proofs.queue.Kqueue.scan.Goals as goal

pub invariant_of-self : goal.invariant_of-self
invariant_of-self g c = record {
  watches = subst IsWatches (sym c.report.ensures.watches) (kept_scanned (g.R.Readiness.told c.args.ready.now) c.args.most c.self.inside.watches.items c.self.invariant.watches);
  covers = subst (λ (ws : List Watch). Covers c.self.inside.watched ws) (sym c.report.ensures.watches) (covers_scanned c.self.inside.watched (g.R.Readiness.told c.args.ready.now) c.args.most c.self.inside.watches.items c.self.invariant.covers);
  room = omega arith;
  reported = omega arith;
}

pub returns-clause-watches : goal.returns-clause-watches
returns-clause-watches g c = subst IsWatches (sym c.report.ensures.watches) (kept_scanned (g.R.Readiness.told c.args.ready.now) c.args.most c.self.inside.watches.items c.self.invariant.watches)
