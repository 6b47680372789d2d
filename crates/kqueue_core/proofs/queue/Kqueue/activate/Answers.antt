use Rattle.std.proofs.Common.{◌≡◌, ap, arith, subst, sym, ◌∙◌}
use Rattle.kqueue_core.specs.Changes.{IsWatches, activated}
use Rattle.kqueue_core.specs.Queues.{Queue}
use Rattle.kqueue_core.specs.Watched.{Covers}
use Rattle.kqueue_core.specs.declared.knotes.Watch.{Watch}
use Rattle.std.specs.Prelude.{◌==◌, List}
use Rattle.kqueue_core.proofs.Keeping.{kept_activated}
use Rattle.kqueue_core.proofs.Watching.{covers_active, none_active}
use Rattle.kqueue_core.proofs.queue.Kqueue.activate.Goals as goal

pub invariant_of-self : goal.invariant_of-self
invariant_of-self c = record {
  watches = subst IsWatches (sym c.activate.ensures.items) (kept_activated (λ i. i == c.args.file) c.args.filter c.self.inside.watches.items c.self.invariant.watches);
  covers = subst (λ (ws : List Watch). Covers c.self.inside.watched ws) (sym c.activate.ensures.items) (covers_active c.self.inside.watched c.args.file c.args.filter c.self.inside.watches.items c.self.invariant.covers);
  room = omega arith;
  reported = c.self.invariant.reported;
}

pub returns-then-may_have-clause-watches : goal.returns-then-may_have-clause-watches
returns-then-may_have-clause-watches c = subst IsWatches (sym c.activate.ensures.items) (kept_activated (λ i. i == c.args.file) c.args.filter c.self.inside.watches.items c.self.invariant.watches)

pub returns-else-may_have-clause-queue : goal.returns-else-may_have-clause-queue
returns-else-may_have-clause-queue c =
    subst (λ (q : Queue). q ≡ record { watches = activated c.args.file c.args.filter q.watches; flux = q.flux }) c.self.view_is
    (ap (λ (ws : List Watch). record { watches = ws; flux = c.self.inside.flux })
    (sym (none_active c.self.inside.watched c.args.file c.args.filter c.self.inside.watches.items (sym c.may_have.ensures ∙ c.if-may_have.false) c.self.invariant.covers)))
