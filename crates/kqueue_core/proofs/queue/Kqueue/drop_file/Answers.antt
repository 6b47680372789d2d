use Rattle.std.proofs.Common.{◌≡◌, ap, arith, subst, sym, ◌∙◌}
use Rattle.kqueue_core.specs.Changes.{IsWatches, is_apart_from, without_file}
use Rattle.kqueue_core.specs.Queues.{Queue}
use Rattle.kqueue_core.specs.Watched.{Covers, forgotten}
use Rattle.kqueue_core.specs.declared.knotes.Watch.{Watch}
use Rattle.kqueue_core.specs.declared.watched.Watched.{Watched}
use Rattle.std.specs.Prelude.{List}
use Rattle.kqueue_core.proofs.Keeping.{kept_without}
use Rattle.kqueue_core.proofs.Watching.{covers_left, none_left}
use Rattle.kqueue_core.proofs.queue.Kqueue.drop_file.Goals as goal

pub invariant_of-self : goal.invariant_of-self
invariant_of-self c = record {
  watches = subst IsWatches (sym c.drop_file.ensures.items) (kept_without (is_apart_from c.args.file) c.self.inside.watches.items c.self.invariant.watches);
  covers = subst (λ (s : Watched). Covers s c.drop_file.new.watches.items) (sym c.forget.ensures)
      (subst (λ (ws : List Watch). Covers (forgotten c.self.inside.watched c.args.file) ws) (sym c.drop_file.ensures.items) (covers_left c.self.inside.watched c.args.file c.self.inside.watches.items c.self.invariant.covers));
  room = omega arith;
  reported = c.self.invariant.reported;
}

pub returns-then-may_have-clause-watches : goal.returns-then-may_have-clause-watches
returns-then-may_have-clause-watches c = subst IsWatches (sym c.drop_file.ensures.items) (kept_without (is_apart_from c.args.file) c.self.inside.watches.items c.self.invariant.watches)

pub returns-else-may_have-clause-queue : goal.returns-else-may_have-clause-queue
returns-else-may_have-clause-queue c =
    subst (λ (q : Queue). q ≡ record { watches = without_file c.args.file q.watches; flux = q.flux }) c.self.view_is
    (ap (λ (ws : List Watch). record { watches = ws; flux = c.self.inside.flux })
    (sym (none_left c.self.inside.watched c.args.file c.self.inside.watches.items (sym c.may_have.ensures ∙ c.if-may_have.false) c.self.invariant.covers)))
