use Rattle.std.proofs.Common.{arith, ap, subst, sym, ◌∙◌}
use Rattle.kqueue_core.specs.Changes.{IsWatches, change_fault, changed_by}
use Rattle.kqueue_core.proofs.Keeping.{kept_changed}
use Rattle.std.specs.Prelude.{List}
use Rattle.kqueue_core.specs.Watched.{Covers, noted}
use Rattle.kqueue_core.specs.declared.knotes.Watch.{Watch}
use Rattle.kqueue_core.specs.declared.watched.Watched.{Watched}
use Rattle.kqueue_core.proofs.Watching.{covers_changed, covers_more, noted_here}
use Rattle.kqueue_core.proofs.queue.Kqueue.change.Goals as goal

kept : (c : goal.After-apply) → IsWatches c.apply.new.watches.items
kept c =
    subst IsWatches (sym c.apply.ensures.items)
    (kept_changed c.args.ident.file c.args.ident.fd c.args.filter c.args.flags c.args.asked c.args.user c.args.ready c.self.inside.watches.items c.self.invariant.watches
    (ap (change_fault c.args.ident.file c.args.ident.fd c.args.filter c.args.flags) (sym c.deref.ensures.value) ∙ sym c.in_default.ensures))

pub invariant_of-self : goal.invariant_of-self
invariant_of-self c = record {
  watches = kept c;
  covers = subst (λ (ws : List Watch). Covers c.note.new.self ws) (sym c.apply.ensures.items)
      (subst (λ (s : Watched). Covers s (changed_by c.args.ident.file c.args.ident.fd c.args.filter c.args.flags c.args.asked c.args.user c.args.ready c.self.inside.watches.items)) (sym c.note.ensures)
      (covers_changed (noted c.self.inside.watched c.args.ident.file) c.args.ident.file c.args.ident.fd c.args.filter c.args.flags c.args.asked c.args.user c.args.ready c.self.inside.watches.items
      (noted_here c.self.inside.watched c.args.ident.file) (covers_more c.self.inside.watched c.args.ident.file c.self.inside.watches.items c.self.invariant.covers)));
  room = omega arith;
  reported = c.self.invariant.reported;
}

pub returns-clause-watches : goal.returns-clause-watches
returns-clause-watches c = kept c
