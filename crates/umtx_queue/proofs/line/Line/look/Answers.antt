use Rattle.std.proofs.Common.{◌≡◌, false, sym, ap, ◌∙◌, subst}
use Rattle.umtx_queue.specs.Waiters.{who_at, is_queued, AreWaiters}
use Rattle.umtx_queue.specs.Lines.{Line, finds}
use Rattle.umtx_queue.proofs.LineValues.{finds_note, are_waiters}
use Rattle.umtx_queue.proofs.line.Line.look.Goals as goal
use Rattle.umtx_queue.specs.Notes.{told}
use Rattle.umtx_queue.specs.Kept.{note_at}
use Rattle.std.specs.Prelude.{option_map}

pub returns-else-waits-clause-found : goal.returns-else-waits-clause-found
returns-else-waits-clause-found c =
    let i = who_at c.args.slot c.args.place in
    let none : is_queued i c.self.inside.waiters.items ≡ false = ap (is_queued i) (sym c.deref.ensures.value) ∙ sym c.waits.ensures ∙ c.if-waits.false in
    c.told_of.ensures ∙ ap (λ l. option_map told (note_at i l)) c.deref-else-waits.ensures.value ∙ finds_note c.self.inside.waiters.items c.self.inside.notes.items i none ∙ ap (λ (l : Line). finds l i) c.self.view_is

pub returns-then-waits-clause-waiters : goal.returns-then-waits-clause-waiters
returns-then-waits-clause-waiters c = subst (λ (l : Line). AreWaiters l.waiters) c.self.view_is (are_waiters c.self.inside.waiters.items c.self.inside.notes.items c.self.invariant.waiters c.self.invariant.once)

pub returns-else-waits-clause-waiters : goal.returns-else-waits-clause-waiters
returns-else-waits-clause-waiters c = subst (λ (l : Line). AreWaiters l.waiters) c.self.view_is (are_waiters c.self.inside.waiters.items c.self.inside.notes.items c.self.invariant.waiters c.self.invariant.once)
