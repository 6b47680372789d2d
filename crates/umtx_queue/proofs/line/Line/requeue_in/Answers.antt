use Rattle.std.proofs.Common.{◌≡◌, ◌++◌, length, sym, ap, ◌∙◌, subst, arith}
use Rattle.umtx_queue.specs.Waiters.{IsWaiter}
use Rattle.umtx_queue.specs.Carries.{AreApart}
use Rattle.umtx_queue.specs.Lines.{Line, joined}
use Rattle.umtx_queue.specs.Kept.{notes_apart}
use Rattle.umtx_queue.proofs.LineFacts.{once_joined, carry_joins}
use Rattle.umtx_queue.proofs.LineValues.{joined_each, joined_notes_each, joined_value, joins_fit}
use Rattle.umtx_queue.proofs.line.Line.requeue_in.Goals as goal
use Rattle.std.proofs.lemmas.List.Elements.{recursion_from_All}

pub append-requires : goal.append-requires
append-requires c =
    let apart = subst (λ (l : Line). AreApart c.args.carry.now.items l.waiters) (sym c.self.view_is) c.requires.apart in
    let fit = joins_fit c.self.inside.waiters.items c.args.carry.now.items c.self.invariant.waiters (recursion_from_All IsWaiter _ c.requires.carry.each) (carry_joins c.self.inside.waiters.items c.args.carry.now.items c.self.inside.notes.items c.self.invariant.once c.requires.carry apart) in
    omega (arith, fit, ap length c.deref-2.ensures.0, c.self.inside.waiters.ok.0, c.self.invariant.room)

pub invariant_of-self : goal.invariant_of-self
invariant_of-self c =
    let ws = c.self.inside.waiters.items in
    let ns = c.self.inside.notes.items in
    let more = c.args.carry.now.items in
    let apart = subst (λ (l : Line). AreApart c.args.carry.now.items l.waiters) (sym c.self.view_is) c.requires.apart in
    let e : c.append.new.waiters.items ≡ ws ++ more = c.append.ensures.items ∙ ap (λ l. ws ++ l) c.deref-2.ensures.0 in
    let f : c.drop_notes.new.notes.items ≡ notes_apart more ns = c.drop_notes.ensures.items ∙ ap (λ l. notes_apart l ns) c.deref.ensures.0 in
    record {
      waiters = joined_each ws _ more ns _ e f c.self.invariant.waiters (recursion_from_All IsWaiter _ c.requires.carry.each);
      notes = joined_notes_each ws _ more ns _ e f c.self.invariant.notes;
      once = λ i. rw (e, f) (once_joined ws more ns c.self.invariant.once (carry_joins ws more ns c.self.invariant.once c.requires.carry apart) i);
      room = omega (arith, c.append.ensures.capacity, c.self.invariant.room);
      note_room = omega (arith, c.drop_notes.ensures.capacity, c.self.invariant.note_room);
    }

pub returns-clause-line : goal.returns-clause-line
returns-clause-line c =
    let ws = c.self.inside.waiters.items in
    let ns = c.self.inside.notes.items in
    let more = c.args.carry.now.items in
    let e : c.append.new.waiters.items ≡ ws ++ more = c.append.ensures.items ∙ ap (λ l. ws ++ l) c.deref-2.ensures.0 in
    let f : c.drop_notes.new.notes.items ≡ notes_apart more ns = c.drop_notes.ensures.items ∙ ap (λ l. notes_apart l ns) c.deref.ensures.0 in
    joined_value ws _ more ns _ e f ∙ ap (λ (l : Line). joined l more) c.self.view_is
