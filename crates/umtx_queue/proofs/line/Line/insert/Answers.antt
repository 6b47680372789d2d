use Rattle.std.proofs.Common.{◌≡◌, ◌∷◌, [], false, sym, ap, ◌∙◌, subst, arith}
use Rattle.umtx_queue.specs.Waiters.{who, is_queued}
use Rattle.umtx_queue.specs.Lines.{Line, joined}
use Rattle.umtx_queue.proofs.LineFacts.{once_joined, one_joins}
use Rattle.umtx_queue.proofs.LineValues.{joined_each, joined_notes_each, joined_value, joins_fit}
use Rattle.umtx_queue.proofs.line.Line.insert.Goals as goal

pub push_reserved-requires : goal.push_reserved-requires
push_reserved-requires c =
    let apart = subst (λ (l : Line). is_queued (who c.args.waiter) l.waiters ≡ false) (sym c.self.view_is) c.requires.apart in
    let fit = joins_fit c.self.inside.waiters.items (c.args.waiter ∷ []) c.self.invariant.waiters (c.requires.waiter, tt) (one_joins c.self.inside.waiters.items c.self.inside.notes.items c.args.waiter c.self.invariant.once apart) in
    omega (arith, fit, c.self.inside.waiters.ok.0, c.self.invariant.room)

pub invariant_of-self : goal.invariant_of-self
invariant_of-self c =
    let ws = c.self.inside.waiters.items in
    let ns = c.self.inside.notes.items in
    let apart = subst (λ (l : Line). is_queued (who c.args.waiter) l.waiters ≡ false) (sym c.self.view_is) c.requires.apart in
    record {
      waiters = joined_each ws _ (c.args.waiter ∷ []) ns _ c.push_reserved.ensures.items c.drop_notes.ensures.items c.self.invariant.waiters (c.requires.waiter, tt);
      notes = joined_notes_each ws _ (c.args.waiter ∷ []) ns _ c.push_reserved.ensures.items c.drop_notes.ensures.items c.self.invariant.notes;
      once = λ i. rw (c.push_reserved.ensures.items, c.drop_notes.ensures.items) (once_joined ws (c.args.waiter ∷ []) ns c.self.invariant.once (one_joins ws ns c.args.waiter c.self.invariant.once apart) i);
      room = omega (arith, c.push_reserved.ensures.capacity, c.self.invariant.room);
      note_room = omega (arith, c.drop_notes.ensures.capacity, c.self.invariant.note_room);
    }

pub returns : goal.returns
returns c =
    joined_value c.self.inside.waiters.items _ (c.args.waiter ∷ []) c.self.inside.notes.items _ c.push_reserved.ensures.items c.drop_notes.ensures.items
    ∙ ap (λ (l : Line). joined l (c.args.waiter ∷ [])) c.self.view_is
