use Rattle.std.proofs.Common.{ap, ◌∙◌, arith}
use Rattle.umtx_queue.specs.Lines.{Line, removed}
use Rattle.umtx_queue.proofs.LineFacts.{once_removed}
use Rattle.umtx_queue.proofs.LineValues.{removed_each, removed_notes_each, removed_value}
use Rattle.umtx_queue.proofs.line.Line.remove.Goals as goal

pub invariant_of-self : goal.invariant_of-self
invariant_of-self c =
    let ws = c.self.inside.waiters.items in
    let ns = c.self.inside.notes.items in
    record {
      waiters = removed_each c.args.slot ws _ ns _ c.drop_waiters_of.ensures.items c.drop_notes_of.ensures.items c.self.invariant.waiters;
      notes = removed_notes_each c.args.slot ws _ ns _ c.drop_waiters_of.ensures.items c.drop_notes_of.ensures.items c.self.invariant.notes;
      once = λ i. rw (c.drop_waiters_of.ensures.items, c.drop_notes_of.ensures.items) (once_removed c.args.slot ws ns c.self.invariant.once i);
      room = omega (arith, c.drop_waiters_of.ensures.capacity, c.self.invariant.room);
      note_room = omega (arith, c.drop_notes_of.ensures.capacity, c.self.invariant.note_room);
    }

pub returns : goal.returns
returns c =
    removed_value c.args.slot c.self.inside.waiters.items _ c.self.inside.notes.items _ c.drop_waiters_of.ensures.items c.drop_notes_of.ensures.items c.self.invariant.notes
    ∙ ap (λ (l : Line). removed l c.args.slot) c.self.view_is
