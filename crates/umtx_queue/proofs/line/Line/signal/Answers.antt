use Rattle.std.proofs.Common.{◌≡◌, ◌++◌, length, map, ap, ◌∙◌, arith}
use Rattle.umtx_queue.specs.declared.waiter.Note.TheVariants as note
use Rattle.umtx_queue.specs.Lists.{first_of, without_first, tally}
use Rattle.umtx_queue.specs.Waiters.{matches}
use Rattle.umtx_queue.specs.Lines.{Line, left}
use Rattle.umtx_queue.specs.Kept.{noted_as}
use Rattle.umtx_queue.proofs.Tallies.{length-first_of}
use Rattle.umtx_queue.proofs.LineFacts.{once_left, line_fits}
use Rattle.umtx_queue.proofs.LineValues.{truncated, left_each, left_notes_each, left_value}
use Rattle.umtx_queue.proofs.line.Line.signal.Goals as goal

pub wake_first-kept-requires : goal.wake_first-kept-requires
wake_first-kept-requires c =
    let fit = line_fits c.self.inside.waiters.items c.self.inside.notes.items c.self.invariant.waiters c.self.invariant.notes c.self.invariant.once in
    record { room = omega (arith, fit, ap length c.deref_mut.ensures.value, c.self.inside.notes.ok.0, c.self.invariant.note_room) }

pub overflow_cast-result : goal.overflow_cast-result
overflow_cast-result c =
    omega (arith, length-first_of (matches c.args.key c.args.bits) c.args.n c.deref_mut.result.now, c.wake_first-kept.ensures.count, c.deref_mut.ensures.len, c.len-waiting.ensures, c.ranges.n.fits)

pub invariant_of-self : goal.invariant_of-self
invariant_of-self c =
    let p = matches c.args.key c.args.bits in
    let ws = c.self.inside.waiters.items in
    let ns = c.self.inside.notes.items in
    let e : c.truncate.new.self.items ≡ without_first p c.args.n ws = c.truncate.ensures.items ∙ truncated _ _ _ _ (omega (arith, c.deref_mut.ensures.len, c.wake_first-kept.auto.waiters)) ∙ c.wake_first-kept.ensures.left ∙ ap (without_first p c.args.n) c.deref_mut.ensures.value in
    let f : c.wake_first-kept.new.notes.items ≡ ns ++ map (noted_as note.Woken) (first_of p c.args.n ws) = c.wake_first-kept.ensures.notes ∙ ap (λ l. ns ++ map (noted_as note.Woken) (first_of p c.args.n l)) c.deref_mut.ensures.value in
    record {
      waiters = left_each p c.args.n note.Woken ws _ ns _ e f c.self.invariant.waiters;
      notes = left_notes_each p c.args.n note.Woken ws _ ns _ e f c.self.invariant.waiters c.self.invariant.notes;
      once = λ i. rw (e, f) (once_left p c.args.n note.Woken ws ns c.self.invariant.once i);
      room = omega (arith, c.truncate.ensures.capacity, c.self.invariant.room);
      note_room = omega (arith, c.wake_first-kept.ensures.capacity, c.self.invariant.note_room);
    }

pub returns-clause-line : goal.returns-clause-line
returns-clause-line c =
    let p = matches c.args.key c.args.bits in
    let ws = c.self.inside.waiters.items in
    let ns = c.self.inside.notes.items in
    let e : c.truncate.new.self.items ≡ without_first p c.args.n ws = c.truncate.ensures.items ∙ truncated _ _ _ _ (omega (arith, c.deref_mut.ensures.len, c.wake_first-kept.auto.waiters)) ∙ c.wake_first-kept.ensures.left ∙ ap (without_first p c.args.n) c.deref_mut.ensures.value in
    let f : c.wake_first-kept.new.notes.items ≡ ns ++ map (noted_as note.Woken) (first_of p c.args.n ws) = c.wake_first-kept.ensures.notes ∙ ap (λ l. ns ++ map (noted_as note.Woken) (first_of p c.args.n l)) c.deref_mut.ensures.value in
    left_value p c.args.n note.Woken ws _ ns _ e f c.self.invariant.once ∙ ap (λ (l : Line). left l p c.args.n note.Woken) c.self.view_is

pub returns-clause-count : goal.returns-clause-count
returns-clause-count c =
    let same : tally (matches c.args.key c.args.bits) c.deref_mut.result.now ≡ tally (matches c.args.key c.args.bits) c.args.self.now.waiters = ap (tally (matches c.args.key c.args.bits)) (c.deref_mut.ensures.value ∙ ap (λ (l : Line). l.waiters) c.self.view_is) in
    omega (arith, same, length-first_of (matches c.args.key c.args.bits) c.args.n c.deref_mut.result.now, c.wake_first-kept.ensures.count, c.deref_mut.ensures.len, c.len-waiting.ensures)
