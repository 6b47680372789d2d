use Rattle.std.proofs.Common.{◌≡◌, ◌++◌, length, map, sym, ap, ◌∙◌, subst, arith}
use Rattle.umtx_queue.specs.declared.waiter.Note.TheVariants as note
use Rattle.umtx_queue.specs.Lists.{first_of, without_first, tally}
use Rattle.umtx_queue.specs.Waiters.{is_plain_at, rekeyed, with_key}
use Rattle.umtx_queue.specs.Carries.{IsCarry}
use Rattle.umtx_queue.specs.Lines.{Line, left}
use Rattle.umtx_queue.specs.Kept.{noted_as}
use Rattle.umtx_queue.proofs.Tallies.{length-first_of}
use Rattle.umtx_queue.proofs.LineFacts.{once_left, line_fits, plain_fit, carry_is, same_length}
use Rattle.umtx_queue.proofs.LineValues.{truncated, waiters_once, left_each, left_notes_each, left_value}
use Rattle.umtx_queue.proofs.line.Line.requeue_out.Goals as goal

pub take_first-kept-requires-clause-room : goal.take_first-kept-requires-clause-room
take_first-kept-requires-clause-room c =
    let fit = line_fits c.self.inside.waiters.items c.self.inside.notes.items c.self.invariant.waiters c.self.invariant.notes c.self.invariant.once in
    omega (arith, fit, ap length c.deref_mut.ensures.value, c.self.inside.notes.ok.0, c.self.invariant.note_room)

pub take_first-kept-requires-clause-few : goal.take_first-kept-requires-clause-few
take_first-kept-requires-clause-few c =
    rw c.deref_mut.ensures.value (plain_fit c.args.key c.self.inside.waiters.items c.self.invariant.waiters (waiters_once _ _ c.self.invariant.once))

pub invariant_of-self : goal.invariant_of-self
invariant_of-self c =
    let p = is_plain_at c.args.key in
    let ws = c.self.inside.waiters.items in
    let ns = c.self.inside.notes.items in
    let e : c.truncate.new.self.items ≡ without_first p c.args.n ws = c.truncate.ensures.items ∙ truncated _ _ _ _ (omega (arith, c.deref_mut.ensures.len, c.take_first-kept.auto.waiters)) ∙ c.take_first-kept.ensures.left ∙ ap (without_first p c.args.n) c.deref_mut.ensures.value in
    let f : c.take_first-kept.new.notes.items ≡ ns ++ map (noted_as (note.Moved c.args.to)) (first_of p c.args.n ws) = c.take_first-kept.ensures.notes ∙ ap (λ l. ns ++ map (noted_as (note.Moved c.args.to)) (first_of p c.args.n l)) c.deref_mut.ensures.value in
    record {
      waiters = left_each p c.args.n (note.Moved c.args.to) ws _ ns _ e f c.self.invariant.waiters;
      notes = left_notes_each p c.args.n (note.Moved c.args.to) ws _ ns _ e f c.self.invariant.waiters c.self.invariant.notes;
      once = λ i. rw (e, f) (once_left p c.args.n (note.Moved c.args.to) ws ns c.self.invariant.once i);
      room = omega (arith, c.truncate.ensures.capacity, c.self.invariant.room);
      note_room = omega (arith, c.take_first-kept.ensures.capacity, c.self.invariant.note_room);
    }

pub returns-clause-line : goal.returns-clause-line
returns-clause-line c =
    let p = is_plain_at c.args.key in
    let ws = c.self.inside.waiters.items in
    let ns = c.self.inside.notes.items in
    let e : c.truncate.new.self.items ≡ without_first p c.args.n ws = c.truncate.ensures.items ∙ truncated _ _ _ _ (omega (arith, c.deref_mut.ensures.len, c.take_first-kept.auto.waiters)) ∙ c.take_first-kept.ensures.left ∙ ap (without_first p c.args.n) c.deref_mut.ensures.value in
    let f : c.take_first-kept.new.notes.items ≡ ns ++ map (noted_as (note.Moved c.args.to)) (first_of p c.args.n ws) = c.take_first-kept.ensures.notes ∙ ap (λ l. ns ++ map (noted_as (note.Moved c.args.to)) (first_of p c.args.n l)) c.deref_mut.ensures.value in
    left_value p c.args.n (note.Moved c.args.to) ws _ ns _ e f c.self.invariant.once ∙ ap (λ (l : Line). left l p c.args.n (note.Moved c.args.to)) c.self.view_is

pub returns-clause-fits : goal.returns-clause-fits
returns-clause-fits c =
    let e = c.take_first-kept.ensures.carry ∙ ap (λ l. rekeyed c.args.to (first_of (is_plain_at c.args.key) c.args.n l)) c.deref_mut.ensures.value in
    subst IsCarry (sym e) (carry_is c.args.key c.args.n c.args.to c.self.inside.waiters.items c.self.invariant.waiters (waiters_once _ _ c.self.invariant.once))

pub returns-clause-count : goal.returns-clause-count
returns-clause-count c =
    let same : tally (is_plain_at c.args.key) c.deref_mut.result.now ≡ tally (is_plain_at c.args.key) c.args.self.now.waiters = ap (tally (is_plain_at c.args.key)) (c.deref_mut.ensures.value ∙ ap (λ (l : Line). l.waiters) c.self.view_is) in
    let held = ap length c.take_first-kept.ensures.carry ∙ same_length (with_key c.args.to) (first_of (is_plain_at c.args.key) c.args.n c.deref_mut.result.now) in
    omega (arith, same, held, length-first_of (is_plain_at c.args.key) c.args.n c.deref_mut.result.now, c.len.ensures.value)
