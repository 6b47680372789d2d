use Rattle.std.proofs.Common.{◌≡◌, ◌<◌, ◌&&◌, true, false, nat_lt, ◌++◌, ◌∷◌, [], length, vec_len, vec_capacity, slice_index_or, sym, ap, ◌∙◌, arith}
use Rattle.umtx_queue.specs.declared.waiter.Waiter.{Waiter}
use Rattle.umtx_queue.specs.declared.waiter.Note.TheVariants as note
use Rattle.umtx_queue.specs.Lists.{without_first}
use Rattle.umtx_queue.specs.Waiters.{matches}
use Rattle.umtx_queue.specs.Kept.{noted_as}
use Rattle.umtx_queue.proofs.Picking.{picked_hit, picked_miss, picked_all, out_hit, out_miss, length_kept}
use Rattle.umtx_queue.proofs.Tallies.{lengths}
use Rattle.umtx_queue.proofs.picks.wake_first.Goals as goal
use Rattle.umtx_queue.proofs.picks.wake_first.Goals.{then-picks, else-picks}

nobody : Waiter
nobody = record { slot = 0; place = 0; many = false; key = 0; bits = 0 }

pub loop-at-preserved : goal.loop-at-preserved
unfolding nobody
loop-at-preserved c =
    elim c.if-picks.branch [
      | then-picks w ↦
          let passes : (nat_lt 0 c.loop-at.left && matches c.args.key c.args.bits (slice_index_or c.loop-at.waiters c.loop-at.at nobody)) ≡ true = sym (c.picks.ensures ∙ ap (λ b. nat_lt 0 c.loop-at.left && b) c.matches.ensures) ∙ w.if-picks.true in
          let here : c.loop-at.at < length c.loop-at.waiters = omega arith in
          let there : c.loop-at.at < length c.args.waiters.now = omega arith in
          let seen = w.push_reserved.ensures.items ∙ ap (λ x. c.loop-at.notes.items ++ x ∷ []) w.noted.ensures in
          record {
            picked = rw (w.waiters-is, w.kept-is, w.left-is) (picked_hit (matches c.args.key c.args.bits) c.args.n c.args.waiters.now c.loop-at.at c.loop-at.kept c.loop-at.left c.loop-at.waiters nobody c.loop-at.invariant.picked here there passes);
            notes = rw (w.notes-is, w.left-is, seen) (out_hit (matches c.args.key c.args.bits) c.args.n c.args.waiters.now c.loop-at.at c.loop-at.kept c.loop-at.left c.loop-at.waiters nobody c.loop-at.invariant.picked here there (noted_as note.Woken) c.loop-at.notes.items _ passes c.loop-at.invariant.notes);
            room = omega (arith, ap vec_len w.notes-is, w.push_reserved.ensures.len, c.loop-at.invariant.room);
            capacity = ap vec_capacity w.notes-is ∙ w.push_reserved.ensures.capacity ∙ c.loop-at.invariant.capacity;
          }
      | else-picks w ↦
          let passes : (nat_lt 0 c.loop-at.left && matches c.args.key c.args.bits (slice_index_or c.loop-at.waiters c.loop-at.at nobody)) ≡ false = sym (c.picks.ensures ∙ ap (λ b. nat_lt 0 c.loop-at.left && b) c.matches.ensures) ∙ w.if-picks.false in
          let here : c.loop-at.at < length c.loop-at.waiters = omega arith in
          let there : c.loop-at.at < length c.args.waiters.now = omega arith in
          record {
            picked = rw (w.waiters-is, w.kept-is, w.left-is) (picked_miss (matches c.args.key c.args.bits) c.args.n c.args.waiters.now c.loop-at.at c.loop-at.kept c.loop-at.left c.loop-at.waiters nobody c.loop-at.invariant.picked here there passes);
            notes = rw (w.notes-is, w.left-is) (out_miss (matches c.args.key c.args.bits) c.args.n c.args.waiters.now c.loop-at.at c.loop-at.kept c.loop-at.left c.loop-at.waiters nobody c.loop-at.invariant.picked here there (noted_as note.Woken) c.loop-at.notes.items _ passes c.loop-at.invariant.notes);
            room = omega (arith, ap vec_len w.notes-is, c.loop-at.invariant.room);
            capacity = ap vec_capacity w.notes-is ∙ c.loop-at.invariant.capacity;
          }
    ]

pub returns-clause-count : goal.returns-clause-count
returns-clause-count c =
    let all = picked_all (matches c.args.key c.args.bits) c.args.n c.args.waiters.now c.loop-at.at c.loop-at.kept c.loop-at.left c.loop-at.waiters c.loop-at.invariant.picked (omega arith) in
    let within = c.loop-at.invariant.picked.within in
    let kept = length_kept c.loop-at.kept c.loop-at.waiters (without_first (matches c.args.key c.args.bits) c.args.n c.args.waiters.now) (omega arith) all in
    omega (arith, kept, lengths (matches c.args.key c.args.bits) c.args.n c.args.waiters.now)
