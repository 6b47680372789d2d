use Rattle.std.proofs.Common.{◌≡◌, ◌<◌, ◌&&◌, true, false, nat_lt, ◌++◌, ◌∷◌, [], length, vec_len, vec_capacity, slice_index_or, sym, ap, ◌∙◌, arith}
use Rattle.lx_machine.specs.declared.threads.LxWaiter.{LxWaiter}
use Rattle.lx_machine.specs.Queue.{is_plain_at, moved_to, without_first}
use Rattle.lx_machine.proofs.Waiters.{lengths, length_kept, out_all, out_hit, out_miss, picked_all, picked_hit, picked_miss}
use Rattle.lx_machine.proofs.queue.move_first.Goals as goal
use Rattle.lx_machine.proofs.queue.move_first.Goals.{then-picks, else-picks}

nobody : LxWaiter
nobody = record { tid = 0; place = 0; many = false; address = 0; bits = 0 }

pub loop-place-preserved : goal.loop-place-preserved
unfolding nobody
loop-place-preserved c =
    elim c.if-picks.branch [
      | then-picks w ↦
          let passes : (nat_lt 0 c.loop-place.left && is_plain_at c.args.from (slice_index_or c.loop-place.waiters c.loop-place.place nobody)) ≡ true = sym (c.picks.ensures ∙ ap (λ b. nat_lt 0 c.loop-place.left && b) c.is_plain_at.ensures) ∙ w.if-picks.true in
          let here : c.loop-place.place < length c.loop-place.waiters = omega arith in
          let there : c.loop-place.place < length c.args.waiters.now = omega arith in
          let pushed = w.push_reserved.ensures.items ∙ ap (λ x. c.loop-place.moved.items ++ x ∷ []) w.moved_to.ensures in
          record {
            picked = rw (w.waiters-is, w.kept-is, w.left-is) (picked_hit c.args.most (is_plain_at c.args.from) c.args.waiters.now c.loop-place.place c.loop-place.kept c.loop-place.left c.loop-place.waiters nobody c.loop-place.invariant.picked here there passes);
            moved = rw (w.moved-is, w.left-is, pushed) (out_hit c.args.most (is_plain_at c.args.from) c.args.waiters.now c.loop-place.place c.loop-place.kept c.loop-place.left c.loop-place.waiters nobody c.loop-place.invariant.picked here there (moved_to c.args.to) c.loop-place.moved.items _ passes c.loop-place.invariant.moved);
            room = omega (arith, ap vec_len w.moved-is, w.push_reserved.ensures.len, c.loop-place.invariant.room);
            capacity = ap vec_capacity w.moved-is ∙ w.push_reserved.ensures.capacity ∙ c.loop-place.invariant.capacity;
          }
      | else-picks w ↦
          let passes : (nat_lt 0 c.loop-place.left && is_plain_at c.args.from (slice_index_or c.loop-place.waiters c.loop-place.place nobody)) ≡ false = sym (c.picks.ensures ∙ ap (λ b. nat_lt 0 c.loop-place.left && b) c.is_plain_at.ensures) ∙ w.if-picks.false in
          let here : c.loop-place.place < length c.loop-place.waiters = omega arith in
          let there : c.loop-place.place < length c.args.waiters.now = omega arith in
          record {
            picked = rw (w.waiters-is, w.kept-is, w.left-is) (picked_miss c.args.most (is_plain_at c.args.from) c.args.waiters.now c.loop-place.place c.loop-place.kept c.loop-place.left c.loop-place.waiters nobody c.loop-place.invariant.picked here there passes);
            moved = rw (w.moved-is, w.left-is) (out_miss c.args.most (is_plain_at c.args.from) c.args.waiters.now c.loop-place.place c.loop-place.kept c.loop-place.left c.loop-place.waiters nobody c.loop-place.invariant.picked here there (moved_to c.args.to) c.loop-place.moved.items _ passes c.loop-place.invariant.moved);
            room = omega (arith, ap vec_len w.moved-is, c.loop-place.invariant.room);
            capacity = ap vec_capacity w.moved-is ∙ c.loop-place.invariant.capacity;
          }
    ]

pub returns-clause-count : goal.returns-clause-count
returns-clause-count c =
    let all = picked_all c.args.most (is_plain_at c.args.from) c.args.waiters.now c.loop-place.place c.loop-place.kept c.loop-place.left c.loop-place.waiters c.loop-place.invariant.picked (omega arith) in
    let within = c.loop-place.invariant.picked.within in
    let kept = length_kept c.loop-place.kept c.loop-place.waiters (without_first c.args.most (is_plain_at c.args.from) c.args.waiters.now) (omega arith) all in
    omega (arith, kept, lengths c.args.most (is_plain_at c.args.from) c.args.waiters.now)

pub returns-clause-left : goal.returns-clause-left
returns-clause-left c = picked_all c.args.most (is_plain_at c.args.from) c.args.waiters.now c.loop-place.place c.loop-place.kept c.loop-place.left c.loop-place.waiters c.loop-place.invariant.picked (omega arith)

pub returns-clause-moved : goal.returns-clause-moved
returns-clause-moved c = out_all (is_plain_at c.args.from) (moved_to c.args.to) c.args.waiters.now c.loop-place.place c.loop-place.left c.loop-place.moved.items _ (omega arith) c.loop-place.invariant.moved
