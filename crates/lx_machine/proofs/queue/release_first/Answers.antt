use Rattle.std.proofs.Common.{◌≡◌, ◌<◌, ◌&&◌, true, false, nat_lt, length, slice_index_or, sym, ap, ◌∙◌, arith}
use Rattle.lx_machine.specs.declared.threads.LxWaiter.{LxWaiter}
use Rattle.lx_machine.specs.Queue.{matches, without_first}
use Rattle.lx_machine.proofs.Waiters.{lengths, length_kept, picked_all, picked_hit, picked_miss}
use Rattle.lx_machine.proofs.queue.release_first.Goals as goal
use Rattle.lx_machine.proofs.queue.release_first.Goals.{then-picks, else-picks}

nobody : LxWaiter
nobody = record { tid = 0; place = 0; many = false; address = 0; bits = 0 }

pub loop-place-preserved : goal.loop-place-preserved
unfolding nobody
loop-place-preserved c =
    elim c.if-picks.branch [
      | then-picks w ↦
          let passes : (nat_lt 0 c.loop-place.left && matches c.args.at c.args.bits (slice_index_or c.loop-place.waiters c.loop-place.place nobody)) ≡ true = sym (c.picks.ensures ∙ ap (λ b. nat_lt 0 c.loop-place.left && b) c.matches.ensures) ∙ w.if-picks.true in
          let here : c.loop-place.place < length c.loop-place.waiters = omega arith in
          let there : c.loop-place.place < length c.args.waiters.now = omega arith in
          rw (w.waiters-is, w.kept-is, w.left-is) (picked_hit c.args.most (matches c.args.at c.args.bits) c.args.waiters.now c.loop-place.place c.loop-place.kept c.loop-place.left c.loop-place.waiters nobody c.loop-place.invariant here there passes)
      | else-picks w ↦
          let passes : (nat_lt 0 c.loop-place.left && matches c.args.at c.args.bits (slice_index_or c.loop-place.waiters c.loop-place.place nobody)) ≡ false = sym (c.picks.ensures ∙ ap (λ b. nat_lt 0 c.loop-place.left && b) c.matches.ensures) ∙ w.if-picks.false in
          let here : c.loop-place.place < length c.loop-place.waiters = omega arith in
          let there : c.loop-place.place < length c.args.waiters.now = omega arith in
          rw (w.waiters-is, w.kept-is, w.left-is) (picked_miss c.args.most (matches c.args.at c.args.bits) c.args.waiters.now c.loop-place.place c.loop-place.kept c.loop-place.left c.loop-place.waiters nobody c.loop-place.invariant here there passes)
    ]

pub returns-clause-count : goal.returns-clause-count
returns-clause-count c =
    let all = picked_all c.args.most (matches c.args.at c.args.bits) c.args.waiters.now c.loop-place.place c.loop-place.kept c.loop-place.left c.loop-place.waiters c.loop-place.invariant (omega arith) in
    let within = c.loop-place.invariant.within in
    let kept = length_kept c.loop-place.kept c.loop-place.waiters (without_first c.args.most (matches c.args.at c.args.bits) c.args.waiters.now) (omega arith) all in
    omega (arith, kept, lengths c.args.most (matches c.args.at c.args.bits) c.args.waiters.now)

pub returns-clause-left : goal.returns-clause-left
returns-clause-left c = picked_all c.args.most (matches c.args.at c.args.bits) c.args.waiters.now c.loop-place.place c.loop-place.kept c.loop-place.left c.loop-place.waiters c.loop-place.invariant (omega arith)
