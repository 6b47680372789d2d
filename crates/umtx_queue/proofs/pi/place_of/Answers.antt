use Rattle.std.proofs.Common.{◌≡◌, true, slice_index_or, ap, ◌∙◌, arith}
use Rattle.std.proofs.lemmas.Bool.Decides.{nat_tests}
use Rattle.umtx_queue.specs.declared.pi.PiWaiter.{PiWaiter}
use Rattle.umtx_queue.specs.PiLines.{pi_has_key}
use Rattle.umtx_queue.proofs.Picking.{first_at, left_at, only_last, same_element}
use Rattle.umtx_queue.proofs.pi.place_of.Goals as goal

abbrev nobody : PiWaiter
nobody = record { slot = 0; tid = 0; key = 0 }

pub returns-else-waiters-at-clause-left : goal.returns-else-waiters-at-clause-left
returns-else-waiters-at-clause-left c =
    let hit : pi_has_key c.args.key (slice_index_or c.args.waiters.now c.loop-at.at nobody) ≡ true = grind (arith, nat_tests, c.if-waiters-at.false) in
    left_at (pi_has_key c.args.key) c.args.waiters.now c.loop-at.at nobody c.loop-at.invariant.below c.loop-at.invariant.none hit

pub returns-else-waiters-at-clause-first : goal.returns-else-waiters-at-clause-first
returns-else-waiters-at-clause-first c d =
    let hit : pi_has_key c.args.key (slice_index_or c.args.waiters.now c.loop-at.at nobody) ≡ true = grind (arith, nat_tests, c.if-waiters-at.false) in
    first_at (pi_has_key c.args.key) c.args.waiters.now c.loop-at.at d c.loop-at.invariant.below c.loop-at.invariant.none (ap (pi_has_key c.args.key) (same_element c.args.waiters.now c.loop-at.at d nobody c.loop-at.invariant.below) ∙ hit)

pub returns-after-loop-at-clause-left : goal.returns-after-loop-at-clause-left
returns-after-loop-at-clause-left c =
    let hit = only_last (pi_has_key c.args.key) c.args.waiters.now c.loop-at.at nobody (omega arith) c.loop-at.invariant.none c.requires in
    left_at (pi_has_key c.args.key) c.args.waiters.now c.loop-at.at nobody c.loop-at.invariant.below c.loop-at.invariant.none hit

pub returns-after-loop-at-clause-first : goal.returns-after-loop-at-clause-first
returns-after-loop-at-clause-first c d =
    let hit = only_last (pi_has_key c.args.key) c.args.waiters.now c.loop-at.at d (omega arith) c.loop-at.invariant.none c.requires in
    first_at (pi_has_key c.args.key) c.args.waiters.now c.loop-at.at d c.loop-at.invariant.below c.loop-at.invariant.none hit
