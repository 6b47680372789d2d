use Rattle.std.proofs.Common.{◌≡◌, true, slice_index_or, Some, ap, ◌∙◌, arith}
use Rattle.std.proofs.lemmas.Bool.Decides.{nat_tests}
use Rattle.umtx_queue.specs.declared.pi.PiWaiter.{PiWaiter}
use Rattle.umtx_queue.specs.PiLines.{pi_has_key}
use Rattle.umtx_queue.proofs.PiFacts.{first_has_key}
use Rattle.umtx_queue.proofs.pi.first_of.Goals as goal

abbrev nobody : PiWaiter
nobody = record { slot = 0; tid = 0; key = 0 }

pub returns-then-waiter-key : goal.returns-then-waiter-key
returns-then-waiter-key c =
    let hit : pi_has_key c.args.key (slice_index_or c.loop-left.left.now 0 nobody) ≡ true = grind (arith, nat_tests, c.if-waiter-key.true) in
    ap (λ b. Some ((slice_index_or c.loop-left.left.now 0 nobody).tid, b)) c.any_waits_at.ensures ∙ first_has_key c.args.key c.loop-left.left.now nobody (omega arith) hit ∙ c.loop-left.invariant
