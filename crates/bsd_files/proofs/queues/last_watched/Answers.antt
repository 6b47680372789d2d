use Rattle.std.proofs.Common.{◌≡◌, arith, max, rules, sym}
use Rattle.bsd_files.proofs.Arming.{next_below}
use Rattle.bsd_files.proofs.queues.last_watched.Goals as goal

pub loop-place-preserved : goal.loop-place-preserved
loop-place-preserved c =
    let most : c.max-last.result ≡ max c.loop-place.last c.last_watched_in.result = search rules in
    next_below c.args.places.now c.loop-place.place-index c.loop-place.last c.last_watched_in.result c.max-last.result c.place-item.result most (omega (arith, c.loop-place-test.true)) c.loop-place.invariant (sym c.place-item.is) c.last_watched_in.ensures
