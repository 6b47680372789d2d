use Rattle.std.proofs.Common.{◌<◌, length, arith, false}
use Rattle.std.specs.Prelude.{option_map}
use Rattle.std.proofs.lemmas.List.{get_or_default}
use Rattle.std.proofs.lemmas.List.Edits.{map_over_more}
use Rattle.bsd_proc.specs.Slots.{with_asks}
use Rattle.bsd_proc.proofs.process.end_asks.Goals as goal

pub loop-place-preserved : goal.loop-place-preserved
loop-place-preserved c =
    let within : c.loop-place.place-index < length c.loop-place.slots = omega (arith, c.loop-place.auto.slots, c.loop-place-test.true) in
    rw c.set_asks.ensures (map_over_more (option_map (with_asks false)) c.args.slots.now c.loop-place.slots c.loop-place.place-index _ c.loop-place-test.true c.loop-place.invariant (get_or_default _ _ _ _ within))
