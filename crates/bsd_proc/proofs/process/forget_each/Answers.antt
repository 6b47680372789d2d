use Rattle.std.proofs.Common.{◌<◌, length, arith}
use Rattle.std.specs.Prelude.{option_map}
use Rattle.std.proofs.lemmas.List.{get_or_default}
use Rattle.std.proofs.lemmas.List.Edits.{map_over_more}
use Rattle.bsd_proc.specs.Actions.{without_sig}
use Rattle.bsd_proc.proofs.process.forget_each.Goals as goal

pub loop-place-preserved : goal.loop-place-preserved
loop-place-preserved c =
    let within : c.loop-place.place-index < length c.loop-place.slots = omega (arith, c.loop-place.auto.slots, c.loop-place-test.true) in
    rw c.forget.ensures (map_over_more (option_map (without_sig c.args.sig)) c.args.slots.now c.loop-place.slots c.loop-place.place-index _ c.loop-place-test.true c.loop-place.invariant (get_or_default _ _ _ _ within))
