use Rattle.std.proofs.Common.{◌<◌, length, arith}
use Rattle.std.specs.Prelude.{◌==◌}
use Rattle.std.specs.Option.{option_map}
use Rattle.std.proofs.lemmas.List.{get_or_default}
use Rattle.std.proofs.lemmas.List.Edits.{map_over_more}
use Rattle.bsd_files.specs.Ops.{active_after}
use Rattle.bsd_files.proofs.queues.activate_file.Goals as goal

pub loop-place-preserved : goal.loop-place-preserved
loop-place-preserved c =
    let within : c.loop-place.place-index < length c.loop-place.places = omega (arith, c.loop-place.auto.places, c.loop-place-test.true) in
    rw c.activate_in.ensures (map_over_more (option_map (active_after (λ i. i == c.args.file) c.args.filter)) c.args.places.now c.loop-place.places c.loop-place.place-index _ c.loop-place-test.true c.loop-place.invariant (get_or_default _ _ _ _ within))
