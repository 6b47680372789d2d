use Rattle.std.proofs.Common.{◌<◌, length, arith}
use Rattle.std.specs.Option.{option_map}
use Rattle.std.proofs.lemmas.List.{get_or_default}
use Rattle.std.proofs.lemmas.List.Edits.{map_over_more}
use Rattle.bsd_files.specs.Ops.{left_by}
use Rattle.bsd_files.proofs.queues.drop_file_each.Goals as goal

pub loop-place-preserved : goal.loop-place-preserved
loop-place-preserved c =
    let within : c.loop-place.place-index < length c.loop-place.places = omega (arith, c.loop-place.auto.places, c.loop-place-test.true) in
    rw c.drop_file_in.ensures (map_over_more (option_map (left_by c.args.file)) c.args.places.now c.loop-place.places c.loop-place.place-index _ c.loop-place-test.true c.loop-place.invariant (get_or_default _ _ _ _ within))
