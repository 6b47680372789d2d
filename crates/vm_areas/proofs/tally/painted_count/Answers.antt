use Rattle.std.proofs.Common.{◌∙◌, ap, fold, length, refl, []}
use Rattle.vm_areas.specs.declared.tally.Tally.{Tally}
use Rattle.vm_areas.specs.Painted.{range_of}
use Rattle.vm_areas.specs.Steps.{with_part, with_piece}
use Rattle.vm_areas.proofs.Joining.{painted-fold}
use Rattle.vm_areas.proofs.tally.painted_count.Goals as goal

pub returns : goal.returns
returns c =
    let areas = c.args.areas.now in
    let first = c.args.first in
    let below = fold (with_part 0 first) [] areas in
    let with_range = fold with_piece below (range_of first c.args.pages c.args.rights) in
    let tally = c.count_parts-tally-2.ensures.tally with_range (c.count_range-tally.ensures.tally below (c.count_parts-tally.ensures.tally [] refl)) in
    ap (λ (t : Tally). t.count) tally ∙ ap length (painted-fold areas first c.args.pages c.args.rights)
