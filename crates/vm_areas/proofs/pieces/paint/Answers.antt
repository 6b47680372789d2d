use Rattle.std.proofs.Common.{◌∙◌, ap, fold, ◌+◌, ◌^◌}
use Rattle.vm_areas.specs.Painted.{range_of}
use Rattle.vm_areas.specs.Steps.{with_part, with_piece}
use Rattle.vm_areas.proofs.Joining.{painted-fold}
use Rattle.vm_areas.proofs.pieces.paint.Goals as goal

pub returns-clause-items : goal.returns-clause-items
returns-clause-items c =
    let areas = c.args.areas.now in
    let first = c.args.first in
    let pages = c.args.pages in
    let below = c.add_parts.ensures.items ∙ ap (λ r. fold (with_part 0 first) r areas) c.clear.ensures.items in
    let with_range = c.add_range.ensures.items ∙ ap (λ r. fold with_piece r (range_of first pages c.args.rights)) below in
    c.add_parts-2.ensures.items
    ∙ ap (λ r. fold (with_part (first + pages) (2 ^ 53)) r areas) with_range
    ∙ painted-fold areas first pages c.args.rights
