use Rattle.std.proofs.Common.{◌∙◌, sym}
use Rattle.vm_areas.specs.Painted.{painted}
use Rattle.vm_areas.proofs.OneList.{one_list}
use Rattle.vm_areas.proofs.Painting.{painted-is}
use Rattle.vm_areas.proofs.laws.one_result_of_a_change.Goals as goal

pub returns : goal.returns
returns c old new first pages rights maximal fits is =
    let known = painted-is old first pages rights fits maximal in
    one_list new (painted old first pages rights) is.maximal known.maximal (λ page. is.at_page page ∙ sym (known.at_page page))
