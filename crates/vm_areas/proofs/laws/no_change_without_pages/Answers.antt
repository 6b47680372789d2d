use Rattle.std.proofs.Common.{◌+◌, ◌^◌, ◌≤◌, ◌∙◌, ap, arith, refl, Bool, if◌then◌else◌}
use Rattle.vm_areas.specs.PageMap.{rights_at}
use Rattle.vm_areas.specs.Painted.{painted}
use Rattle.vm_areas.proofs.OneList.{one_list}
use Rattle.vm_areas.proofs.Painting.{painted-is, within-empty}
use Rattle.vm_areas.proofs.laws.no_change_without_pages.Goals as goal

pub returns : goal.returns
returns c areas first rights maximal fits =
    let in_space : first + 0 ≤ 2 ^ 53 = omega arith in
    let known = painted-is areas first 0 rights in_space maximal in
    one_list (painted areas first 0 rights) areas known.maximal maximal
    (λ page. known.at_page page ∙ ap (λ (b : Bool). if b then rights else rights_at areas page) (within-empty first 0 page refl))
