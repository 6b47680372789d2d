use Rattle.std.proofs.Common.{◌≡◌, ◌+◌, ◌∙◌, ap, sym, subst, List}
use Rattle.std.specs.List.{list_any}
use Rattle.vm_areas.specs.declared.runs.Area.{Area}
use Rattle.vm_areas.specs.PageMap.{IsMaximal}
use Rattle.vm_areas.specs.Steps.{meets_code}
use Rattle.vm_areas.proofs.Meeting.{code_met}
use Rattle.vm_areas.proofs.page_map.Areas.any_executable.Goals as goal

pub returns : goal.returns
returns c =
    let first = c.args.first in
    let end = first + c.args.pages in
    let is : c.any_meets_code.result ≡ list_any (meets_code first end) c.args.self.now = c.any_meets_code.ensures ∙ ap (λ (xs : List Area). list_any (meets_code first end) xs) (c.deref.ensures.value ∙ c.self.view_is) in
    let maximal = subst (λ (xs : List Area). IsMaximal xs) c.self.view_is c.self.invariant.areas.maximal in
    let both = code_met c.args.self.now first c.args.pages maximal in
    (λ t. both.0 (sym is ∙ t), λ some. is ∙ both.1 some)
