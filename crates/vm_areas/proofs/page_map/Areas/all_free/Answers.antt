use Rattle.std.proofs.Common.{◌≡◌, ◌+◌, ◌∙◌, ap, sym, List, not}
use Rattle.std.specs.List.{list_any}
use Rattle.std.proofs.lemmas.Bool.{not-true}
use Rattle.vm_areas.specs.declared.runs.Area.{Area}
use Rattle.vm_areas.specs.Steps.{meets}
use Rattle.vm_areas.proofs.Meeting.{none_met_when_free}
use Rattle.vm_areas.proofs.page_map.Areas.all_free.Goals as goal

pub returns : goal.returns
returns c =
    let first = c.args.first in
    let end = first + c.args.pages in
    let is : c.any_meets.result ≡ list_any (meets first end) c.args.self.now = c.any_meets.ensures ∙ ap (λ (xs : List Area). list_any (meets first end) xs) (c.deref.ensures.value ∙ c.self.view_is) in
    let both = none_met_when_free c.args.self.now first c.args.pages in
    (λ t. both.0 (sym is ∙ not-true c.any_meets.result t), λ free. ap not (is ∙ both.1 free))
