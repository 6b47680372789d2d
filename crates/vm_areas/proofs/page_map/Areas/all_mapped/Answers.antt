use Rattle.std.proofs.Common.{◌≡◌, ◌+◌, ◌∙◌, ap, sym, subst, arith, fold, List, All, ◌≤◌, ◌^◌, leb-true, le-leb}
use Rattle.vm_areas.specs.declared.runs.Area.{Area}
use Rattle.vm_areas.specs.PageMap.{IsMaximal, end_of}
use Rattle.vm_areas.specs.Steps.{step_over}
use Rattle.vm_areas.proofs.Maximal.{ends_below}
use Rattle.vm_areas.proofs.Reaching.{reached_when_mapped}
use Rattle.vm_areas.proofs.page_map.Areas.all_mapped.Goals as goal

pub reached-requires : goal.reached-requires
reached-requires c =
    subst (λ (xs : List Area). All (λ area. end_of area ≤ 2 ^ 53) xs) (sym c.deref.ensures.value) (ends_below c.self.inside.areas.items c.self.invariant.areas.maximal)

pub returns : goal.returns
returns c =
    let first = c.args.first in
    let pages = c.args.pages in
    let is : c.reached.result ≡ fold step_over first c.args.self.now = c.reached.ensures ∙ ap (λ (xs : List Area). fold step_over first xs) (c.deref.ensures.value ∙ c.self.view_is) in
    let maximal = subst (λ (xs : List Area). IsMaximal xs) c.self.view_is c.self.invariant.areas.maximal in
    let both = reached_when_mapped c.args.self.now first pages maximal in
    (λ t. both.0 (omega (arith, leb-true (first + pages) c.reached.result t, is)), λ mapped. le-leb (first + pages) c.reached.result (omega (arith, both.1 mapped, is)))
