use Rattle.std.proofs.Common.{◌≡◌, ◌≤◌, ◌^◌, ◌∙◌, ap, sym, subst, arith, ℕ, List, All, Option, MatchOption}
use Rattle.vm_areas.specs.declared.runs.Area.{Area}
use Rattle.vm_areas.specs.PageMap.{end_of, IsMaximal}
use Rattle.vm_areas.specs.Ranges.{HasNoRoom, IsHighestRoom}
use Rattle.vm_areas.specs.Steps.{highest_place}
use Rattle.vm_areas.proofs.Maximal.{ends_below}
use Rattle.vm_areas.proofs.Rooms.{highest_room}
use Rattle.vm_areas.proofs.page_map.Areas.find.Goals as goal

pub place_among-requires : goal.place_among-requires
place_among-requires c =
    subst (λ (xs : List Area). All (λ area. end_of area ≤ 2 ^ 53) xs) (sym c.deref.ensures.value) (ends_below c.self.inside.areas.items c.self.invariant.areas.maximal)

pub returns : goal.returns
returns c =
    let pages = c.args.pages in
    let areas = c.args.self.now in
    let is : c.place_among.result ≡ highest_place pages 16 areas = c.place_among.ensures ∙ ap (λ (xs : List Area). highest_place pages 16 xs) (c.deref.ensures.value ∙ c.self.view_is) in
    let maximal = subst (λ (xs : List Area). IsMaximal xs) c.self.view_is c.self.invariant.areas.maximal in
    subst (λ (o : Option ℕ). MatchOption o (HasNoRoom areas pages) (IsHighestRoom areas pages)) (sym is) (highest_room areas pages (omega (arith, c.if-pages-eq0.false)) maximal)
