use Rattle.std.proofs.Common.{◌≡◌, ◌+◌, ◌∙◌, ap, max, min, drop, get_or, false}
use Rattle.std.specs.Option.{option_or}
use Rattle.vm_areas.specs.declared.runs.Area.{Area}
use Rattle.vm_areas.specs.PageMap.{end_of}
use Rattle.vm_areas.specs.Steps.{place_between, highest_place}
use Rattle.vm_areas.proofs.Rooms.{walk_step}
use Rattle.vm_areas.proofs.walks.place_among.Goals as goal

pub loop-area-preserved : goal.loop-area-preserved
loop-area-preserved c =
    let areas = c.args.areas.now in
    let pages = c.args.pages in
    let from = c.loop-area.from in
    let best = c.loop-area.best in
    let i = c.loop-area.area-index in
    let none : Area = record { first = 0; pages = 0; rights = record { read = false; write = false; execute = false } } in
    let froms : c.max-from.result ≡ max from (end_of (get_or areas i none)) = c.max-from.ensures ∙ ap (λ n. max from n) c.end.ensures in
    let bests : c.or-best.result ≡ option_or (place_between pages from (min (get_or areas i none).first 0x7fff00000)) best =
    c.or-best.ensures ∙ ap (λ o. option_or o best) (c.place_in.ensures ∙ ap (λ n. place_between pages from n) c.min.ensures) in
    (λ j. option_or (highest_place pages (froms j) (drop (i + 1) areas)) (bests j))
    ∙ walk_step pages from i areas best (highest_place pages 16 areas) none c.loop-area-test.true c.loop-area.invariant
