use Rattle.std.proofs.Common.{◌≡◌, ◌+◌, ◌-◌, refl, ap, arith}
use Rattle.std.specs.FinMap as finite
use Rattle.lx_memory.specs.Ranges.{anew}
use Rattle.lx_memory.specs.Space.{one_if_free}
use Rattle.lx_memory.proofs.OnEach.{one_more, behind_range}
use Rattle.lx_memory.proofs.Changes.{free_count-step}
use Rattle.lx_memory.proofs.change.map_each.Goals as goal

pub loop-i-preserved : goal.loop-i-preserved
loop-i-preserved c =
    let old = c.args.pages.now.pages in
    let first = c.args.first in
    let i = c.loop-i.i in
    let count = c.args.count in
    let known = c.loop-i.invariant in
    let step = free_count-step old (first + i) (first + (i + 1)) (count - i) (count - (i + 1)) (omega arith) (omega arith) in
    let same : finite.get c.loop-i.pages.pages (first + i) ≡ finite.get old (first + i) = behind_range (anew c.args.rights) old first i c.loop-i.pages.pages (first + i) known.each (omega arith) in
    record {
      each = one_more (anew c.args.rights) old first i (i + 1) (first + i) c.loop-i.pages.pages _ known.each refl refl c.map_page.ensures.after;
      room = omega (arith, step, known.room, c.map_page.ensures.spare, ap one_if_free same);
    }
