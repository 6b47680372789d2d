use Rattle.std.proofs.Common.{◌<◌, length, arith}
use Rattle.std.proofs.lemmas.List.Edits.{map_over_more}
use Rattle.guest_mem.specs.MarkRules.{mark_after}
use Rattle.guest_mem.proofs.marks.end_between.Goals as goal

pub loop-i-preserved : goal.loop-i-preserved
loop-i-preserved c =
    let old = c.args.marks.now.items in
    let now = c.loop-i.marks.items in
    let known = c.loop-i.invariant in
    let within : c.loop-i.i < length old = omega (arith, c.args.marks.now.ok.0) in
    record {
      items = rw c.mark_left-left.ensures (map_over_more (mark_after c.args.first c.args.last) old now c.loop-i.i c.index.result.now within known.items c.index.ensures);
      len = known.len;
    }
