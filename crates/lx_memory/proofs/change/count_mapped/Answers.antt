use Rattle.std.proofs.Common.{◌-◌, refl, arith}
use Rattle.lx_memory.proofs.Changes.{count_step, count_end}
use Rattle.lx_memory.proofs.change.count_mapped.Goals as goal

pub loop-page-preserved : goal.loop-page-preserved
loop-page-preserved c =
    let known = c.loop-page.invariant in
    let least = c.in-Some.ensures in
    record {
      from = omega (arith, known.from, least.0);
      range = omega (arith, known.range, least.0, least.1);
      counted = count_step c.args.pages.now.pages c.args.first c.loop-page.at c.in-Some.page (c.loop-page.at - c.args.first) _ c.loop-page.mapped (omega (arith, known.from)) least.0 refl least.3 least.2 known.counted;
    }

pub returns : goal.returns
returns c =
    let known = c.loop-page.invariant in
    count_end c.args.pages.now.pages c.args.first c.loop-page.at (c.loop-page.at - c.args.first) c.loop-page.left c.args.count c.loop-page.mapped (omega (arith, known.from)) known.range c.in_default.ensures known.counted
