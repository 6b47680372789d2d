use Rattle.std.proofs.Common.{◌-◌, refl, arith}
use Rattle.lx_memory.specs.Space.{becomes}
use Rattle.lx_memory.proofs.OnEach.{up_to}
use Rattle.lx_memory.proofs.Changes.{becomes-none}
use Rattle.lx_memory.proofs.change.change_each.Goals as goal

pub loop-page-preserved : goal.loop-page-preserved
loop-page-preserved c =
    let old = c.loop-page.invariant in
    let least = c.in-Some.ensures in
    record {
      from = omega (arith, old.from, least.0);
      range = omega (arith, old.range, least.0, least.1);
      each = up_to (becomes c.args.change) c.args.pages.now.pages c.args.first (c.loop-page.at - c.args.first) _ c.in-Some.page c.loop-page.pages.pages _ (becomes-none c.args.change) old.each (omega (arith, old.from, least.0)) refl (λ q from lt. least.3 q (omega (arith, old.from)) lt) c.change_page.ensures;
    }
