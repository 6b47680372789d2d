use Rattle.std.proofs.Common.{◌+◌, arith}
use Rattle.lx_memory.proofs.Highest.{past_page, past_mapped, to_high}
use Rattle.lx_memory.proofs.gaps.highest_free.Goals as goal

-- no pages fit up to the highest page
pub returns-then-count-eq0 : goal.returns-then-count-eq0
returns-then-count-eq0 c = (
  record { from = omega arith; below = omega arith; free = λ p from below. absurd (omega arith) },
  λ other above gap. omega (arith, gap.below),
)

pub loop-page-preserved : goal.loop-page-preserved
loop-page-preserved c =
    let known = c.loop-page.invariant in
    let least = c.in-Some.ensures in
    let pages = c.args.pages.now.pages in
    let page = c.in-Some.page in
    let best = past_page pages c.args.count c.args.low c.args.high c.loop-page.at page c.loop-page.found _ known.from least.0 (omega (arith, known.to, least.1)) least.3 least.2 c.higher-found.ensures known.best in
    record {
      from = omega (arith, known.from, known.to, least.0, least.1);
      to = omega (arith, known.to, least.1);
      best = past_mapped pages c.args.count c.args.low c.args.high (page + 1) _ _ (omega arith) (λ p from below. c.kept_run-run.ensures.kept p from (omega arith)) best;
    }

pub returns : goal.returns
returns c =
    let known = c.loop-page.invariant in
    to_high c.args.pages.now.pages c.args.count c.args.low c.args.high c.loop-page.at c.loop-page.found _ known.from known.to (λ p from lt. c.in_default.ensures p from (omega (arith, known.to))) c.higher.ensures known.best
