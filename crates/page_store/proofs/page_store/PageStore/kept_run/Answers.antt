use Rattle.std.proofs.Common.{◌≡◌, ◌+◌, ap, ◌∙◌, arith}
use Rattle.std.specs.FinMap as finite
use Rattle.page_store.specs.Row.{entries}
use Rattle.page_store.specs.Kept.{pages_of}
use Rattle.page_store.proofs.Found.{page_missing, run_kept, run_ends}
use Rattle.page_store.proofs.page_store.PageStore.kept_run.Goals as goal

-- the page is not kept
pub returns-in_default : goal.returns-in_default
returns-in_default c =
    let none = page_missing c.self.inside.frames.items _ _ _ c.in_default.ensures.absent in
    let same : c.args.first + 0 ≡ c.args.first = omega arith in
    rw (← c.self.view_is) record { kept = λ p from below. absurd (omega arith); end = ap (finite.get (pages_of c.self.inside.frames.items (entries c.self.inside.kept))) same ∙ none }

pub returns : goal.returns
returns c =
    let frames = c.self.inside.frames.items in
    let items = entries c.self.inside.kept in
    let run = c.run_at.ensures in
    rw (← c.self.view_is) record {
      kept = run_kept frames items c.in-Ok.place c.args.first c.run_at.result c.self.invariant.rising run.most run.run;
      end = run_ends frames items c.in-Ok.place c.args.first c.run_at.result run.some c.self.invariant.rising run.most run.run run.end;
    }
