use Rattle.std.proofs.Common.{◌≡◌, ◌+◌, ◌-◌, ◌/◌, ◌<◌, ap, arith, inl, inr, slice_index_or}
use Rattle.std.proofs.lemmas.Bool.{cases_lt}
use Rattle.page_store.specs.Row.{entries}
use Rattle.page_store.specs.Kept.{number_of}
use Rattle.page_store.proofs.kept_row.KeptRow.place_of.Goals as goal

-- all up to the middle are smaller
pub loop-from-preserved-then-there-page-2 : goal.loop-from-preserved-then-there-page-2
loop-from-preserved-then-there-page-2 c =
    let known = c.loop-from.invariant in
    let items = entries c.args.self.now in
    let middle = c.loop-from.from + (c.loop-from.to - c.loop-from.from) / 2 in
    record {
      order = omega arith;
      most = known.most;
      smaller = λ j d lt. elim (cases_lt j middle) as (λ _. number_of (slice_index_or items j d) < c.args.page) [
        | inl below ↦ omega (arith, c.requires.rising j middle d below (omega (arith, known.most)), ap number_of (c.at-there.ensures d))
        | inr from ↦ (let same : j ≡ middle = omega arith in rw same (omega (arith, ap number_of (c.at-there.ensures d))))
      ];
      greater = known.greater;
    }
