use Rattle.std.proofs.Common.{◌≡◌, ◌+◌, ◌-◌, ◌%◌, ◌<◌, arith}
use Rattle.std.proofs.lemmas.Bool.Decides.{nat_tests}
use Rattle.places.proofs.page_range.PageRange.has_page_in.Goals as goal

-- the first page of the shard from the first page on
pub returns : goal.returns
returns c =
    let first = c.args.self.first in
    let count = c.args.self.count in
    let until = c.from.result in
    let here : until ≡ (c.args.shard + 16 - first % 16) % 16 = c.from.ensures in (
      λ lt. (
          let below : until < count = grind (arith, nat_tests, lt) in
          let most : c.args.shard < 16 = c.requires in
          record { number = first + until; from = omega arith; below = omega arith; in_shard = omega (arith, here, most) }
          ),
      λ has. (
          let most : c.args.shard < 16 = c.requires in
          let below : until < count = omega (arith, here, most, has.from, has.below, has.in_shard) in
          grind (arith, nat_tests)
          ),
    )
