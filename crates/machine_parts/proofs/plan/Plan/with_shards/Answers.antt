use Rattle.std.proofs.Common.{◌≡◌, ℕ, ◌+◌, ◌≤◌, ◌++◌, ◌∷◌, [], length, map, append_assoc, sym, ap, ◌∙◌, arith}
use Rattle.std.proofs.Math.Nat.{min-le_right}
use Rattle.std.specs.List.{range_with_len}
use Rattle.std.proofs.lemmas.List.{length-append}
use Rattle.std.proofs.lemmas.List.FromFn.{length-map-range_with_len, map-range_with_len_more}
use Rattle.machine_parts.specs.declared.object.Object.TheVariants as object
use Rattle.machine_parts.specs.Plans.{shard_behind}
use Rattle.machine_parts.proofs.plan.Plan.with_shards.Goals as goal

pub add-requires : goal.add-requires
add-requires c =
    let behind = map (shard_behind c.args.range.first) (range_with_len 0 c.loop-i.i) in
    let whole = ap length c.loop-i.invariant in
    let both = length-append c.args.self behind in
    let some = length-map-range_with_len (shard_behind c.args.range.first) 0 c.loop-i.i in
    let most = min-le_right c.args.range.count 16 in
    let end = c.shard_count-i-end.ensures in
    let test = c.loop-i-test.true in
    let room = c.requires in
    omega (arith, whole, both, some, most, end, test, room)

pub loop-i-preserved : goal.loop-i-preserved
loop-i-preserved c =
    let f = shard_behind c.args.range.first in
    let more = map-range_with_len_more f 0 c.loop-i.i c.loop-i.i (omega arith) in
    let one = ap (λ k. object.Shard k ∷ []) c.shard_at.ensures in
    c.add.ensures ∙ ap (λ z. c.loop-i.plan ++ z) one ∙ ap (λ z. z ++ (f c.loop-i.i ∷ [])) c.loop-i.invariant
    ∙ append_assoc c.args.self (map f (range_with_len 0 c.loop-i.i)) (f c.loop-i.i ∷ []) ∙ ap (λ z. c.args.self ++ z) (sym more)
