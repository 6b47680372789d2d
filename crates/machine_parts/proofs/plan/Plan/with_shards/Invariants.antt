use Rattle.std.proofs.Common.{◌≡◌, ◌++◌, map}
use Rattle.std.specs.List.{range_with_len}
use Rattle.machine_parts.specs.Plans.{shard_behind}
use Rattle.machine_parts.proofs.plan.Plan.with_shards.Given as goal

-- the shards of the first so many pages stand behind what was there
abbrev pub invariant-loop-i : goal.invariant-loop-i
invariant-loop-i l = l.plan ≡ l.initial.plan ++ map (shard_behind l.range.first) (range_with_len 0 l.i)
