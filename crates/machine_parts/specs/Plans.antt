-- The objects of the shards that a range of pages lies in. The 16 shards are this project's own.
use Rattle.std.specs.Prelude.{ℕ, ◌+◌, List, map, min}
use Rattle.std.specs.List.{range_with_len}
use Rattle.places.specs.Places as place
use Rattle.machine_parts.specs.declared.object.Object.{Object}
use Rattle.machine_parts.specs.declared.object.Object.TheVariants as object

-- the shard of the page that stands so many behind the first
abbrev pub shard_behind : ℕ → ℕ → Object
shard_behind first i = object.Shard (place.shard (first + i))

-- the shards of so many pages from the first on, each once: those of the first 16 are all that there are
abbrev pub shards_of : ℕ → ℕ → List Object
shards_of first count = map (shard_behind first) (range_with_len 0 (min count 16))
