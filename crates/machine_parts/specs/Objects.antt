-- The objects of the machine, and their numbers. That there are 128 slots for threads, 16 shards of memory and 64 chains, and this
-- order, are this project's own.
use Rattle.std.specs.Prelude.{ℕ, ◌+◌, Bool, true, nat_lt}
use Rattle.machine_parts.specs.declared.object.Object.{Object}
use Rattle.machine_parts.specs.declared.object.Object.TheVariants as object

-- the object is one of the 210 that there are
abbrev pub exists : Object → Bool
exists (object.Thread slot) = nat_lt slot 128
exists (object.Shard shard) = nat_lt shard 16
exists (object.Chain chain) = nat_lt chain 64
exists object.Process = true
exists object.Files = true

-- its number: threads have 0 to 127, shards 128 to 143, chains 144 to 207, the process 208, the files 209
abbrev pub number : Object → ℕ
number (object.Thread slot) = slot
number (object.Shard shard) = 128 + shard
number (object.Chain chain) = 144 + chain
number object.Process = 208
number object.Files = 209
