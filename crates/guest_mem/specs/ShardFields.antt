-- What the fields of a shard say.
use Rattle.std.specs.Prelude.{◌<◌}
use Rattle.guest_mem.specs.declared.shard.Shard.TheInside.{Inside}
use Rattle.guest_mem.specs.Held.{Held}

abbrev pub held_by : Inside → Held
held_by inside = record { index = inside.index; pages = inside.pages.value.pages; marks = inside.marks; spare = inside.pages.value.spare }

-- it is one of the 16
abbrev pub IsIndexed : Inside → Type 0
IsIndexed inside = inside.index < 16
