use Rattle.std.proofs.Common.{◌≡◌, ◌≤◌, replicate, None}
use Rattle.std.specs.Prelude.{vec_capacity}
use Rattle.open_files.proofs.rooms.free_places.Given as goal

-- so many places, all free, and room for 64
abbrev pub invariant-loop : goal.invariant-loop
invariant-loop l = (l.places.items ≡ replicate l.counter None) × (64 ≤ vec_capacity l.places)
