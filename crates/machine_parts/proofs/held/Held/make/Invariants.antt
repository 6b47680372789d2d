use Rattle.std.proofs.Common.{◌≡◌, ◌≤◌, replicate, None}
use Rattle.std.specs.Prelude.{vec_capacity}
use Rattle.machine_parts.proofs.held.Held.make.Given as goal

-- nothing is held at so many numbers, and there is room for all
abbrev pub invariant-loop : goal.invariant-loop
invariant-loop l = (l.parts.items ≡ replicate l.counter None) × (210 ≤ vec_capacity l.parts)
