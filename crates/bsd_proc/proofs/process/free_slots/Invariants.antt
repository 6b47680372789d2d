use Rattle.std.proofs.Common.{◌≡◌, replicate, None}
use Rattle.bsd_proc.proofs.process.free_slots.Given as goal

-- so many slots, all free
abbrev pub invariant-loop : goal.invariant-loop
invariant-loop l = l.slots.items ≡ replicate l.counter None
