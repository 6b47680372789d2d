use Rattle.std.proofs.Common.{◌≡◌, ◌++◌, take, drop, map}
use Rattle.std.specs.Prelude.{◌==◌}
use Rattle.kqueue_core.specs.Changes.{activated_where}
use Rattle.kqueue_core.proofs.changes.activate_each.Given as goal

-- the interests so far are active where they are in the file
abbrev pub invariant-loop-at : goal.invariant-loop-at
invariant-loop-at l = l.watches ≡ map (activated_where (λ i. i == l.file) l.filter) (take l.at l.fn.watches) ++ drop l.at l.fn.watches
