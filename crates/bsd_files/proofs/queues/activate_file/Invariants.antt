use Rattle.std.proofs.Common.{◌≡◌, ◌++◌, take, drop, map}
use Rattle.std.specs.Prelude.{◌==◌}
use Rattle.std.specs.Option.{option_map}
use Rattle.bsd_files.specs.Ops.{active_after}
use Rattle.bsd_files.proofs.queues.activate_file.Given as goal

-- the places so far are changed, and those to come are as they were
abbrev pub invariant-loop-place : goal.invariant-loop-place
invariant-loop-place l = l.places ≡ map (option_map (active_after (λ i. i == l.file) l.filter)) (take l.place-index l.fn.places) ++ drop l.place-index l.fn.places
