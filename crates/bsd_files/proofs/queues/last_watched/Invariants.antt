use Rattle.std.proofs.Common.{◌≡◌, take, true}
use Rattle.std.specs.List.{list_all}
use Rattle.bsd_files.specs.Ops.{is_below}
use Rattle.bsd_files.proofs.queues.last_watched.Given as goal

-- no queue so far has an interest in an open file past the number
abbrev pub invariant-loop-place : goal.invariant-loop-place
invariant-loop-place l = list_all (is_below l.last) (take l.place-index l.places) ≡ true
