use Rattle.std.proofs.Common.{◌≡◌, map}
use Rattle.std.specs.Option.{option_map}
use Rattle.open_files.specs.Kinds.{kind_out}
use Rattle.bsd_files.proofs.Arming.{so_far}
use Rattle.bsd_files.specs.Ops.{active_after}
use Rattle.bsd_files.proofs.queues.activate_each.Given as goal

-- active are the knotes of the files so far that are this
abbrev pub invariant-loop-at : goal.invariant-loop-at
invariant-loop-at l = l.places ≡ map (option_map (active_after (so_far (kind_out l.kind) l.files l.at) l.filter)) l.fn.places
