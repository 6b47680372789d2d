use Rattle.std.proofs.Common.{◌≡◌, ◌++◌, take, drop, map}
use Rattle.kqueue_core.specs.Watches.{changed_watch}
use Rattle.kqueue_core.proofs.changes.change_each.Given as goal

-- the interests so far are changed
abbrev pub invariant-loop-at : goal.invariant-loop-at
invariant-loop-at l = l.watches ≡ map (changed_watch l.change.ident.file l.change.ident.fd l.change.filter l.change.flags.bits l.change.asked l.change.user l.change.ready) (take l.at l.fn.watches) ++ drop l.at l.fn.watches
