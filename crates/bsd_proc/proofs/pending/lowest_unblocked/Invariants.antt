use Rattle.std.proofs.Common.{◌≡◌, take}
use Rattle.std.specs.Prelude.{fold, None}
use Rattle.bsd_proc.specs.Steps.{found_with}
use Rattle.bsd_proc.proofs.pending.lowest_unblocked.Given as goal

-- what is found of the signals so far
abbrev pub invariant-loop-signal : goal.invariant-loop-signal
invariant-loop-signal l = l.found ≡ fold (found_with l.mask) None (take l.signal-index l.signals)
