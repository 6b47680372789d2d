use Rattle.std.proofs.Common.{◌≡◌, drop}
use Rattle.umtx_queue.specs.Waiters.{who_at}
use Rattle.umtx_queue.specs.Kept.{note_at}
use Rattle.umtx_queue.proofs.picks.told_of.Given as goal

-- the note is not among those before
abbrev pub invariant-loop-noted : goal.invariant-loop-noted
invariant-loop-noted l = note_at (who_at l.slot l.place) (drop l.noted-index l.notes) ≡ note_at (who_at l.slot l.place) l.notes
