use Rattle.std.proofs.Common.{◌-◌, ◌≤◌, vec_len}
use Rattle.page_store.specs.Row.{IsMoved}
use Rattle.page_store.proofs.kept_row.KeptRow.move_border.Given as goal

abbrev pub invariant-loop-self : goal.invariant-loop-self
invariant-loop-self l = record {
  moved : IsMoved l.initial.self l.self;
}

abbrev pub decreases-loop-self : goal.decreases-loop-self
decreases-loop-self l = vec_len l.self.below

abbrev pub invariant-loop-self-2 : goal.invariant-loop-self-2
invariant-loop-self-2 l = record {
  moved : IsMoved l.fn.self l.self;
  below : vec_len l.self.below ≤ l.place;
}

abbrev pub decreases-loop-self-2 : goal.decreases-loop-self-2
decreases-loop-self-2 l = l.place - vec_len l.self.below
