use Rattle.std.proofs.Common.{◌-◌, ℕ, ◌<◌, ◌≤◌, length, slice_index_or}
use Rattle.page_store.specs.declared.kept_row.Kept.{Kept}
use Rattle.page_store.specs.Row.{entries}
use Rattle.page_store.specs.Kept.{number_of}
use Rattle.page_store.proofs.kept_row.KeptRow.place_of.Given as goal

-- smaller numbers stand below `from`, greater ones from `to` on
abbrev pub invariant-loop-from : goal.invariant-loop-from
invariant-loop-from l = record {
  order : l.from ≤ l.to;
  most : l.to ≤ length (entries l.self);
  smaller : (j : ℕ) (d : Kept) → j < l.from → number_of (slice_index_or (entries l.self) j d) < l.fn.page;
  greater : (j : ℕ) (d : Kept) → l.to ≤ j → j < length (entries l.self) → l.fn.page < number_of (slice_index_or (entries l.self) j d);
}

abbrev pub decreases-loop-from : goal.decreases-loop-from
decreases-loop-from l = l.to - l.from
