use Rattle.page_store.specs.Row.{entries, IsRun}
use Rattle.page_store.proofs.kept_row.KeptRow.run_at.Given as goal

abbrev pub invariant-loop-i : goal.invariant-loop-i
invariant-loop-i l = IsRun (entries l.self) l.place l.first l.i
