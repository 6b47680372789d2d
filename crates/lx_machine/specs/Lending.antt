-- What the places for threads lend, and how what is written to it comes back. This project's own.
use Rattle.std.specs.contracts.option.Option as option
use Rattle.std.specs.Borrow.{Fml, Lends, MutBor}
use Rattle.std.specs.Prelude.{List, Option, slice_set, ℕ}
use Rattle.lx_machine.specs.contracts.thread_table.Threads as table
use Rattle.lx_machine.specs.contracts.threads.LxThread as thread
use Rattle.lx_machine.specs.declared.threads.LxThread.{LxThread}

-- the places end with the last value behind r in place s
abbrev pub LendsPlace : MutBor (List (Option LxThread)) → ℕ → MutBor (Option LxThread) → Fml
LendsPlace ts s r = Lends table.the_row (option.the_row thread.the_row) ts r (slice_set ts.now s)
