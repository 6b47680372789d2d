-- What is lent, and how what is written to it comes back. This project's own.
use Rattle.std.specs.Prelude.{List, length}
use Rattle.std.specs.Borrow.{Lends, MutBor, Fml, RattleType, Array}
use Rattle.std.specs.List.{refill}
use Rattle.bsd_thread.specs.contracts.bounded.Bounded.{the_row as bounded-row}
use Rattle.bsd_thread.specs.contracts.thread.Thread.{the_row as thread-row}
use Rattle.bsd_thread.specs.contracts.thread.ThreadState.{the_row as state-row}
use Rattle.bsd_thread.specs.declared.thread.ThreadState.{ThreadState}

-- the list ends with the values that are written behind r, as many as it had
abbrev pub LendsItems : (T N : RattleType) → MutBor (List T.Denot) → MutBor (List T.Denot) → Fml
LendsItems T N s r = Lends (bounded-row T N) (Array T 0) s r (refill (length s.now) s.now)

-- the thread ends as what is written behind r
abbrev pub LendsState : MutBor ThreadState → MutBor ThreadState → Fml
LendsState s r = Lends thread-row state-row s r (λ state. state)
