-- Tids in use differ, and lie below the one that the next thread gets. Source: gettid(2), clone(2).
use Rattle.std.specs.Prelude.{List, Option, Some, map, ℕ, ◌<◌, ◌≡◌}
use Rattle.std.specs.Option.{option_map}
use Rattle.lx_machine.specs.Lists.{at_place}
use Rattle.lx_machine.specs.declared.state.LinuxState.{LinuxState}
use Rattle.lx_machine.specs.declared.threads.LxThread.{LxThread}

-- the tid of the thread in each place, where there is one
abbrev pub tids : List (Option LxThread) → List (Option ℕ)
tids threads = map (option_map (λ t. t.tid)) threads

-- `differ`: two threads in different places have different tids; `below`: each tid is less than the next thread's
pub record TidsDiffer (L : LinuxState) : Type 0 where
  pub differ : (i j tid : ℕ) → at_place (tids L.threads) i ≡ Some tid → at_place (tids L.threads) j ≡ Some tid → i ≡ j
  pub below : (i tid : ℕ) → at_place (tids L.threads) i ≡ Some tid → tid < L.next_tid
