-- The clock never falls. Source: clock_gettime(2), CLOCK_MONOTONIC.
use Rattle.std.specs.Prelude.{List, Some, ◌≡◌, ◌≤◌}
use Rattle.lx_machine.specs.Step.{LRun, LStep}
use Rattle.lx_machine.specs.declared.label.Label.{Label}
use Rattle.lx_machine.specs.declared.state.LinuxState.{LinuxState}

-- after a step the clock is what it was, or later
abbrev pub ClockNeverFalls : Type 0
ClockNeverFalls = (L next : LinuxState) (l : Label) → LStep L l ≡ Some next → L.clock ≤ next.clock

-- and so it is after a run
abbrev pub ClockNeverFallsInARun : Type 0
ClockNeverFallsInARun = (L last : LinuxState) (ls : List Label) → LRun L ls ≡ Some last → L.clock ≤ last.clock
