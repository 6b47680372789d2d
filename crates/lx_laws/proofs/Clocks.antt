-- The clock never falls.
use Rattle.std.proofs.Common.{◌≤◌, sym, le_of_eq, le_refl, le_trans}
use Rattle.lx_machine.specs.declared.label.Label.{Label}
use Rattle.lx_machine.specs.declared.label.Label.TheVariants as label
use Rattle.lx_machine.specs.declared.state.LinuxState.{LinuxState}
use Rattle.lx_laws.specs.Clock.{ClockNeverFalls, ClockNeverFallsInARun}
use Rattle.lx_laws.proofs.Frame.{Common, common}
use Rattle.lx_laws.proofs.Runs.{over_run}

later : (L next : LinuxState) (l : Label) → Common L l next → L.clock ≤ next.clock
later L next (label.Time t) h = h.0
later L next (label.Drain which n) h = le_of_eq (sym h.0)
later L next _ h = le_of_eq (sym h.0)

pub never_falls : ClockNeverFalls
never_falls L next l e = later L next l (common L next l e)

pub never_falls_in_a_run : ClockNeverFallsInARun
never_falls_in_a_run = over_run (λ L last. L.clock ≤ last.clock) (λ L. le_refl L.clock) (λ L next last l e h. le_trans (never_falls L next l e) h)
