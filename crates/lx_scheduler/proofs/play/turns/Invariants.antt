use Rattle.lx_scheduler.specs.Play.{Reaches}
use Rattle.lx_scheduler.proofs.play.turns.Given as goal

-- what has been done so far is a run
abbrev pub invariant-loop : goal.invariant-loop
invariant-loop g l = Reaches l.initial.machine.state.state l.machine.state.state
