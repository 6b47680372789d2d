use Rattle.lx_scheduler.specs.Play.{Reaches}
use Rattle.lx_scheduler.proofs.play.turn_from.Given as goal

-- what has been done so far is a run
abbrev pub invariant-loop-further : goal.invariant-loop-further
invariant-loop-further l = Reaches l.initial.machine.state.state l.machine.state.state
