use Rattle.lx_scheduler.specs.Play.{Reaches}
use Rattle.lx_scheduler.proofs.play.steps.Given as goal

-- what has been done so far is a run
abbrev pub invariant-loop-taken : goal.invariant-loop-taken
invariant-loop-taken l = Reaches l.initial.machine.state.state l.machine.state.state
