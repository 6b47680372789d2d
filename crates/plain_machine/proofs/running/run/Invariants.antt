use Rattle.std.proofs.Common.{◌≡◌}
use Rattle.std.specs.Prelude.{Some}
use Rattle.plain_machine.specs.Plain.{plain}
use Rattle.plain_machine.proofs.running.run.Given as goal

abbrev pub invariant-loop-count : goal.invariant-loop-count
invariant-loop-count l = plain l.program l.count ≡ Some l.machine
