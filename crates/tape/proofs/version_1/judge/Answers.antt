use Rattle.tape.specs.TapeFault.{fault_1}
use Rattle.tape.proofs.Version1.{actor_fault_1-records}
use Rattle.tape.proofs.version_1.judge.Goals as goal

pub returns-in-Some-clause-fault : goal.returns-in-Some-clause-fault
unfolding fault_1
returns-in-Some-clause-fault c =
    rw c.in_ok-header.ensures.sound (actor_fault_1-records c.args.bytes.now c.records_of.result.now _ c.records_of.ensures c.in-Some.ensures)

pub returns-in-None-clause-sound : goal.returns-in-None-clause-sound
unfolding fault_1
returns-in-None-clause-sound c =
    rw c.in_ok-header.ensures.sound (actor_fault_1-records c.args.bytes.now c.records_of.result.now _ c.records_of.ensures c.in-None.ensures)
