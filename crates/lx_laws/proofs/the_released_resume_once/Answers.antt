use Rattle.lx_laws.proofs.Resumes.{answers, once, only_the_released, the_released_may, waits_no_longer}
use Rattle.lx_laws.proofs.the_released_resume_once.Goals as goal

pub returns-clause-only : goal.returns-clause-only
returns-clause-only c = only_the_released

pub returns-clause-each : goal.returns-clause-each
returns-clause-each c = the_released_may

pub returns-clause-answer : goal.returns-clause-answer
returns-clause-answer c = answers

pub returns-clause-ended : goal.returns-clause-ended
returns-clause-ended c = waits_no_longer

pub returns-clause-once : goal.returns-clause-once
returns-clause-once c = once
