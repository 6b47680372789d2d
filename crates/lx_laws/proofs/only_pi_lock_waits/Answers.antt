use Rattle.lx_laws.proofs.Gifts.{only_pi_lock, only_the_given}
use Rattle.lx_laws.proofs.only_pi_lock_waits.Goals as goal

pub returns-clause-waits : goal.returns-clause-waits
returns-clause-waits c = only_pi_lock

pub returns-clause-given : goal.returns-clause-given
returns-clause-given c = only_the_given
