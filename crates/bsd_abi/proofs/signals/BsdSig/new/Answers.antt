-- No signal has a number that no arm names.
use Rattle.std.proofs.Common.{None, rules, tests}
use Rattle.bsd_abi.specs.BsdSig.{bsd_signal_of}
use Rattle.bsd_abi.proofs.SignalTable.{none_has}
use Rattle.bsd_abi.proofs.signals.BsdSig.new.Goals as goal

pub returns-in_default-clause-value : goal.returns-in_default-clause-value
unfolding bsd_signal_of
returns-in_default-clause-value c = search (tests, rules)

pub returns-in_default-clause-none : goal.returns-in_default-clause-none
unfolding bsd_signal_of
returns-in_default-clause-none c = none_has None c.args.n (search (tests, rules))
