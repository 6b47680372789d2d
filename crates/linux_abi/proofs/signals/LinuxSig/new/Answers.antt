-- No signal has a number that no arm names.
use Rattle.std.proofs.Common.{rules, tests}
use Rattle.linux_abi.specs.LinuxSig.{linux_signal_of}
use Rattle.linux_abi.proofs.signals.LinuxSig.new.Goals as goal

pub returns-in_default-clause-value : goal.returns-in_default-clause-value
unfolding linux_signal_of
returns-in_default-clause-value c = search (tests, rules)
