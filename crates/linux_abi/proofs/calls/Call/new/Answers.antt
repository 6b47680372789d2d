-- No call has a number that no arm names.
use Rattle.std.proofs.Common.{None, rules, tests}
use Rattle.linux_abi.specs.Call.{call_of}
use Rattle.linux_abi.proofs.CallTable.{none_has}
use Rattle.linux_abi.proofs.calls.Call.new.Goals as goal

pub returns-in_default-clause-value : goal.returns-in_default-clause-value
unfolding call_of
returns-in_default-clause-value c = search (tests, rules)

pub returns-in_default-clause-none : goal.returns-in_default-clause-none
unfolding call_of
returns-in_default-clause-none c = none_has None c.args.number (search (tests, rules))
