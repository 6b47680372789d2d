-- The number leads back by the table.
use Rattle.std.proofs.Common.{rules}
use Rattle.linux_abi.proofs.SignalTable.{linux_signal_of-is}
use Rattle.linux_abi.proofs.signals.LinuxSig.number.Goals as goal

pub returns-clause-back : goal.returns-clause-back
returns-clause-back c = linux_signal_of-is c.args.self _ (search rules)
