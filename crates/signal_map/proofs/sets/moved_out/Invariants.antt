-- The bits so far, with those of the signals that are left, are the whole set.
use Rattle.std.proofs.Common.{◌≡◌, drop, bit_or}
use Rattle.bsd_abi.specs.BsdSig.{bsd_bit}
use Rattle.signal_map.specs.Sets.{linux_bit_of, moved_bits}
use Rattle.signal_map.proofs.sets.moved_out.Given as goal

abbrev pub invariant-loop-signal : goal.invariant-loop-signal
invariant-loop-signal l =
    bit_or l.linux (moved_bits bsd_bit linux_bit_of (drop l.signal-index l.signals) l.bsd)
    ≡ moved_bits bsd_bit linux_bit_of l.signals l.bsd
