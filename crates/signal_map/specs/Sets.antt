-- Sets of signals between Linux and FreeBSD: signal n is bit n - 1 of a set.
-- Source: sigprocmask(2) of Linux and of FreeBSD.
use Rattle.std.specs.Prelude.{◌≡◌, ◌≢◌, ℕ, ◌*◌, ◌^◌, List, [], ◌∷◌, bit_or}
use Rattle.std.specs.Int.{bit_at}
use Rattle.linux_abi.specs.LinuxSig.{linux_bit}
use Rattle.bsd_abi.specs.declared.signals.BsdSig.{BsdSig}
use Rattle.bsd_abi.specs.BsdSig.{bsd_bit, all_signals}
use Rattle.signal_map.specs.Signals.{signal_out_of}

-- the bit of a FreeBSD signal in a Linux set: that of its Linux signal
abbrev pub linux_bit_of : BsdSig → ℕ
linux_bit_of s = linux_bit (signal_out_of s)

-- the set that has the bit `to s` of each of these signals s whose bit `from s` the other set has
abbrev pub moved_bits : (from to : BsdSig → ℕ) → List BsdSig → ℕ → ℕ
moved_bits from to [] set = 0
moved_bits from to (s ∷ signals) set = bit_or (bit_at set (from s) * 2 ^ to s) (moved_bits from to signals set)

-- a Linux set as a FreeBSD set
unfoldable pub set_in_of : ℕ → ℕ
set_in_of set = moved_bits linux_bit_of bsd_bit all_signals set

-- a FreeBSD set as a Linux set
unfoldable pub set_out_of : ℕ → ℕ
set_out_of set = moved_bits bsd_bit linux_bit_of all_signals set

-- each signal's bit of the new set is its bit of the old, and the new set has no bit of no signal
pub record MovesSignals (from to : BsdSig → ℕ) (old new : ℕ) : Type 0 where
  pub each : (s : BsdSig) → bit_at new (to s) ≡ bit_at old (from s)
  pub no_other : (k : ℕ) → ((s : BsdSig) → to s ≢ k) → bit_at new k ≡ 0
