-- What the private functions of this crate compute.
use Rattle.std.specs.Prelude.{ℕ, nat_lt, if◌then◌else◌, Option, Some, None}
use Rattle.bsd_abi.specs.declared.signals.BsdSig.{BsdSig}
use Rattle.bsd_abi.specs.BsdSig.{place_of}
use Rattle.bsd_proc.specs.declared.signals.Signal.{Signal}
use Rattle.bsd_proc.specs.Signals.{has_signal}

-- the lower of a signal and what was found so far
abbrev pub lower : Option BsdSig → BsdSig → Option BsdSig
lower None sig = Some sig
lower (Some first) sig = if nat_lt (place_of sig) (place_of first) then Some sig else Some first

-- what was found so far, and one more pending signal
abbrev pub found_with : ℕ → Option BsdSig → Signal → Option BsdSig
found_with mask found signal = if has_signal mask signal.sig then found else lower found signal.sig
