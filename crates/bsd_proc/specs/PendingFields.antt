-- What the fields of a list of pending signals keep.
use Rattle.std.specs.Prelude.{ℕ, ◌==◌, ◌<◌, ◌≤◌, count_by, List, vec_capacity}
use Rattle.bsd_abi.specs.BsdSig.{place_of}
use Rattle.bsd_proc.specs.declared.pending.Pending.TheInside.{Inside}
use Rattle.bsd_proc.specs.declared.signals.Signal.{Signal}

-- each of the 31 standard signals, which have the places below 31, is there at most once
abbrev pub IsOnce : List Signal → Type 0
IsOnce signals = (place : ℕ) → place < 31 → count_by (λ signal. place_of signal.sig == place) signals ≤ 1

-- and there is room for each of them beside 64 real-time signals
pub record HasRoom (s : Inside) : Type 0 where
  pub once : IsOnce s.signals.items
  pub room : 95 ≤ vec_capacity s.signals
