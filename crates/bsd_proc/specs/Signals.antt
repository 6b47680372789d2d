-- Pending signals, as lists in the order in which they were sent, and sets of signals.
-- Source: signal(7), sigqueue(3), sigprocmask(2); a set's bits are those of FreeBSD's sigset_t (sigsetops(3)).
use Rattle.std.specs.Prelude.{ℕ, ◌/◌, ◌%◌, ◌^◌, ◌==◌, Bool, not, bit_or, if◌then◌else◌, List, [], ◌∷◌, filter, find, count_by, Option}
use Rattle.std.specs.List.{list_any}
use Rattle.bsd_abi.specs.declared.signals.BsdSig.{BsdSig}
use Rattle.bsd_abi.specs.BsdSig.{bsd_bit, is_real_time, place_of}
use Rattle.bsd_proc.specs.declared.signals.Signal.{Signal}

-- a set of signals has this one: signal n is bit n - 1
abbrev pub has_signal : ℕ → BsdSig → Bool
has_signal set sig = set / 2 ^ bsd_bit sig % 2 == 1

-- a signal that was sent is of this kind
abbrev pub is_of : BsdSig → Signal → Bool
is_of sig signal = place_of signal.sig == place_of sig

-- how many real-time signals the list has
abbrev pub real_time_count : List Signal → ℕ
real_time_count signals = count_by (λ signal. is_real_time signal.sig) signals

-- the signal of this kind that was sent first
abbrev pub first_of : BsdSig → List Signal → Option Signal
first_of sig signals = find (is_of sig) signals

-- the list without the signal of this kind that was sent first
abbrev pub without : BsdSig → List Signal → List Signal
without sig [] = []
without sig (signal ∷ signals) = if is_of sig signal then signals else (signal ∷ without sig signals)

-- the list without any signal of this kind
abbrev pub without_all : BsdSig → List Signal → List Signal
without_all sig signals = filter (λ signal. not (is_of sig signal)) signals

-- some signal of the list is not blocked
abbrev pub has_unblocked : ℕ → List Signal → Bool
has_unblocked mask signals = list_any (λ signal. not (has_signal mask signal.sig)) signals

-- the set of the signals of the list
abbrev pub set_of : List Signal → ℕ
set_of [] = 0
set_of (signal ∷ signals) = bit_or (2 ^ bsd_bit signal.sig) (set_of signals)
