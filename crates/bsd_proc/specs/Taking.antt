-- MayTake, and which signal a thread takes. Source: signal(7), sigwaitinfo(2): real-time signals come in rising order, those of
-- one kind in the order in which they were sent. That the thread's own signals come before the process's, and that standard
-- signals too come in rising order of their Linux numbers, are this project's own.
use Rattle.std.specs.Prelude.{ℕ, Bool, ◌&&◌, not, nat_lt, bit_or, find, List, Option, Some, None}
use Rattle.std.specs.List.{list_any}
use Rattle.bsd_abi.specs.declared.signals.BsdSig.{BsdSig}
use Rattle.bsd_abi.specs.BsdSig.{place_of, is_real_time, all_signals}
use Rattle.bsd_proc.specs.declared.signals.Signal.{Signal}
use Rattle.bsd_proc.specs.declared.signals.Target.{Target}
use Rattle.bsd_proc.specs.declared.signals.Target.TheVariants.{All, One}
use Rattle.bsd_proc.specs.Signals.{has_signal, is_of, first_of, without, set_of}
use Rattle.bsd_proc.specs.Slots.{Slot, ProcessState, own_pending, on_slot}

-- a signal of this kind is pending in the list, and is not blocked
abbrev pub is_ready : ℕ → List Signal → BsdSig → Bool
is_ready mask signals sig = list_any (is_of sig) signals && not (has_signal mask sig)

-- an unblocked real-time signal of a lower number
abbrev pub is_before : ℕ → BsdSig → Signal → Bool
is_before mask sig signal =
    is_real_time signal.sig && nat_lt (place_of signal.sig) (place_of sig) && not (has_signal mask signal.sig)

-- MayTake: it is pending and not blocked, and where it is a real-time signal, no unblocked one of a lower number is in the list
abbrev pub may_take : ℕ → List Signal → BsdSig → Bool
may_take mask signals sig = is_ready mask signals sig && not (is_real_time sig && list_any (is_before mask sig) signals)

-- the first signal, in the order of the table of signals, that is pending in the list and not blocked
unfoldable pub first_ready : ℕ → List Signal → Option BsdSig
first_ready mask signals = find (is_ready mask signals) all_signals

-- the choice: that of the slot's own list, else that of the process's, with the list in which it stands
abbrev pub chosen : ℕ → Option BsdSig → Option BsdSig → Option (Target × BsdSig)
chosen s (Some sig) shared = Some (One s, sig)
chosen s None (Some sig) = Some (All, sig)
chosen s None None = None

abbrev pub choice : ProcessState → ℕ → ℕ → Option (Target × BsdSig)
choice p s mask = chosen s (first_ready mask (own_pending p s)) (first_ready mask p.pending)

-- the signals that are pending for a target
abbrev pub pending_for : ProcessState → Target → List Signal
pending_for p All = p.pending
pending_for p (One s) = own_pending p s

-- the signal of this kind that was sent first has left the slot's list, and the target's list
abbrev pub without_first : BsdSig → Slot → Slot
without_first sig slot = record slot { pending = without sig slot.pending }

abbrev pub without_for : ProcessState → Target → BsdSig → ProcessState
without_for p All sig = record p { pending = without sig p.pending }
without_for p (One s) sig = on_slot p s (without_first sig)

-- what is taken, and the process then
abbrev pub taken : ProcessState → Option (Target × BsdSig) → Option Signal
taken p None = None
taken p (Some c) = first_of c.1 (pending_for p c.0)

abbrev pub left_by : ProcessState → Option (Target × BsdSig) → ProcessState
left_by p None = p
left_by p (Some c) = without_for p c.0 c.1

-- the set of the signals that are pending for the slot or for the process
abbrev pub pending_set : ProcessState → ℕ → ℕ
pending_set p s = bit_or (set_of (own_pending p s)) (set_of p.pending)
