-- What is asked of a phase. Source: that a thread goes from phase to phase is this project's own.
use Rattle.std.specs.Prelude.{Bool, true, false}
use Rattle.bsd_thread.specs.declared.phase.Phase.{Phase}
use Rattle.bsd_thread.specs.declared.phase.Phase.TheVariants as phase
use Rattle.bsd_thread.specs.declared.phase.Owed.TheVariants as owed
use Rattle.bsd_thread.specs.declared.phase.Doom.TheVariants as doom

-- all but the idle have an entry
abbrev pub is_awake : Phase → Bool
is_awake phase.Idle = false
is_awake p = true

-- outside a call are the idle, those that take instructions, and those whose signal is delivered
abbrev pub has_call : Phase → Bool
has_call phase.Idle = false
has_call phase.User = false
has_call (phase.Forced signal) = false
has_call (phase.Frame delivery) = false
has_call (phase.Kill doom.Frame) = false
has_call p = true

-- in a chain, or about to be
abbrev pub waits : Phase → Bool
waits phase.Sleep = true
waits (phase.Finish turn owed.Insertion) = true
waits p = false
