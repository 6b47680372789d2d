-- The whole machine, as each clause sees it: the threads, what they are to the chains, what they hold, and whose changes of interests
-- are at work. Source: this project's own.
use Rattle.std.specs.Prelude.{ℕ, Bool, true, false, if◌then◌else◌, Option, Some, None}
use Rattle.lx_machine.specs.declared.calls.LxCall.{LxCall}
use Rattle.umtx_queue.specs.Chains.{ChainState, empty_chain}
use Rattle.bsd_proc.specs.Slots.{ProcessState}
use Rattle.bsd_thread.specs.Phases.{has_call}
use Rattle.bsd_thread.specs.declared.call.Call.{Call}
use Rattle.bsd_thread.specs.declared.phase.Phase.{Phase}
use Rattle.bsd_thread.specs.declared.phase.Phase.TheVariants as phase
use Rattle.bsd_thread.specs.declared.thread.ThreadState.{ThreadState}
use Rattle.chains_stand.specs.Board.{Board}
use Rattle.machine_parts.specs.Parts.{Parts, thread_at, chain_at, process_at}
use Rattle.threads_stand.specs.Image.{resting}
use Rattle.threads_stand.specs.Slots.{tid_of}
use Rattle.call_frame.specs.Owing.{owing_of}

-- ---- chains

abbrev pub chain_in : Option ChainState → ChainState
chain_in (Some ch) = ch
chain_in None = empty_chain

-- the chains, and what each thread is to them
abbrev pub board_of : Parts → Board
board_of M = record { owes = λ s. owing_of s (thread_at M s); chains = λ c. chain_in (chain_at M c) }

-- the tids of the slots
abbrev pub tids_in : Option ProcessState → ℕ → ℕ
tids_in None s = 0
tids_in (Some p) s = tid_of p s

abbrev pub tids_of : Parts → ℕ → ℕ
tids_of M s = tids_in (process_at M) s

-- ---- files

-- the open file that a thread's call holds
abbrev pub held_in : Phase → Call → Option ℕ
held_in p c = if has_call p then c.held else None

abbrev pub held_by : Option ThreadState → Option ℕ
held_by None = None
held_by (Some t) = held_in t.phase t.call

abbrev pub holding_of : Parts → ℕ → Option ℕ
holding_of M s = held_by (thread_at M s)

-- the Linux call of a thread that stands between the two entries of a change of an interest
abbrev pub change_in : Phase → Call → Option LxCall
change_in phase.Flux2 c = Some (resting c)
change_in p c = None

abbrev pub change_of : Option ThreadState → Option LxCall
change_of None = None
change_of (Some t) = change_in t.phase t.call

abbrev pub changes_of : Parts → ℕ → Option LxCall
changes_of M s = change_of (thread_at M s)

-- ---- marks

-- the granule that a thread has marked last, if its mark has not ended
abbrev pub granule_of : Option ThreadState → Option ℕ
granule_of None = None
granule_of (Some t) = t.granule

abbrev pub granules_of : Parts → ℕ → Option ℕ
granules_of M s = granule_of (thread_at M s)
