-- What is lent of what is held, and how what is written to it comes back.
use Rattle.std.specs.Prelude.{ℕ, List, Option, Some, slice_set}
use Rattle.std.specs.Borrow.{Lends, LendsIf, MutBor, Fml}
use Rattle.bsd_thread.specs.declared.thread.ThreadState.{ThreadState}
use Rattle.bsd_thread.specs.contracts.thread.Thread.{the_row as thread-row}
use Rattle.guest_mem.specs.Held.{Held as ShardState}
use Rattle.guest_mem.specs.contracts.shard.Shard.{the_row as shard-row}
use Rattle.umtx_queue.specs.Chains.{ChainState}
use Rattle.umtx_queue.specs.contracts.chain.Chain.{the_row as chain-row}
use Rattle.bsd_proc.specs.Slots.{ProcessState}
use Rattle.bsd_proc.specs.contracts.process.Process.{the_row as process-row}
use Rattle.bsd_files.specs.State.{FilesState}
use Rattle.bsd_files.specs.contracts.files.Files.{the_row as files-row}
use Rattle.machine_parts.specs.declared.object.Object.{Object}
use Rattle.machine_parts.specs.declared.part.Part.{Part}
use Rattle.machine_parts.specs.contracts.part.Part.{the_row as part-row}
use Rattle.machine_parts.specs.contracts.held.Held.{the_row as held-row}
use Rattle.machine_parts.specs.Objects.{number}
use Rattle.machine_parts.specs.Parts.{Parts, put_thread, put_shard, put_chain, put_process, put_files}

-- what is held ends with the last value behind r at this number
abbrev pub LendsAt : MutBor Parts → ℕ → Option (MutBor Part) → Fml
LendsAt s k r = LendsIf held-row part-row s r (λ part. slice_set s.now k (Some part)) s.now

-- what is held ends with the last value behind r as the part of the object
abbrev pub LendsPart : MutBor Parts → Object → Option (MutBor Part) → Fml
LendsPart s o r = LendsAt s (number o) r

-- what is held ends with the last value behind r as the thread in the slot, and likewise for the other kinds
abbrev pub LendsThread : MutBor Parts → ℕ → MutBor ThreadState → Fml
LendsThread s slot r = Lends held-row thread-row s r (λ t. put_thread s.now slot t)

abbrev pub LendsShard : MutBor Parts → ℕ → MutBor ShardState → Fml
LendsShard s index r = Lends held-row shard-row s r (λ h. put_shard s.now index h)

abbrev pub LendsChain : MutBor Parts → ℕ → MutBor ChainState → Fml
LendsChain s index r = Lends held-row chain-row s r (λ ch. put_chain s.now index ch)

abbrev pub LendsProcess : MutBor Parts → MutBor ProcessState → Fml
LendsProcess s r = Lends held-row process-row s r (λ p. put_process s.now p)

abbrev pub LendsFiles : MutBor Parts → MutBor FilesState → Fml
LendsFiles s r = Lends held-row files-row s r (λ f. put_files s.now f)
