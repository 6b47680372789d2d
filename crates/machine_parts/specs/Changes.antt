-- What an entry changes, told by the accessors: of each kind, what one part now is, and that the others are as before.
-- This project's own.
use Rattle.std.specs.Prelude.{◌≡◌, ◌≢◌, ℕ, Option, Some, length}
use Rattle.bsd_thread.specs.declared.thread.ThreadState.{ThreadState}
use Rattle.guest_mem.specs.Held.{Held as ShardState}
use Rattle.umtx_queue.specs.Chains.{ChainState}
use Rattle.bsd_proc.specs.Slots.{ProcessState}
use Rattle.bsd_files.specs.State.{FilesState}
use Rattle.machine_parts.specs.Parts.{Parts, thread_at, shard_at, chain_at, process_at, files_at}

-- of a kind, the part at i is now this, and the others are as before
pub record Change {X : Type 0} (at : Parts → ℕ → Option X) (M M' : Parts) (i : ℕ) (x : X) : Type 0 where
  pub now : at M' i ≡ Some x
  pub others : (j : ℕ) → j ≢ i → at M' j ≡ at M j

-- of a kind of which there is one, the part is now this
pub record ChangeOfOne {X : Type 0} (at : Parts → Option X) (M M' : Parts) (x : X) : Type 0 where
  pub now : at M' ≡ Some x

-- of a kind, all parts are as before
abbrev pub Kept : {X : Type 0} → (Parts → ℕ → Option X) → Parts → Parts → Type 0
Kept at M M' = (j : ℕ) → at M' j ≡ at M j

-- ---- by kinds: from M to M' this is what is changed, or nothing

abbrev pub ThreadChange : Parts → Parts → ℕ → ThreadState → Type 0
ThreadChange M M' s t = Change thread_at M M' s t

abbrev pub ShardChange : Parts → Parts → ℕ → ShardState → Type 0
ShardChange M M' i h = Change shard_at M M' i h

abbrev pub ChainChange : Parts → Parts → ℕ → ChainState → Type 0
ChainChange M M' c ch = Change chain_at M M' c ch

abbrev pub ProcessChange : Parts → Parts → ProcessState → Type 0
ProcessChange M M' p = ChangeOfOne process_at M M' p

abbrev pub FilesChange : Parts → Parts → FilesState → Type 0
FilesChange M M' f = ChangeOfOne files_at M M' f

abbrev pub ThreadsKept : Parts → Parts → Type 0
ThreadsKept M M' = Kept thread_at M M'

abbrev pub ShardsKept : Parts → Parts → Type 0
ShardsKept M M' = Kept shard_at M M'

abbrev pub ChainsKept : Parts → Parts → Type 0
ChainsKept M M' = Kept chain_at M M'

abbrev pub ProcessKept : Parts → Parts → Type 0
ProcessKept M M' = process_at M' ≡ process_at M

abbrev pub FilesKept : Parts → Parts → Type 0
FilesKept M M' = files_at M' ≡ files_at M

-- ---- all kinds at once: what becomes of each, and no part is added or lost
pub record Changes (M M' : Parts) (Threads Shards Chains Process Files : Type 0) : Type 0 where
  pub threads : Threads
  pub shards : Shards
  pub chains : Chains
  pub process : Process
  pub files : Files
  pub size : length M' ≡ length M
