-- The parts, each at the number of its object: of a whole machine, or of what is held of one. This project's own.
use Rattle.std.specs.Prelude.{ℕ, ◌+◌, Bool, true, false, List, Option, Some, None, slice_index_or, slice_set, if◌then◌else◌}
use Rattle.bsd_thread.specs.declared.thread.ThreadState.{ThreadState}
use Rattle.guest_mem.specs.Held.{Held as ShardState}
use Rattle.umtx_queue.specs.Chains.{ChainState}
use Rattle.bsd_proc.specs.Slots.{ProcessState}
use Rattle.bsd_files.specs.State.{FilesState}
use Rattle.machine_parts.specs.declared.object.Object.{Object}
use Rattle.machine_parts.specs.declared.object.Object.TheVariants as object
use Rattle.machine_parts.specs.declared.part.Part.{Part}
use Rattle.machine_parts.specs.declared.part.Part.TheVariants as part
use Rattle.machine_parts.specs.Objects.{exists, number}

-- the parts by their numbers, with gaps where a part isn't held
abbrev pub Parts : Type 0
Parts = List (Option Part)

-- the part of this number, if it is there
abbrev pub part_at : {P : Type 0} → List (Option P) → ℕ → Option P
part_at m k = slice_index_or m k None

-- without the part of this number
abbrev pub lacking : {P : Type 0} → List (Option P) → ℕ → List (Option P)
lacking m k = slice_set m k None

-- ---- a part as its kind

abbrev pub as_thread : Option Part → Option ThreadState
as_thread (Some (part.Thread t)) = Some t
as_thread _ = None

abbrev pub as_shard : Option Part → Option ShardState
as_shard (Some (part.Shard h)) = Some h
as_shard _ = None

abbrev pub as_chain : Option Part → Option ChainState
as_chain (Some (part.Chain ch)) = Some ch
as_chain _ = None

abbrev pub as_process : Option Part → Option ProcessState
as_process (Some (part.Process p)) = Some p
as_process _ = None

abbrev pub as_files : Option Part → Option FilesState
as_files (Some (part.Files f)) = Some f
as_files _ = None

-- ---- the parts of each kind, which is all that is asked of the list

-- the thread in a slot
abbrev pub thread_at : Parts → ℕ → Option ThreadState
thread_at m s = as_thread (part_at m s)

-- the shard of this index
abbrev pub shard_at : Parts → ℕ → Option ShardState
shard_at m i = as_shard (part_at m (128 + i))

-- the chain of this index
abbrev pub chain_at : Parts → ℕ → Option ChainState
chain_at m c = as_chain (part_at m (144 + c))

-- the process
abbrev pub process_at : Parts → Option ProcessState
process_at m = as_process (part_at m 208)

-- the files
abbrev pub files_at : Parts → Option FilesState
files_at m = as_files (part_at m 209)

-- ---- the parts with another one in its place

abbrev pub put_thread : Parts → ℕ → ThreadState → Parts
put_thread m s t = slice_set m s (Some (part.Thread t))

abbrev pub put_shard : Parts → ℕ → ShardState → Parts
put_shard m i h = slice_set m (128 + i) (Some (part.Shard h))

abbrev pub put_chain : Parts → ℕ → ChainState → Parts
put_chain m c ch = slice_set m (144 + c) (Some (part.Chain ch))

abbrev pub put_process : Parts → ProcessState → Parts
put_process m p = slice_set m 208 (Some (part.Process p))

abbrev pub put_files : Parts → FilesState → Parts
put_files m f = slice_set m 209 (Some (part.Files f))

-- ---- by objects

-- the part of an object, if it is held
abbrev pub held_at : Parts → Object → Option Part
held_at m o = if exists o then part_at m (number o) else None

-- without the part of an object
abbrev pub without : Parts → Object → Parts
without m o = if exists o then lacking m (number o) else m

-- the part is of the object's kind
abbrev pub is_of_kind : Object → Part → Bool
is_of_kind (object.Thread slot) (part.Thread t) = true
is_of_kind (object.Shard shard) (part.Shard h) = true
is_of_kind (object.Chain chain) (part.Chain ch) = true
is_of_kind object.Process (part.Process p) = true
is_of_kind object.Files (part.Files f) = true
is_of_kind _ _ = false
