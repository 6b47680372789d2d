-- The kinds of parts: what a part is that is seen as one of a kind, and what a part that is put shows of each kind.
use Rattle.std.proofs.Common.{◌≡◌, ◌≢◌, ℕ, ◌+◌, ◌<◌, length, Option, Some, None, is_some, true, refl, sym, ap, ◌∙◌, arith, ◌⊎◌, inl, inr}
use Rattle.std.specs.Prelude.{slice_set}
use Rattle.bsd_thread.specs.declared.thread.ThreadState.{ThreadState}
use Rattle.guest_mem.specs.Held.{Held as ShardState}
use Rattle.umtx_queue.specs.Chains.{ChainState}
use Rattle.bsd_proc.specs.Slots.{ProcessState}
use Rattle.bsd_files.specs.State.{FilesState}
use Rattle.machine_parts.specs.declared.part.Part.{Part}
use Rattle.machine_parts.specs.declared.part.Part.TheVariants as part
use Rattle.machine_parts.specs.Parts.{Parts, part_at, as_thread, as_shard, as_chain, as_process, as_files, thread_at, shard_at, chain_at, process_at, files_at}
use Rattle.machine_parts.proofs.Places.{same_or_not, some_value, part_there, part_at-put_same, part_at-put_other}

pub thread_part : (o : Option Part) (t : ThreadState) → as_thread o ≡ Some t → o ≡ Some (part.Thread t)
thread_part (Some (part.Thread u)) t e = let f : u ≡ t = cc in ap (λ z. Some (part.Thread z)) f
thread_part _ t e = absurd (cc)

pub shard_part : (o : Option Part) (h : ShardState) → as_shard o ≡ Some h → o ≡ Some (part.Shard h)
shard_part (Some (part.Shard g)) h e = let f : g ≡ h = cc in ap (λ z. Some (part.Shard z)) f
shard_part _ h e = absurd (cc)

pub chain_part : (o : Option Part) (c : ChainState) → as_chain o ≡ Some c → o ≡ Some (part.Chain c)
chain_part (Some (part.Chain d)) c e = let f : d ≡ c = cc in ap (λ z. Some (part.Chain z)) f
chain_part _ c e = absurd (cc)

pub process_part : (o : Option Part) (p : ProcessState) → as_process o ≡ Some p → o ≡ Some (part.Process p)
process_part (Some (part.Process q)) p e = let f : q ≡ p = cc in ap (λ z. Some (part.Process z)) f
process_part _ p e = absurd (cc)

pub files_part : (o : Option Part) (f : FilesState) → as_files o ≡ Some f → o ≡ Some (part.Files f)
files_part (Some (part.Files g)) f e = let i : g ≡ f = cc in ap (λ z. Some (part.Files z)) i
files_part _ f e = absurd (cc)

-- one kind: how a part is seen as one of it, and a part that is one
pub record Kind (X : Type 0) : Type 0 where
  pub see : Option Part → Option X
  pub make : X → Part
  pub is : (o : Option Part) (x : X) → see o ≡ Some x → o ≡ Some (make x)
  pub back : (x : X) → see (Some (make x)) ≡ Some x
  pub none : see None ≡ None

abbrev pub thread : Kind ThreadState
thread = record { see = as_thread; make = part.Thread; is = thread_part; back = λ t. refl; none = refl }

abbrev pub shard : Kind ShardState
shard = record { see = as_shard; make = part.Shard; is = shard_part; back = λ h. refl; none = refl }

abbrev pub chain : Kind ChainState
chain = record { see = as_chain; make = part.Chain; is = chain_part; back = λ c. refl; none = refl }

abbrev pub process : Kind ProcessState
process = record { see = as_process; make = part.Process; is = process_part; back = λ p. refl; none = refl }

abbrev pub files : Kind FilesState
files = record { see = as_files; make = part.Files; is = files_part; back = λ f. refl; none = refl }

-- ---- a part that is seen stands within the list

pub seen_there : {X : Type 0} (kind : Kind X) (m : Parts) (k : ℕ) → is_some (kind.see (part_at m k)) ≡ true → k < length m
seen_there kind m k e = let x = some_value (kind.see (part_at m k)) e in part_there m k (kind.make x.0) (kind.is (part_at m k) x.0 x.1)

pub thread_there : (m : Parts) (s : ℕ) → is_some (thread_at m s) ≡ true → s < length m
thread_there m s e = seen_there thread m s e

pub shard_there : (m : Parts) (i : ℕ) → is_some (shard_at m i) ≡ true → 128 + i < length m
shard_there m i e = seen_there shard m (128 + i) e

pub chain_there : (m : Parts) (c : ℕ) → is_some (chain_at m c) ≡ true → 144 + c < length m
chain_there m c e = seen_there chain m (144 + c) e

pub process_there : (m : Parts) → is_some (process_at m) ≡ true → 208 < length m
process_there m e = seen_there process m 208 e

pub files_there : (m : Parts) → is_some (files_at m) ≡ true → 209 < length m
files_there m e = seen_there files m 209 e
