-- What a part that is put in the place of one of its kind changes.
use Rattle.std.proofs.Common.{◌≡◌, ◌≢◌, ℕ, ◌+◌, length, Option, Some, None, refl, sym, ap, ◌∙◌, arith, ◌⊎◌, inl, inr}
use Rattle.std.specs.Prelude.{slice_set}
use Rattle.bsd_thread.specs.declared.thread.ThreadState.{ThreadState}
use Rattle.guest_mem.specs.Held.{Held as ShardState}
use Rattle.umtx_queue.specs.Chains.{ChainState}
use Rattle.bsd_proc.specs.Slots.{ProcessState}
use Rattle.bsd_files.specs.State.{FilesState}
use Rattle.machine_parts.specs.declared.part.Part.{Part}
use Rattle.machine_parts.specs.declared.part.Part.TheVariants as part
use Rattle.machine_parts.specs.Parts.{Parts, part_at, thread_at, shard_at, chain_at, process_at, files_at, put_thread, put_shard, put_chain, put_process, put_files, lacking, as_thread, as_shard, as_chain, as_process, as_files}
use Rattle.machine_parts.specs.Changes.{Change, ChangeOfOne, Kept, ThreadChange, ShardChange, ChainChange, ProcessChange, FilesChange, ThreadsKept, ShardsKept, ChainsKept, ProcessKept, FilesKept, Changes}
use Rattle.machine_parts.proofs.Places.{same_or_not, part_at-put_same, part_at-put_other, length-put, set_again, set_both}
use Rattle.machine_parts.proofs.PartKinds.{Kind, thread, shard, chain, process, files}

module _ (M : Parts) (k : ℕ) (old new : Part) (was : part_at M k ≡ Some old) where
  -- what sees no difference between the two parts finds all as before
  pub put_unseen : {Y : Type 0} (see : Option Part → Option Y) → see (Some new) ≡ see (Some old) → (j : ℕ) → see (part_at (slice_set M k (Some new)) j) ≡ see (part_at M j)
  put_unseen {Y = Y} see same j = by (same_or_not k j)
    where
      by : (j ≡ k) ⊎ (j ≢ k) → see (part_at (slice_set M k (Some new)) j) ≡ see (part_at M j)
      by (inl e) = ap (λ i. see (part_at (slice_set M k (Some new)) i)) e ∙ ap see (part_at-put_same M k old (Some new) was) ∙ same ∙ sym (ap (λ i. see (part_at M i)) e ∙ ap see was)
      by (inr e) = ap see (part_at-put_other M k j (Some new) e)

-- of its own kind a part that is put changes one place
pub put_changes : {X : Type 0} (kind : Kind X) (place : ℕ → ℕ) → ((i j : ℕ) → j ≢ i → place j ≢ place i) → (M : Parts) (i : ℕ) (old new : X) → kind.see (part_at M (place i)) ≡ Some old → Change (λ m j. kind.see (part_at m (place j))) M (slice_set M (place i) (Some (kind.make new))) i new
put_changes kind place apart M i old new was =
    let there = kind.is (part_at M (place i)) old was in
    record {
      now = ap kind.see (part_at-put_same M (place i) (kind.make old) (Some (kind.make new)) there) ∙ kind.back new;
      others = λ j e. ap kind.see (part_at-put_other M (place i) (place j) (Some (kind.make new)) (apart i j e));
    }

-- ---- a part put where one of its kind stands, by kinds
module _ (M : Parts) (s : ℕ) (old new : ThreadState) (was : thread_at M s ≡ Some old) where
  here_thread : part_at M s ≡ Some (part.Thread old)
  here_thread = thread.is (part_at M s) old was

  pub put_thread_changes : Changes M (put_thread M s new) (ThreadChange M (put_thread M s new) s new) (ShardsKept M (put_thread M s new)) (ChainsKept M (put_thread M s new)) (ProcessKept M (put_thread M s new)) (FilesKept M (put_thread M s new))
  put_thread_changes = record {
    threads = put_changes thread (λ j. j) (λ i j e. e) M s old new was;
    shards = λ j. put_unseen M s (part.Thread old) (part.Thread new) here_thread as_shard refl (128 + j);
    chains = λ j. put_unseen M s (part.Thread old) (part.Thread new) here_thread as_chain refl (144 + j);
    process = put_unseen M s (part.Thread old) (part.Thread new) here_thread as_process refl 208;
    files = put_unseen M s (part.Thread old) (part.Thread new) here_thread as_files refl 209;
    size = length-put M s (Some (part.Thread new));
  }

module _ (M : Parts) (i : ℕ) (old new : ShardState) (was : shard_at M i ≡ Some old) where
  here_shard : part_at M (128 + i) ≡ Some (part.Shard old)
  here_shard = shard.is (part_at M (128 + i)) old was

  pub put_shard_changes : Changes M (put_shard M i new) (ThreadsKept M (put_shard M i new)) (ShardChange M (put_shard M i new) i new) (ChainsKept M (put_shard M i new)) (ProcessKept M (put_shard M i new)) (FilesKept M (put_shard M i new))
  put_shard_changes = record {
    threads = λ j. put_unseen M (128 + i) (part.Shard old) (part.Shard new) here_shard as_thread refl j;
    shards = put_changes shard (λ j. 128 + j) (λ i j e f. e (omega arith)) M i old new was;
    chains = λ j. put_unseen M (128 + i) (part.Shard old) (part.Shard new) here_shard as_chain refl (144 + j);
    process = put_unseen M (128 + i) (part.Shard old) (part.Shard new) here_shard as_process refl 208;
    files = put_unseen M (128 + i) (part.Shard old) (part.Shard new) here_shard as_files refl 209;
    size = length-put M (128 + i) (Some (part.Shard new));
  }

module _ (M : Parts) (k : ℕ) (old new : ChainState) (was : chain_at M k ≡ Some old) where
  here_chain : part_at M (144 + k) ≡ Some (part.Chain old)
  here_chain = chain.is (part_at M (144 + k)) old was

  pub put_chain_changes : Changes M (put_chain M k new) (ThreadsKept M (put_chain M k new)) (ShardsKept M (put_chain M k new)) (ChainChange M (put_chain M k new) k new) (ProcessKept M (put_chain M k new)) (FilesKept M (put_chain M k new))
  put_chain_changes = record {
    threads = λ j. put_unseen M (144 + k) (part.Chain old) (part.Chain new) here_chain as_thread refl j;
    shards = λ j. put_unseen M (144 + k) (part.Chain old) (part.Chain new) here_chain as_shard refl (128 + j);
    chains = put_changes chain (λ j. 144 + j) (λ i j e f. e (omega arith)) M k old new was;
    process = put_unseen M (144 + k) (part.Chain old) (part.Chain new) here_chain as_process refl 208;
    files = put_unseen M (144 + k) (part.Chain old) (part.Chain new) here_chain as_files refl 209;
    size = length-put M (144 + k) (Some (part.Chain new));
  }

module _ (M : Parts) (old new : ProcessState) (was : process_at M ≡ Some old) where
  here_process : part_at M 208 ≡ Some (part.Process old)
  here_process = process.is (part_at M 208) old was

  pub put_process_changes : Changes M (put_process M new) (ThreadsKept M (put_process M new)) (ShardsKept M (put_process M new)) (ChainsKept M (put_process M new)) (ProcessChange M (put_process M new) new) (FilesKept M (put_process M new))
  put_process_changes = record {
    threads = λ j. put_unseen M 208 (part.Process old) (part.Process new) here_process as_thread refl j;
    shards = λ j. put_unseen M 208 (part.Process old) (part.Process new) here_process as_shard refl (128 + j);
    chains = λ j. put_unseen M 208 (part.Process old) (part.Process new) here_process as_chain refl (144 + j);
    process = record { now = ap as_process (part_at-put_same M 208 (part.Process old) (Some (part.Process new)) here_process) };
    files = put_unseen M 208 (part.Process old) (part.Process new) here_process as_files refl 209;
    size = length-put M 208 (Some (part.Process new));
  }

module _ (M : Parts) (old new : FilesState) (was : files_at M ≡ Some old) where
  here_files : part_at M 209 ≡ Some (part.Files old)
  here_files = files.is (part_at M 209) old was

  pub put_files_changes : Changes M (put_files M new) (ThreadsKept M (put_files M new)) (ShardsKept M (put_files M new)) (ChainsKept M (put_files M new)) (ProcessKept M (put_files M new)) (FilesChange M (put_files M new) new)
  put_files_changes = record {
    threads = λ j. put_unseen M 209 (part.Files old) (part.Files new) here_files as_thread refl j;
    shards = λ j. put_unseen M 209 (part.Files old) (part.Files new) here_files as_shard refl (128 + j);
    chains = λ j. put_unseen M 209 (part.Files old) (part.Files new) here_files as_chain refl (144 + j);
    process = put_unseen M 209 (part.Files old) (part.Files new) here_files as_process refl 208;
    files = record { now = ap as_files (part_at-put_same M 209 (part.Files old) (Some (part.Files new)) here_files) };
    size = length-put M 209 (Some (part.Files new));
  }
