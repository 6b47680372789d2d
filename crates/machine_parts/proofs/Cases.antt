-- Changes: what stands at any place of a kind afterwards, and one change behind another.
use Rattle.std.proofs.Common.{◌≡◌, ◌≢◌, ℕ, Option, Some, refl, sym, ap, ◌∙◌, ◌⊎◌, inl, inr}
use Rattle.bsd_thread.specs.declared.thread.ThreadState.{ThreadState}
use Rattle.guest_mem.specs.Held.{Held as ShardState}
use Rattle.umtx_queue.specs.Chains.{ChainState}
use Rattle.machine_parts.specs.Parts.{Parts, thread_at, shard_at, chain_at}
use Rattle.machine_parts.specs.Changes.{Change, ChangeOfOne, Kept, ThreadChange, ShardChange, ChainChange}
use Rattle.machine_parts.proofs.Places.{same_or_not}

module _ {X : Type 0} (at : Parts → ℕ → Option X) (M M' : Parts) where
  -- at any place stands the new part, or what stood there
  pub change_cases : (i : ℕ) (x : X) (j : ℕ) → Change at M M' i x → (j ≡ i) × (at M' j ≡ Some x) ⊎ (j ≢ i) × (at M' j ≡ at M j)
  change_cases i x j ch = by (same_or_not i j)
    where
      by : (j ≡ i) ⊎ (j ≢ i) → (j ≡ i) × (at M' j ≡ Some x) ⊎ (j ≢ i) × (at M' j ≡ at M j)
      by (inl e) = inl (e, ap (at M') e ∙ ch.now)
      by (inr e) = inr (e, ch.others j e)

  -- a part that is put where it stood
  pub change_of_same : (i : ℕ) (x : X) → Change at M M' i x → at M i ≡ Some x → Kept at M M'
  change_of_same i x ch was j = by (same_or_not i j)
    where
      by : (j ≡ i) ⊎ (j ≢ i) → at M' j ≡ at M j
      by (inl e) = ap (at M') e ∙ ch.now ∙ sym was ∙ sym (ap (at M) e)
      by (inr e) = ch.others j e

  module _ (M'' : Parts) where
    pub kept-kept : Kept at M M' → Kept at M' M'' → Kept at M M''
    kept-kept k l j = l j ∙ k j

    pub kept-change : (i : ℕ) (x : X) → Kept at M M' → Change at M' M'' i x → Change at M M'' i x
    kept-change i x k ch = record { now = ch.now; others = λ j e. ch.others j e ∙ k j }

    pub change-kept : (i : ℕ) (x : X) → Change at M M' i x → Kept at M' M'' → Change at M M'' i x
    change-kept i x ch k = record { now = k i ∙ ch.now; others = λ j e. k j ∙ ch.others j e }

    pub change-change : (i : ℕ) (x y : X) → Change at M M' i x → Change at M' M'' i y → Change at M M'' i y
    change-change i x y ch ch' = record { now = ch'.now; others = λ j e. ch'.others j e ∙ ch.others j e }

pub thread_cases : (M M' : Parts) (s : ℕ) (t : ThreadState) (x : ℕ) → ThreadChange M M' s t → (x ≡ s) × (thread_at M' x ≡ Some t) ⊎ (x ≢ s) × (thread_at M' x ≡ thread_at M x)
thread_cases M M' s t x ch = change_cases thread_at M M' s t x ch

pub shard_cases : (M M' : Parts) (i : ℕ) (h : ShardState) (j : ℕ) → ShardChange M M' i h → (j ≡ i) × (shard_at M' j ≡ Some h) ⊎ (j ≢ i) × (shard_at M' j ≡ shard_at M j)
shard_cases M M' i h j ch = change_cases shard_at M M' i h j ch

pub chain_cases : (M M' : Parts) (c : ℕ) (ch' : ChainState) (k : ℕ) → ChainChange M M' c ch' → (k ≡ c) × (chain_at M' k ≡ Some ch') ⊎ (k ≢ c) × (chain_at M' k ≡ chain_at M k)
chain_cases M M' c ch' k ch = change_cases chain_at M M' c ch' k ch
