-- What is held of a machine's shards, and what is done to it alone. Source: this project's own.
use Rattle.std.specs.Prelude.{◌≡◌, ℕ, ◌+◌, ◌/◌, ◌%◌, ◌<◌, ◌≤◌, true, false, is_some, IfSome, length}
use Rattle.a64_model.specs.declared.access.Access.{Access}
use Rattle.a64_model.specs.declared.access.Access.TheVariants as access
use Rattle.machine_parts.specs.Held.{over, SameObjects}
use Rattle.machine_parts.specs.Changes.{ThreadsKept, ChainsKept, ProcessKept, FilesKept}
use Rattle.machine_parts.specs.Parts.{Parts, shard_at}
use Rattle.shards_stand.specs.Pieces.{touched}
use Rattle.shards_stand.specs.Accesses.{Accessed}
use Rattle.shards_stand.specs.SpaceRows.{After}

-- the shard of each of so many pages from `first` on is held
abbrev pub HoldsPages : Parts → ℕ → ℕ → Type 0
HoldsPages h first count = (p : ℕ) → first ≤ p → p < first + count → is_some (shard_at h (p % 16)) ≡ true

-- the shard of the page of each of so many bytes from `at` on is held
abbrev pub HoldsBytes : Parts → ℕ → ℕ → Type 0
HoldsBytes h at len = (a : ℕ) → at ≤ a → a < at + len → is_some (shard_at h (a / 4096 % 16)) ≡ true

-- and it has that index
abbrev pub AreIndexed : Parts → ℕ → ℕ → Type 0
AreIndexed h at len =
    (a : ℕ) → at ≤ a → a < at + len → IfSome (shard_at h (a / 4096 % 16)) (λ shard. shard.index ≡ a / 4096 % 16)

-- each shard that is held is that of the machine
abbrev pub AreParts : Parts → Parts → Type 0
AreParts h M = (i : ℕ) → is_some (shard_at h i) ≡ true → shard_at M i ≡ shard_at h i

-- the same is done to what is held and to the machine: the same objects are held, their shards stay those of the machine, no other
-- shard of the machine changes, and what is held now, put over the machine as it was, is the machine as it is now
pub record IsLocal (h M h' M' : Parts) : Type 0 where
  pub same : (i : ℕ) → is_some (shard_at h' i) ≡ is_some (shard_at h i)
  pub objects : SameObjects h h'
  pub over_is : length h ≡ length M → over h M ≡ M → over h' M ≡ M'
  pub parts : AreParts h' M'
  pub beside : (i : ℕ) → is_some (shard_at h i) ≡ false → shard_at M' i ≡ shard_at M i

-- the shards of the pages that an access touches are held
abbrev pub HoldsAccess : Parts → Access → Type 0
HoldsAccess h access.None = Unit {0}
HoldsAccess h (access.Load at len marks) = HoldsPages h (at / 4096) (touched at len)
HoldsAccess h (access.Store at len bytes exclusive) = HoldsPages h (at / 4096) (touched at len)
HoldsAccess h (access.Swap at len op value expected) = HoldsPages h (at / 4096) (touched at len)
HoldsAccess h access.ClearMark = Unit {0}

-- an access of what is held is that of the machine
pub record IsAccessLocal (h M : Parts) (a b : Accessed) : Type 0 where
  pub parts_are : IsLocal h M a.parts b.parts
  pub granule_is : a.granule ≡ b.granule
  pub answer_is : a.answer ≡ b.answer

-- all shards are held
abbrev pub HoldsShards : Parts → Type 0
HoldsShards h = (i : ℕ) → i < 16 → is_some (shard_at h i) ≡ true

-- a call on a range of what is held is that of the machine
pub record IsCallLocal (h M : Parts) (a b : After) : Type 0 where
  pub parts_are : IsLocal h M a.space.parts b.space.parts
  pub areas_are : a.space.areas ≡ b.space.areas
  pub break_is : a.space.break_at ≡ b.space.break_at
  pub start_is : a.space.break_start ≡ b.space.break_start
  pub answer_is : a.answer ≡ b.answer
  pub short_is : a.short ≡ b.short

-- no part but shards changes, and none is added or lost
pub record ShardsAlone (M M' : Parts) : Type 0 where
  pub threads : ThreadsKept M M'
  pub chains : ChainsKept M M'
  pub process : ProcessKept M M'
  pub files : FilesKept M M'
  pub size : length M' ≡ length M
