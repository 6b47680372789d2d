-- What is held of a machine: its shards are those of the machine, the planned ones are there, and other parts stay.
use Rattle.std.proofs.Common.{◌≡◌, ℕ, zero, suc, ◌+◌, ◌*◌, ◌%◌, ◌<◌, ◌≤◌, true, is_some, map, length, Option, Some, None, refl, sym, ap, subst, ◌∙◌, arith, inl, inr}
use Rattle.std.specs.Prelude.{min}
use Rattle.std.specs.List.{AllByRecursion, range_with_len}
use Rattle.std.proofs.lemmas.Bool.{cases_lt}
use Rattle.page_store.specs.Pages.{Pages}
use Rattle.guest_mem.specs.Held.{Held}
use Rattle.machine_parts.specs.Held.{over, HoldsAll}
use Rattle.machine_parts.specs.Objects.{number}
use Rattle.machine_parts.specs.Plans.{shards_of, shard_behind}
use Rattle.machine_parts.specs.Parts.{Parts, part_at, shard_at, as_shard}
use Rattle.machine_parts.specs.declared.object.Object.{Object}
use Rattle.machine_parts.specs.declared.part.Part.{Part}
use Rattle.machine_parts.proofs.Over.{agrees-same}
use Rattle.machine_parts.proofs.Puts.{put_shard_changes}
use Rattle.shards_stand.specs.Clause.{MemorySound, IsShardOf}
use Rattle.shards_stand.specs.Pieces.{change_shard, changed_shard}
use Rattle.shards_stand.specs.Holding.{HoldsPages, AreParts, ShardsAlone}

-- a shard that is seen is a part
seen-part : (o : Option Part) → is_some (as_shard o) ≡ true → is_some o ≡ true
seen-part None seen = seen
seen-part (Some p) seen = refl

-- what agrees with a machine
pub are-parts : (h M : Parts) → length h ≡ length M → over h M ≡ M → AreParts h M
are-parts h M long agrees i held = ap as_shard (agrees-same h M (128 + i) long agrees (seen-part (part_at h (128 + i)) held))

there : (i : ℕ) (o : Option Held) → IsShardOf i o → is_some o ≡ true
there i None is = absurd is
there i (Some h) is = refl

-- a shard's object that is held
held-shard : (code : Pages) (h M : Parts) (i : ℕ) → MemorySound code M → length h ≡ length M → over h M ≡ M → i < 16 → is_some (part_at h (128 + i)) ≡ true → is_some (shard_at h i) ≡ true
held-shard code h M i sound long agrees lt held =
    ap (λ (o : Option Part). is_some (as_shard o)) (sym (agrees-same h M (128 + i) long agrees held)) ∙ there i (shard_at M i) (sound.there i lt)

each-held : (P : Object → Type 0) (f : ℕ → Object) (n from j : ℕ) → AllByRecursion P (map f (range_with_len from n)) → from ≤ j → j < from + n → P (f j)
each-held P f zero from j all above below = absurd (omega arith)
each-held P f (suc n) from j all above below = elim (cases_lt from j) [
  | inl lt ↦ each-held P f n (from + 1) j all.1 (omega arith) (omega arith)
  | inr le ↦ (let same : from ≡ j = omega arith in subst (λ (k : ℕ). P (f k)) same all.0)
]

-- the shards of the pages of a range, where their objects are held
pub holds-planned : (code : Pages) (h M : Parts) (first count : ℕ) → MemorySound code M → length h ≡ length M → over h M ≡ M → HoldsAll (shards_of first count) h → HoldsPages h first count
holds-planned code h M first count sound long agrees all p from below =
    let j = (p + 15 * first) % 16 in
    let place : (first + j) % 16 ≡ p % 16 = omega arith in
    let less : j < min count 16 = few in
    let is = each-held (λ o. is_some (part_at h (number o)) ≡ true) (shard_behind first) (min count 16) 0 j all (omega arith) (omega (arith, less)) in
    held-shard code h M (p % 16) sound long agrees (omega arith) (ap (λ (i : ℕ). is_some (part_at h (128 + i))) (sym place) ∙ is)
  where
    few : (p + 15 * first) % 16 < min count 16
    few = omega arith

-- ---- the other parts

pub alone-same : (M : Parts) → ShardsAlone M M
alone-same M = record { threads = λ j. refl; chains = λ j. refl; process = refl; files = refl; size = refl }

pub alone-then : (M N O : Parts) → ShardsAlone M N → ShardsAlone N O → ShardsAlone M O
alone-then M N O one two = record {
  threads = λ j. two.threads j ∙ one.threads j;
  chains = λ j. two.chains j ∙ one.chains j;
  process = two.process ∙ one.process;
  files = two.files ∙ one.files;
  size = two.size ∙ one.size;
}

-- a change of one shard; by proofs/ByShards.antt, a store, an access and a call on a range
pub alone-changed : (M : Parts) (i : ℕ) (f : Held → Held) → ShardsAlone M (change_shard M i f)
alone-changed M i f = by (shard_at M i) refl
  where
    by : (o : Option Held) → shard_at M i ≡ o → ShardsAlone M (changed_shard o M i f)
    by None is = alone-same M
    by (Some h) is =
        let kept = put_shard_changes M i h (f h) is in
        record { threads = kept.threads; chains = kept.chains; process = kept.process; files = kept.files; size = kept.size }
