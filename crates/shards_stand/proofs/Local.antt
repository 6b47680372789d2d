-- What is done to held shards alone is what is done to the whole machine's.
use Rattle.std.proofs.Common.{◌≡◌, ℕ, zero, suc, ◌+◌, ◌-◌, ◌*◌, ◌/◌, ◌%◌, ◌<◌, ◌≤◌, Bool, true, is_some, List, ◌∷◌, length, take, drop, Option, Some, None, option_map, if◌then◌else◌, refl, sym, ap, ◌∙◌, arith, inl, inr, get_or, subst, IfSome, [], map}
use Rattle.std.proofs.lemmas.Bool.{cases_eq}
use Rattle.std.proofs.lemmas.List.{length-drop}
use Rattle.page_ranges.specs.declared.rights.Rights.{Rights}
use Rattle.lx_memory.specs.Access.{has}
use Rattle.lx_memory.specs.Bytes.{bytes_of_page}
use Rattle.page_store.specs.Pages.{Page, Pages}
use Rattle.guest_mem.specs.Held.{Held}
use Rattle.machine_parts.specs.Held.{over, SameObjects}
use Rattle.machine_parts.specs.Parts.{Parts, part_at, shard_at}
use Rattle.machine_parts.specs.declared.part.Part.TheVariants as parts_of
use Rattle.machine_parts.proofs.Over.{length-over, agrees-put, same-put, same-length}
use Rattle.machine_parts.proofs.PartKinds.{shard}
use Rattle.shards_stand.specs.Kept.{kept, kept_in}
use Rattle.shards_stand.specs.Pieces.{part, changed_shard, change_shard, stored_where, store_in, page_lacking, byte_in, bytes_in}
use Rattle.shards_stand.specs.RangeChanges.{on_shards, each_page}
use Rattle.shards_stand.specs.Holding.{HoldsPages, HoldsBytes, AreIndexed, AreParts, IsLocal}
use Rattle.shards_stand.specs.Clause.{IsShardOf, MemorySound}
use Rattle.shards_stand.proofs.Ranges.{change-same, change-other}

pub local-refl : (h M : Parts) → AreParts h M → IsLocal h M h M
local-refl h M parts = record { same = λ i. refl; objects = refl; over_is = λ long agrees. agrees; parts = parts; beside = λ i out. refl }

-- what is put over the machine twice, with the same objects held
over-over : {P : Type 0} (h h' m : List (Option P)) → SameObjects h h' → over h' (over h m) ≡ over h' m
over-over [] [] m is = refl
over-over [] (x ∷ xs) m is = absurd (cc)
over-over (x ∷ xs) [] m is = absurd (cc)
over-over (x ∷ xs) (y ∷ ys) [] is = refl
over-over (Some x ∷ xs) (Some y ∷ ys) (q ∷ m) is = let rest : map is_some xs ≡ map is_some ys = cc in ap (λ l. Some y ∷ l) (over-over xs ys m rest)
over-over (None ∷ xs) (None ∷ ys) (q ∷ m) is = let rest : map is_some xs ≡ map is_some ys = cc in ap (λ l. q ∷ l) (over-over xs ys m rest)
over-over (Some x ∷ xs) (None ∷ ys) (q ∷ m) is = absurd (cc)
over-over (None ∷ xs) (Some y ∷ ys) (q ∷ m) is = absurd (cc)

pub local-trans : (h M h1 M1 h2 M2 : Parts) → IsLocal h M h1 M1 → IsLocal h1 M1 h2 M2 → IsLocal h M h2 M2
local-trans h M h1 M1 h2 M2 one two = record {
  same = λ i. two.same i ∙ one.same i;
  objects = one.objects ∙ two.objects;
  over_is = λ long agrees.
      let first : over h1 M ≡ M1 = one.over_is long agrees in
      let again : over h1 M1 ≡ M1 = ap (over h1) (sym first) ∙ over-over h1 h1 M refl ∙ first in
      let size : length h1 ≡ length M1 = sym (same-length h h1 one.objects) ∙ long ∙ sym (length-over h1 M) ∙ ap (λ l. length l) first in
      sym (over-over h1 h2 M two.objects) ∙ ap (over h2) first ∙ two.over_is size again;
  parts = two.parts;
  beside = λ i out. two.beside i (one.same i ∙ out) ∙ one.beside i out;
}

-- a shard that is there is put into what is held and into the machine
put-objects : (h : Parts) (i : ℕ) (f : Held → Held) (o : Option Held) → shard_at h i ≡ o → SameObjects h (changed_shard o h i f)
put-objects h i f None there = refl
put-objects h i f (Some x) there = same-put h (128 + i) (parts_of.Shard x) (parts_of.Shard (f x)) (shard.is (part_at h (128 + i)) x there)

put-over : (h M : Parts) (i : ℕ) (f : Held → Held) (o : Option Held) → length h ≡ length M → over h M ≡ M → over (changed_shard o h i f) M ≡ changed_shard o M i f
put-over h M i f None long agrees = agrees
put-over h M i f (Some x) long agrees = agrees-put h M (128 + i) (parts_of.Shard (f x)) long agrees

map-some : (o : Option Held) (f : Held → Held) → is_some (option_map f o) ≡ is_some o
map-some None f = refl
map-some (Some h) f = refl

-- a held shard is changed
pub change-local : (h M : Parts) (i : ℕ) (f : Held → Held) → AreParts h M → is_some (shard_at h i) ≡ true → IsLocal h M (change_shard h i f) (change_shard M i f)
change-local h M i f parts held = record {
  same = same;
  objects = put-objects h i f (shard_at h i) refl;
  over_is = λ long agrees. put-over h M i f (shard_at h i) long agrees ∙ ap (λ (o : Option Held). changed_shard o M i f) (sym (parts i held));
  parts = λ k there. elim (cases_eq k i) [
    | inl at ↦ ap (shard_at (change_shard M i f)) at ∙ change-same M i f ∙ ap (option_map f) (parts i held) ∙ sym (ap (shard_at (change_shard h i f)) at ∙ change-same h i f)
    | inr other ↦ change-other M i k f other ∙ parts k (sym (same k) ∙ there) ∙ sym (change-other h i k f other)
  ];
  beside = λ k out. elim (cases_eq k i) [
    | inl at ↦ (let there = ap (λ (j : ℕ). is_some (shard_at h j)) at ∙ held in absurd (cc))
    | inr other ↦ change-other M i k f other
  ];
}
  where
    same : (k : ℕ) → is_some (shard_at (change_shard h i f) k) ≡ is_some (shard_at h k)
    same k = elim (cases_eq k i) [
      | inl at ↦ ap (λ (o : Option Held). is_some o) (ap (shard_at (change_shard h i f)) at ∙ change-same h i f) ∙ map-some (shard_at h i) f ∙ ap (λ (j : ℕ). is_some (shard_at h j)) (sym at)
      | inr other ↦ ap (λ (o : Option Held). is_some o) (change-other h i k f other)
    ]

-- ---- stores, and changes of ranges

-- the shards of the pages from that of an address on
abbrev pub HoldsFrom : Parts → ℕ → ℕ → Type 0
HoldsFrom h at n = (i : ℕ) → i < n → is_some (shard_at h ((at / 4096 + i) % 16)) ≡ true

here-held : (h : Parts) (at n : ℕ) → HoldsFrom h at (suc n) → is_some (shard_at h (at / 4096 % 16)) ≡ true
here-held h at n held = ap (λ (p : ℕ). is_some (shard_at h (p % 16))) (omega arith) ∙ held 0 (omega arith)

pub stored-local : (n : ℕ) (h M : Parts) (slot at : ℕ) (xs : List ℕ) → AreParts h M → HoldsFrom h at (suc n) → 4096 * n < at % 4096 + length xs → at % 4096 + length xs ≤ 4096 * (n + 1) → IsLocal h M (store_in (suc n) h slot at xs) (store_in (suc n) M slot at xs)
unfolding store_in
stored-local zero h M slot at xs parts held low high =
    change-local h M (at / 4096 % 16) (stored_where slot at (take (part at (length xs)) xs)) parts (here-held h at 0 held)
stored-local (suc n) h M slot at xs parts held low high =
    let k = part at (length xs) in
    let k_is : k ≡ 4096 - at % 4096 = omega arith in
    let f = stored_where slot at (take k xs) in
    let one = change-local h M (at / 4096 % 16) f parts (here-held h at (suc n) held) in
    let rest : length (drop k xs) ≡ length xs - k = length-drop k xs in
    let next_at : (at + k) % 4096 ≡ 0 = omega arith in
    let page_at : (at + k) / 4096 ≡ at / 4096 + 1 = omega arith in
    let next : HoldsFrom (change_shard h (at / 4096 % 16) f) (at + k) (suc n) = λ i lt.
    one.same (((at + k) / 4096 + i) % 16) ∙ ap (λ (p : ℕ). is_some (shard_at h (p % 16))) (omega (arith, page_at)) ∙ held (i + 1) (omega arith) in
    local-trans h M (change_shard h (at / 4096 % 16) f) (change_shard M (at / 4096 % 16) f) (store_in (suc n) (change_shard h (at / 4096 % 16) f) slot (at + k) (drop k xs)) (store_in (suc n) (change_shard M (at / 4096 % 16) f) slot (at + k) (drop k xs)) one
    (stored-local n (change_shard h (at / 4096 % 16) f) (change_shard M (at / 4096 % 16) f) slot (at + k) (drop k xs) one.parts next (omega (arith, rest, next_at)) (omega (arith, rest, next_at)))

pub shards-local : (n : ℕ) (f : Held → Held) (h M : Parts) → AreParts h M → ((i : ℕ) → i < n → is_some (shard_at h i) ≡ true) → IsLocal h M (on_shards f h n) (on_shards f M n)
unfolding on_shards
shards-local zero f h M parts held = local-refl h M parts
shards-local (suc n) f h M parts held =
    let before = shards-local n f h M parts (λ i lt. held i (omega arith)) in
    local-trans h M (on_shards f h n) (on_shards f M n) (on_shards f h (suc n)) (on_shards f M (suc n)) before
    (change-local (on_shards f h n) (on_shards f M n) n f before.parts (before.same n ∙ held n (omega arith)))

pub pages-local : (count : ℕ) (change : Held → ℕ → Held) (h M : Parts) (first : ℕ) → AreParts h M → HoldsPages h first count → IsLocal h M (each_page change h first count) (each_page change M first count)
unfolding each_page
pages-local zero change h M first parts held = local-refl h M parts
pages-local (suc count) change h M first parts held =
    let before = pages-local count change h M first parts (λ p from lt. held p from (omega arith)) in
    local-trans h M (each_page change h first count) (each_page change M first count) (each_page change h first (suc count)) (each_page change M first (suc count)) before
    (change-local (each_page change h first count) (each_page change M first count) ((first + count) % 16) (λ g. change g (first + count)) before.parts (before.same ((first + count) % 16) ∙ held (first + count) (omega arith) (omega arith)))

-- ---- reads

pub kept-local : (h M : Parts) (p : ℕ) → AreParts h M → is_some (shard_at h (p % 16)) ≡ true → kept h p ≡ kept M p
kept-local h M p parts held = ap (λ (o : Option Held). kept_in o p) (sym (parts (p % 16) held))

pub lacking-local : (right : Rights → Bool) (h M : Parts) (first n : ℕ) → AreParts h M → HoldsPages h first n → page_lacking right h first n ≡ page_lacking right M first n
unfolding page_lacking
lacking-local right h M first zero parts held = refl
lacking-local right h M first (suc n) parts held =
    ap (λ (o : Option Page). if has right o then page_lacking right h (first + 1) n else Some first) (kept-local h M first parts (held first (omega arith) (omega arith)))
    ∙ ap (λ (r : Option ℕ). if has right (kept M first) then r else Some first) (lacking-local right h M (first + 1) n parts (λ p from lt. held p (omega arith) (omega arith)))

pub bytes-local : (len : ℕ) (h M : Parts) (at : ℕ) → AreParts h M → HoldsBytes h at len → bytes_in h at len ≡ bytes_in M at len
unfolding bytes_in
bytes-local zero h M at parts held = refl
bytes-local (suc len) h M at parts held =
    ap (λ (o : Option Page). get_or (bytes_of_page o) (at % 4096) 0 ∷ bytes_in h (at + 1) len) (kept-local h M (at / 4096) parts (held at (omega arith) (omega arith)))
    ∙ ap (λ (l : List ℕ). byte_in M at ∷ l) (bytes-local len h M (at + 1) parts (λ a from lt. held a (omega arith) (omega arith)))

-- ---- what the code's conditions ask of what is held

shard-index : (i : ℕ) (o : Option Held) → IsShardOf i o → IfSome o (λ h. h.index ≡ i)
shard-index i None is = absurd is
shard-index i (Some h) is = is.0

pub holds-indexed : (code : Pages) (h M : Parts) (at len : ℕ) → MemorySound code M → AreParts h M → HoldsBytes h at len → AreIndexed h at len
holds-indexed code h M at len sound parts held a from below =
    let there = held a from below in
    shard-index (a / 4096 % 16) (shard_at h (a / 4096 % 16)) (subst (IsShardOf (a / 4096 % 16)) (parts (a / 4096 % 16) there) (sound.there (a / 4096 % 16) (omega arith)))
