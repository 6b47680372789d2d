-- A store over several pages keeps the clause.
use Rattle.std.proofs.Common.{◌≡◌, ℕ, zero, suc, ◌+◌, ◌-◌, ◌*◌, ◌/◌, ◌%◌, ◌<◌, ◌≤◌, Bool, true, false, ◌==◌, List, length, take, drop, Option, Some, None, if◌then◌else◌, refl, sym, ap, subst, ◌∙◌, arith, length-drop, take-append-drop}
use Rattle.std.specs.FinMap as finite
use Rattle.page_ranges.specs.declared.rights.Rights.{Rights}
use Rattle.page_store.specs.Pages.{Page, Pages, writes, page_for}
use Rattle.page_store.proofs.Found.{page_if_allowed}
use Rattle.lx_memory.specs.Access.{has}
use Rattle.lx_memory.specs.Bytes.{with_bytes}
use Rattle.lx_memory.proofs.Stored.{with_bytes-append}
use Rattle.guest_mem.specs.Held.{Held, stored}
use Rattle.machine_parts.specs.Parts.{Parts, shard_at, put_shard}
use Rattle.shards_stand.specs.Kept.{kept, kept_in}
use Rattle.shards_stand.specs.Clause.{MemoryStands, MemorySound, Stays}
use Rattle.shards_stand.specs.Pieces.{part, where_page, stored_where, changed_shard, store_at, store_in, AllHave}
use Rattle.shards_stand.specs.SlotMarks.{marks_left}
use Rattle.shards_stand.proofs.Store.{put-change, join-marks, stands-piece, sound-piece, has-of}
use Rattle.lx_machine.specs.Threads.{mark_left}
use Rattle.std.proofs.lemmas.List.{length-take-le}
use Rattle.std.proofs.Math.Seq.{take-length}

pub same-marks : (M : Parts) (granules marks others : ℕ → Option ℕ) (pages : Pages) → ((s : ℕ) → marks s ≡ others s) → MemoryStands M granules pages marks → MemoryStands M granules pages others
same-marks M granules marks others pages same st = record { pages_stand = st.pages_stand; marks_stand = λ s. sym (same s) ∙ st.marks_stand s }

-- the shard that keeps a page
pub record IsKeptBy (o : Option Held) (p : ℕ) (page : Page) : Type 0 where
  pub shard : Held
  pub there : o ≡ Some shard
  pub keeps : finite.get shard.pages p ≡ Some page

pub kept-by : (o : Option Held) (p : ℕ) (page : Page) → kept_in o p ≡ Some page → IsKeptBy o p page
kept-by None p page is = absurd (cc)
kept-by (Some h) p page is = record { shard = h; there = refl; keeps = is }

pub record OnePiece (code : Pages) (M M' : Parts) (granules : ℕ → Option ℕ) (pages : Pages) (marks : ℕ → Option ℕ) : Type 0 where
  pub stays : Stays code M' granules pages marks
  pub rights : (right : Rights → Bool) (q : ℕ) → has right (kept M' q) ≡ has right (kept M q)

module _ (code : Pages) (M : Parts) (slot at : ℕ) (xs : List ℕ) (granules marks : ℕ → Option ℕ) (pages : Pages) (st : MemoryStands M granules pages marks) (sound : MemorySound code M) (some : 0 < length xs) (fits : at % 4096 + length xs ≤ 4096) where
  piece-in : (h : Held) (page : Page) → shard_at M (at / 4096 % 16) ≡ Some h → finite.get h.pages (at / 4096) ≡ Some page → page.rights.write ≡ true → OnePiece code M (store_at M slot at xs) granules (with_bytes pages at xs) (marks_left slot (at / 16) ((at + length xs - 1) / 16) marks)
  piece-in h page there keeps may =
      let allowed : page_for writes h.pages at ≡ Some page = page_if_allowed writes (finite.get h.pages (at / 4096)) page keeps may in
      let is_stored : stored_where slot at xs h ≡ stored h slot at xs = ap (λ (o : Option Page). where_page o h (stored h slot at xs)) allowed in
      let M' = put_shard M (at / 4096 % 16) (stored h slot at xs) in
      let change = put-change M (at / 4096 % 16) h (stored h slot at xs) there in
      let is : M' ≡ store_at M slot at xs = sym (ap (λ (o : Option Held). changed_shard o M (at / 4096 % 16) (stored_where slot at xs)) there ∙ ap (λ (g : Held). put_shard M (at / 4096 % 16) g) is_stored) in
      subst (λ (X : Parts). OnePiece code M X granules (with_bytes pages at xs) (marks_left slot (at / 16) ((at + length xs - 1) / 16) marks)) is (record {
        stays = record {
          stands = stands-piece M M' slot at xs h page there keeps some fits change code granules marks pages st sound;
          sound = sound-piece M M' slot at xs h page there keeps some fits change code sound may;
        };
        rights = has-of M M' slot at xs h page there keeps some fits change code;
      })

  piece-of : (o : Option Page) → kept M (at / 4096) ≡ o → has writes o ≡ true → OnePiece code M (store_at M slot at xs) granules (with_bytes pages at xs) (marks_left slot (at / 16) ((at + length xs - 1) / 16) marks)
  piece-of None is may = absurd (cc)
  piece-of (Some page) is may =
      let by = kept-by (shard_at M (at / 4096 % 16)) (at / 4096) page is in
      piece-in by.shard page by.there by.keeps may

  pub one-piece : has writes (kept M (at / 4096)) ≡ true → OnePiece code M (store_at M slot at xs) granules (with_bytes pages at xs) (marks_left slot (at / 16) ((at + length xs - 1) / 16) marks)
  one-piece may = piece-of (kept M (at / 4096)) refl may

-- two pieces end the marks that both together end
pub marks-joined : (slot at k len s : ℕ) (marks : ℕ → Option ℕ) → 0 < k → k < len → marks_left slot ((at + k) / 16) ((at + k + (len - k) - 1) / 16) (marks_left slot (at / 16) ((at + k - 1) / 16) marks) s ≡ marks_left slot (at / 16) ((at + len - 1) / 16) marks s
marks-joined slot at k len s marks some more =
    let end : at + k + (len - k) - 1 ≡ at + len - 1 = omega arith in
    by (s == slot) (marks s) ((at + k + (len - k) - 1) / 16) (ap (λ (e : ℕ). e / 16) end)
  where
    by : (b : Bool) (m : Option ℕ) (l : ℕ) → l ≡ (at + len - 1) / 16 → (if b then (if b then m else mark_left (at / 16) ((at + k - 1) / 16) m) else mark_left ((at + k) / 16) l (if b then m else mark_left (at / 16) ((at + k - 1) / 16) m)) ≡ (if b then m else mark_left (at / 16) ((at + len - 1) / 16) m)
    by true m l is = refl
    by false m l is = ap (λ (e : ℕ). mark_left ((at + k) / 16) e (mark_left (at / 16) ((at + k - 1) / 16) m)) is ∙ join-marks m (at / 16) ((at + k - 1) / 16) ((at + k) / 16) ((at + len - 1) / 16) (omega arith) (omega arith) (omega arith)

-- the whole range lies in one page
take-all : (at : ℕ) (xs : List ℕ) → at % 4096 + length xs ≤ 4096 → take (part at (length xs)) xs ≡ xs
take-all at xs fits =
    let all : part at (length xs) ≡ length xs = omega arith in
    ap (λ (k : ℕ). take k xs) all ∙ take-length xs

pub stored_stands : (n : ℕ) (code : Pages) (M : Parts) (slot at : ℕ) (xs : List ℕ) (granules marks : ℕ → Option ℕ) (pages : Pages) → MemoryStands M granules pages marks → MemorySound code M → AllHave writes M at (length xs) → 4096 * n < at % 4096 + length xs → at % 4096 + length xs ≤ 4096 * (n + 1) → 0 < length xs → Stays code (store_in (suc n) M slot at xs) granules (with_bytes pages at xs) (marks_left slot (at / 16) ((at + length xs - 1) / 16) marks)
unfolding store_in
stored_stands zero code M slot at xs granules marks pages st sound have more fits some =
    let fit : at % 4096 + length xs ≤ 4096 = omega arith in
    let one = one-piece code M slot at xs granules marks pages st sound some fit (have (at / 4096) (omega arith) (omega arith)) in
    subst (λ (ys : List ℕ). Stays code (store_at M slot at ys) granules (with_bytes pages at xs) (marks_left slot (at / 16) ((at + length xs - 1) / 16) marks)) (sym (take-all at xs fit)) one.stays
stored_stands (suc n) code M slot at xs granules marks pages st sound have more fits some =
    let k = part at (length xs) in
    let k_is : k ≡ 4096 - at % 4096 = omega arith in
    let len : length (take k xs) ≡ k = length-take-le k xs (omega arith) in
    let rest : length (drop k xs) ≡ length xs - k = length-drop k xs in
    let S1 = store_at M slot at (take k xs) in
    let one = one-piece code M slot at (take k xs) granules marks pages st sound (omega (arith, len)) (omega (arith, len)) (have (at / 4096) (omega arith) (omega arith)) in
    let next_at : (at + k) % 4096 ≡ 0 = omega arith in
    let page_at : (at + k) / 4096 ≡ at / 4096 + 1 = omega arith in
    let others = stored_stands n code S1 slot (at + k) (drop k xs) granules (marks_left slot (at / 16) ((at + length (take k xs) - 1) / 16) marks) (with_bytes pages at (take k xs)) one.stays.stands one.stays.sound
    (λ p from lt. one.rights writes p ∙ have p (omega (arith, page_at)) (omega (arith, rest)))
    (omega (arith, rest, next_at)) (omega (arith, rest, next_at)) (omega (arith, rest)) in
    let bytes_are : with_bytes (with_bytes pages at (take k xs)) (at + k) (drop k xs) ≡ with_bytes pages at xs =
    ap (λ (a : ℕ). with_bytes (with_bytes pages at (take k xs)) (at + a) (drop k xs)) (sym len)
    ∙ sym (with_bytes-append pages at (take k xs) (drop k xs))
    ∙ ap (with_bytes pages at) (take-append-drop k xs) in
    record {
      stands = subst (λ (ps : Pages). MemoryStands (store_in (suc n) S1 slot (at + k) (drop k xs)) granules ps (marks_left slot (at / 16) ((at + length xs - 1) / 16) marks)) bytes_are
          (same-marks (store_in (suc n) S1 slot (at + k) (drop k xs)) granules _ (marks_left slot (at / 16) ((at + length xs - 1) / 16) marks) (with_bytes (with_bytes pages at (take k xs)) (at + k) (drop k xs))
          (λ s. ap (λ (r : ℕ). marks_left slot ((at + k) / 16) ((at + k + r - 1) / 16) (marks_left slot (at / 16) ((at + length (take k xs) - 1) / 16) marks) s) rest
          ∙ ap (λ (a : ℕ). marks_left slot ((at + k) / 16) ((at + k + (length xs - k) - 1) / 16) (marks_left slot (at / 16) ((at + a - 1) / 16) marks) s) len
          ∙ marks-joined slot at k (length xs) s marks (omega arith) (omega arith))
          others.stands);
      sound = others.sound;
    }
