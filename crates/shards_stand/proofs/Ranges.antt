-- What a change of a range does to the shards as one memory, and that the clause stays.
use Rattle.std.proofs.Common.{◌≡◌, ◌≢◌, ℕ, zero, suc, ◌+◌, ◌-◌, ◌*◌, ◌/◌, ◌%◌, ◌^◌, ◌<◌, ◌≤◌, Bool, true, false, ◌==◌, ◌&&◌, not, nat_le, nat_lt, is_some, length, Option, Some, None, option_map, if◌then◌else◌, refl, sym, ap, subst, ◌∙◌, arith, inl, inr}
use Rattle.std.specs.FinMap as finite
use Rattle.std.proofs.lemmas.Bool.{cases_eq, cases_lt}
use Rattle.std.proofs.lemmas.Bool.Decides.{nat_tests}
use Rattle.page_ranges.specs.Ranges.{within}
use Rattle.page_store.specs.Pages.{Page, Pages, page_if}
use Rattle.lx_memory.specs.Access.{allows}
use Rattle.lx_memory.specs.declared.right.Right.TheVariants.{Execute}
use Rattle.lx_memory.specs.Ranges.{IsOnEach}
use Rattle.lx_machine.specs.Threads.{mark_left, is_within}
use Rattle.guest_mem.specs.Held.{Held}
use Rattle.machine_parts.specs.Parts.{Parts, shard_at}
use Rattle.shards_stand.specs.Kept.{kept, kept_in, mark_in, is_mark, marked, standing}
use Rattle.shards_stand.specs.Clause.{IsShardOf, PageStands, MemoryStands, MemorySound}
use Rattle.shards_stand.specs.Pieces.{changed_shard, change_shard}
use Rattle.shards_stand.specs.RangeChanges.{each_kept, on_shards, each_page, needed, room_in, has_room}
use Rattle.shards_stand.specs.SlotMarks.{marks_left, wrote}
use Rattle.shards_stand.proofs.Store.{put-change, standing-left}
use Rattle.shards_stand.proofs.Shardwise.{Changes, each_kept-pages, each_kept-marks, each_kept-slots, each_kept-index, Places, in_room, each_own, Placed, each_own-placed}

-- ---- one shard changed

change-by : (o : Option Held) (M : Parts) (i : ℕ) (f : Held → Held) → shard_at M i ≡ o → shard_at (changed_shard o M i f) i ≡ option_map f (shard_at M i)
change-by None M i f is = is ∙ sym (ap (option_map f) is)
change-by (Some h) M i f is = (put-change M i h (f h) is).now ∙ sym (ap (option_map f) is)

pub change-same : (M : Parts) (i : ℕ) (f : Held → Held) → shard_at (change_shard M i f) i ≡ option_map f (shard_at M i)
change-same M i f = change-by (shard_at M i) M i f refl

other-by : (o : Option Held) (M : Parts) (i k : ℕ) (f : Held → Held) → shard_at M i ≡ o → k ≢ i → shard_at (changed_shard o M i f) k ≡ shard_at M k
other-by None M i k f is other = refl
other-by (Some h) M i k f is other = (put-change M i h (f h) is).others k other

pub change-other : (M : Parts) (i k : ℕ) (f : Held → Held) → k ≢ i → shard_at (change_shard M i f) k ≡ shard_at M k
change-other M i k f other = other-by (shard_at M i) M i k f refl other

-- ---- all shards, and all pages of a range

pub shard-on : (f : Held → Held) (M : Parts) (n i : ℕ) → shard_at (on_shards f M n) i ≡ (if nat_lt i n then option_map f (shard_at M i) else shard_at M i)
unfolding on_shards
shard-on f M zero i = grind (arith, nat_tests)
shard-on f M (suc n) i = elim (cases_eq i n) [
  | inl same ↦
      let before : (nat_lt i n) ≡ false = grind (arith, nat_tests) in
      let after : (nat_lt i (suc n)) ≡ true = grind (arith, nat_tests) in
      ap (shard_at (on_shards f M (suc n))) same ∙ change-same (on_shards f M n) n f ∙ ap (λ (k : ℕ). option_map f (shard_at (on_shards f M n) k)) (sym same)
      ∙ ap (option_map f) (shard-on f M n i ∙ ap (λ (b : Bool). if b then option_map f (shard_at M i) else shard_at M i) before)
      ∙ sym (ap (λ (b : Bool). if b then option_map f (shard_at M i) else shard_at M i) after)
  | inr other ↦
      let same_ : (nat_lt i n) ≡ nat_lt i (suc n) = grind (arith, nat_tests) in
      change-other (on_shards f M n) n i f other ∙ shard-on f M n i ∙ ap (λ (b : Bool). if b then option_map f (shard_at M i) else shard_at M i) same_
]

own-step : (o : Option Held) (i : ℕ) (change : Held → ℕ → Held) (first count : ℕ) → (first + count) % 16 ≡ i → option_map (λ h. change h (first + count)) (option_map (λ h. each_own i change h first count) o) ≡ option_map (λ h. each_own i change h first (suc count)) o
unfolding each_own
own-step None i change first count own = refl
own-step (Some h) i change first count own = let own_ : ((first + count) % 16 == i) ≡ true = grind (arith, nat_tests) in ap {B = Option Held} (λ (b : Bool). Some (if b then change (each_own i change h first count) (first + count) else each_own i change h first count)) (sym own_)

skip-step : (o : Option Held) (i : ℕ) (change : Held → ℕ → Held) (first count : ℕ) → (first + count) % 16 ≢ i → option_map (λ h. each_own i change h first count) o ≡ option_map (λ h. each_own i change h first (suc count)) o
unfolding each_own
skip-step None i change first count other = refl
skip-step (Some h) i change first count other = let no_ : ((first + count) % 16 == i) ≡ false = grind (arith, nat_tests) in ap {B = Option Held} (λ (b : Bool). Some (if b then change (each_own i change h first count) (first + count) else each_own i change h first count)) (sym no_)

map-none : (o : Option Held) → option_map (λ h. h) o ≡ o
map-none None = refl
map-none (Some h) = refl

pub shard-each : (change : Held → ℕ → Held) (M : Parts) (first count i : ℕ) → shard_at (each_page change M first count) i ≡ option_map (λ h. each_own i change h first count) (shard_at M i)
unfolding each_page each_own
shard-each change M first zero i = sym (map-none (shard_at M i))
shard-each change M first (suc count) i = elim (cases_eq i ((first + count) % 16)) [
  | inl same ↦
      ap (shard_at (each_page change M first (suc count))) same ∙ change-same (each_page change M first count) ((first + count) % 16) (λ h. change h (first + count))
      ∙ ap (λ (k : ℕ). option_map (λ h. change h (first + count)) (shard_at (each_page change M first count) k)) (sym same)
      ∙ ap (option_map (λ h. change h (first + count))) (shard-each change M first count i)
      ∙ own-step (shard_at M i) i change first count (sym same)
  | inr other ↦ change-other (each_page change M first count) ((first + count) % 16) i (λ h. change h (first + count)) other ∙ shard-each change M first count i ∙ skip-step (shard_at M i) i change first count (λ e. other (sym e))
]

pub room-of : (M : Parts) (first count n i : ℕ) (h : Held) → has_room M first count n ≡ true → i < n → shard_at M i ≡ Some h → needed h i first count ≤ h.spare
unfolding has_room
room-of M first count zero i h room lt there = absurd (omega arith)
room-of M first count (suc n) i h room lt there = elim (cases_eq i n) [
  | inl same ↦
      let here : room_in (shard_at M n) n first count ≡ true = grind arith in
      let at_i : room_in (shard_at M i) i first count ≡ true = subst (λ (k : ℕ). room_in (shard_at M k) k first count ≡ true) (sym same) here in
      let le : nat_le (needed h i first count) h.spare ≡ true = sym (ap (λ (o : Option Held). room_in o i first count) there) ∙ at_i in
      grind (arith, nat_tests, le)
  | inr other ↦ let before : has_room M first count n ≡ true = grind arith in room-of M first count n i h before (omega arith) there
]

-- ---- the shards as one memory

pub record RangeChange (M M' : Parts) (first count : ℕ) (f : Option Page → Option Page) (ends : Bool) : Type 0 where
  pub kept_are : (q : ℕ) → kept M' q ≡ (if within first count q then f (kept M q) else kept M q)
  pub marks_are : (s g : ℕ) → marked M' s g ≡ (marked M s g && not (ends && within first count (g / 256)))
  pub there : (i : ℕ) → i < 16 → IsShardOf i (shard_at M' i)

-- the shard of an index
pub record IsThere (i : ℕ) (o : Option Held) : Type 0 where
  pub shard : Held
  pub is : o ≡ Some shard
  pub index : shard.index ≡ i
  pub slots : length shard.marks ≡ 128

pub the-shard : (i : ℕ) (o : Option Held) → IsShardOf i o → IsThere i o
the-shard i None has = absurd has
the-shard i (Some h) has = record { shard = h; is = refl; index = has.0; slots = has.1 }

module _ (code : Pages) (M : Parts) (sound : MemorySound code M) (first count : ℕ) where
  shard-of : (p : ℕ) → IsThere (p % 16) (shard_at M (p % 16))
  shard-of p = the-shard (p % 16) (shard_at M (p % 16)) (sound.there (p % 16) (omega arith))

  pub kept-change : (change : Held → ℕ → Held) (f : Option Page → Option Page) (ends : Bool) → Changes change f ends → RangeChange M (on_shards (λ h. each_kept change h first count) M 16) first count f ends
  kept-change change f ends does = record {
    kept_are = λ q. let it = shard-of q in
        ap (λ (o : Option Held). kept_in o q) (now q it)
        ∙ each_kept-pages change f ends does it.shard first count q
        ∙ sym (ap (λ (o : Option Held). if within first count q then f (kept_in o q) else kept_in o q) it.is);
    marks_are = λ s g. let it = shard-of (g / 256) in
        ap (λ (o : Option Held). is_mark (mark_in o s) g) (now (g / 256) it)
        ∙ each_kept-marks change f ends does it.shard first count s g
        (λ m. sym (ap (λ (o : Option Held). is_some (kept_in o (g / 256))) it.is) ∙ sound.marks_kept s g (ap (λ (o : Option Held). is_mark (mark_in o s) g) it.is ∙ m))
        ∙ sym (ap (λ (o : Option Held). is_mark (mark_in o s) g && not (ends && within first count (g / 256))) it.is);
    there = λ i lt. let it = the-shard i (shard_at M i) (sound.there i lt) in subst (IsShardOf i) (sym (shard-on (λ h. each_kept change h first count) M 16 i ∙ (let in_ : (nat_lt i 16) ≡ true = grind (arith, nat_tests) in ap (λ (b : Bool). if b then option_map (λ h. each_kept change h first count) (shard_at M i) else shard_at M i) in_) ∙ ap (option_map (λ h. each_kept change h first count)) it.is)) (each_kept-index change f ends does it.shard first count ∙ it.index, each_kept-slots change f ends does it.shard first count ∙ it.slots);
  }
    where
      now : (p : ℕ) → (it : IsThere (p % 16) (shard_at M (p % 16))) → shard_at (on_shards (λ h. each_kept change h first count) M 16) (p % 16) ≡ Some (each_kept change it.shard first count)
      now p it =
          let in_ : (nat_lt (p % 16) 16) ≡ true = grind (arith, nat_tests) in
          shard-on (λ h. each_kept change h first count) M 16 (p % 16)
          ∙ ap (λ (b : Bool). if b then option_map (λ h. each_kept change h first count) (shard_at M (p % 16)) else shard_at M (p % 16)) in_
          ∙ ap (option_map (λ h. each_kept change h first count)) it.is

  pub room-change : (change : Held → ℕ → Held) (f : Option Page → Option Page) (ends : Bool) → Places change f ends → has_room M first count 16 ≡ true → RangeChange M (each_page (in_room change) M first count) first count f ends
  room-change change f ends does room = record {
    kept_are = λ q. let it = shard-of q in
        let own_ : (q % 16 == q % 16) ≡ true = grind (arith, nat_tests) in
        ap (λ (o : Option Held). kept_in o q) (now q it)
        ∙ (placed q it).pages_are q
        ∙ sym (ap (λ (o : Option Held). if within first count q then f (kept_in o q) else kept_in o q) it.is ∙ also (within first count q) (q % 16 == q % 16) (f (finite.get it.shard.pages q)) (finite.get it.shard.pages q) own_);
    marks_are = λ s g. let it = shard-of (g / 256) in
        ap (λ (o : Option Held). is_mark (mark_in o s) g) (now (g / 256) it)
        ∙ (placed (g / 256) it).marks_are s g refl
        ∙ sym (ap (λ (o : Option Held). is_mark (mark_in o s) g && not (ends && within first count (g / 256))) it.is);
    there = λ i lt. let it = the-shard i (shard_at M i) (sound.there i lt) in subst (IsShardOf i) (sym (shard-each (in_room change) M first count i ∙ ap (option_map (λ h. each_own i (in_room change) h first count)) it.is)) (let done = each_own-placed i change f ends does it.shard first count (room-of M first count 16 i it.shard room lt it.is) in (done.index_is ∙ it.index, done.slots_are ∙ it.slots));
  }
    where
      now : (p : ℕ) → (it : IsThere (p % 16) (shard_at M (p % 16))) → shard_at (each_page (in_room change) M first count) (p % 16) ≡ Some (each_own (p % 16) (in_room change) it.shard first count)
      now p it = shard-each (in_room change) M first count (p % 16) ∙ ap (option_map (λ h. each_own (p % 16) (in_room change) h first count)) it.is

      placed : (p : ℕ) → (it : IsThere (p % 16) (shard_at M (p % 16))) → Placed (p % 16) f ends it.shard (each_own (p % 16) (in_room change) it.shard first count) first count
      placed p it = each_own-placed (p % 16) change f ends does it.shard first count (room-of M first count 16 (p % 16) it.shard room (omega arith) it.is)

      also : (w b : Bool) (x y : Option Page) → b ≡ true → (if w then x else y) ≡ (if w && b then x else y)
      also w b x y is = grind (arith, is)

-- ---- the clause, after a change of a range

-- what a change of a page leaves of what holds of kept pages
pub record IsPageRule (f : Option Page → Option Page) (ends : Bool) : Type 0 where
  pub whole : (o : Option Page) (page : Page) → ((x : Page) → o ≡ Some x → length x.bytes ≡ 4096) → f o ≡ Some page → length page.bytes ≡ 4096
  pub no_code : (o : Option Page) → page_if (allows Execute) o ≡ None → page_if (allows Execute) (f o) ≡ None
  pub keeps : (o : Option Page) → ends ≡ false → is_some o ≡ true → is_some (f o) ≡ true

within-true : (first count q : ℕ) → first ≤ q → q < first + count → within first count q ≡ true
within-true first count q from below = grind (arith, nat_tests)

within-false : (first count q : ℕ) → (first ≤ q → q < first + count → ⊥) → within first count q ≡ false
within-false first count q out = elim (cases_lt q first) [
  | inl lt ↦ grind (arith, nat_tests)
  | inr from ↦ elim (cases_lt q (first + count)) [
    | inl lt ↦ absurd (out from lt)
    | inr past ↦ grind (arith, nat_tests)
  ]
]

-- the granules of a range of pages
granules-are : (first count g : ℕ) → 0 < count → is_within (first * 4096 / 16) ((first * 4096 + count * 4096 - 1) / 16) g ≡ within first count (g / 256)
granules-are first count g some =
    let low : first * 4096 / 16 ≡ first * 256 = omega arith in
    let high : (first * 4096 + count * 4096 - 1) / 16 ≡ first * 256 + count * 256 - 1 = omega arith in
    ap (λ (a : ℕ). is_within a ((first * 4096 + count * 4096 - 1) / 16) g) low ∙ ap (λ (b : ℕ). is_within (first * 256) b g) high
    ∙ elim (cases_lt (g / 256) first) as (λ _. is_within (first * 256) (first * 256 + count * 256 - 1) g ≡ within first count (g / 256)) [
      | inl lt ↦ let off : within first count (g / 256) ≡ false = grind (arith, nat_tests) in grind (arith, nat_tests, off)
      | inr from ↦ elim (cases_lt (g / 256) (first + count)) [
        | inl lt ↦ let on : within first count (g / 256) ≡ true = grind (arith, nat_tests) in grind (arith, nat_tests, on)
        | inr past ↦ let off : within first count (g / 256) ≡ false = grind (arith, nat_tests) in grind (arith, nat_tests, off)
      ]
    ]

-- the marks that end, and the others stay
abbrev pub ended : Bool → ℕ → ℕ → ℕ → (ℕ → Option ℕ) → ℕ → Option ℕ
ended ends slot first count marks s = if ends then wrote slot (first * 4096) (count * 4096) marks s else marks s

module _ (M M' : Parts) (first count : ℕ) (f : Option Page → Option Page) (ends : Bool) (change : RangeChange M M' first count f ends) where
  pub kept-in : (q : ℕ) → first ≤ q → q < first + count → kept M' q ≡ f (kept M q)
  kept-in q from below = change.kept_are q ∙ ap (λ (b : Bool). if b then f (kept M q) else kept M q) (within-true first count q from below)

  pub kept-out : (q : ℕ) → (first ≤ q → q < first + count → ⊥) → kept M' q ≡ kept M q
  kept-out q out = change.kept_are q ∙ ap (λ (b : Bool). if b then f (kept M q) else kept M q) (within-false first count q out)

  marks-own : (m : Option ℕ) (s : ℕ) (o : Option ℕ) → o ≡ None → m ≡ standing M s o → m ≡ standing M' s o
  marks-own m s None none is = is
  marks-own m s (Some g) none is = absurd (cc)

  marks-other : (e : Bool) (slot s : ℕ) (marks : ℕ → Option ℕ) (o : Option ℕ) → e ≡ ends → s ≢ slot → marks s ≡ standing M s o → ended e slot first count marks s ≡ standing M' s o
  marks-other false slot s marks None same other is = is
  marks-other false slot s marks (Some g) same other is =
      is ∙ ap (λ (b : Bool). if b then Some g else None) (sym (change.marks_are s g ∙ ap (λ (b : Bool). marked M s g && not (b && within first count (g / 256))) (sym same) ∙ whole (marked M s g)))
    where
      whole : (b : Bool) → (b && true) ≡ b
      whole true = refl
      whole false = refl
  marks-other true slot s marks o same other is = elim (cases_eq count 0) [
    | inl none ↦
        let zero_ : (count * 4096 == 0) ≡ true = grind (arith, nat_tests) in
        ap (λ (b : Bool). if b then marks s else marks_left slot (first * 4096 / 16) ((first * 4096 + count * 4096 - 1) / 16) marks s) zero_ ∙ is ∙ empty o none
    | inr some ↦
        let more : (count * 4096 == 0) ≡ false = grind (arith, nat_tests) in
        let not_own : (s == slot) ≡ false = grind (arith, nat_tests) in
        ap (λ (b : Bool). if b then marks s else marks_left slot (first * 4096 / 16) ((first * 4096 + count * 4096 - 1) / 16) marks s) more
        ∙ ap (λ (b : Bool). if b then marks s else mark_left (first * 4096 / 16) ((first * 4096 + count * 4096 - 1) / 16) (marks s)) not_own
        ∙ left o is (omega arith)
  ]
    where
      empty : (x : Option ℕ) → count ≡ 0 → standing M s x ≡ standing M' s x
      empty None none = refl
      empty (Some g) none =
          let off : within first count (g / 256) ≡ false = within-false first count (g / 256) (λ a b. omega arith) in
          ap (λ (b : Bool). if b then Some g else None) (sym (change.marks_are s g ∙ ap (λ (b : Bool). marked M s g && not (ends && b)) off ∙ stay (marked M s g) ends))
        where
          stay : (b e : Bool) → (b && not (e && false)) ≡ b
          stay b e = grind arith

      left : (x : Option ℕ) → marks s ≡ standing M s x → 0 < count → mark_left (first * 4096 / 16) ((first * 4096 + count * 4096 - 1) / 16) (marks s) ≡ standing M' s x
      left None is some = ap (mark_left (first * 4096 / 16) ((first * 4096 + count * 4096 - 1) / 16)) is
      left (Some g) is some =
          standing-left (marked M s g) (first * 4096 / 16) ((first * 4096 + count * 4096 - 1) / 16) g (marks s) is
          ∙ ap (λ (b : Bool). if marked M s g && not b then Some g else None) (granules-are first count g some)
          ∙ ap (λ (b : Bool). if b then Some g else None) (sym (change.marks_are s g ∙ ap (λ (b : Bool). marked M s g && not (b && within first count (g / 256))) (sym same)))

  -- the slot that makes the call has no granule
  pub stands-range : (slot : ℕ) (granules marks : ℕ → Option ℕ) (pages pages' : Pages) (g : Option Page → Option Page) → MemoryStands M granules pages marks → IsOnEach g pages first count pages' → ((q : ℕ) → first ≤ q → q < first + count → PageStands (f (kept M q)) (g (finite.get pages q))) → granules slot ≡ None → MemoryStands M' granules pages' (ended ends slot first count marks)
  stands-range slot granules marks pages pages' g st each page none = record {
    pages_stand = λ q. elim (cases_lt q first) [
      | inl lt ↦ out q (λ a b. omega arith)
      | inr from ↦ elim (cases_lt q (first + count)) [
        | inl lt ↦
            subst (λ (o : Option Page). PageStands o (finite.get pages' q)) (sym (kept-in q from lt))
            (subst (λ (o : Option Page). PageStands (f (kept M q)) o) (sym (each q ∙ ap (λ (b : Bool). if b then g (finite.get pages q) else finite.get pages q) (within-true first count q from lt))) (page q from lt))
        | inr past ↦ out q (λ a b. omega arith)
      ]
    ];
    marks_stand = λ s. elim (cases_eq s slot) [
      | inl same ↦
          let here : granules s ≡ None = ap granules same ∙ none in
          let own_ : (s == slot) ≡ true = grind (arith, nat_tests) in
          same-slot s ends own_ ∙ marks-own (marks s) s (granules s) here (st.marks_stand s)
      | inr other ↦ marks-other ends slot s marks (granules s) refl other (st.marks_stand s)
    ];
  }
    where
      out : (q : ℕ) → (first ≤ q → q < first + count → ⊥) → PageStands (kept M' q) (finite.get pages' q)
      out q off =
          subst (λ (o : Option Page). PageStands o (finite.get pages' q)) (sym (kept-out q off))
          (subst (λ (o : Option Page). PageStands (kept M q) o) (sym (each q ∙ ap (λ (b : Bool). if b then g (finite.get pages q) else finite.get pages q) (within-false first count q off))) (st.pages_stand q))

      same-slot : (s : ℕ) (e : Bool) → (s == slot) ≡ true → ended e slot first count marks s ≡ marks s
      same-slot s false is = refl
      same-slot s true is = either (count * 4096 == 0) ∙ refl
        where
          either : (b : Bool) → (if b then marks s else marks_left slot (first * 4096 / 16) ((first * 4096 + count * 4096 - 1) / 16) marks s) ≡ marks s
          either true = refl
          either false = ap (λ (b : Bool). if b then marks s else mark_left (first * 4096 / 16) ((first * 4096 + count * 4096 - 1) / 16) (marks s)) is

  pub sound-range : (code : Pages) → MemorySound code M → IsPageRule f ends → ((q : ℕ) → first ≤ q → q < first + count → page_if (allows Execute) (kept M q) ≡ None) → first + count ≤ 2 ^ 52 → MemorySound code M'
  sound-range code sound rule no_code space = record {
    there = change.there;
    whole = λ q page is. elim (cases_lt q first) [
      | inl lt ↦ sound.whole q page (sym (kept-out q (λ a b. omega arith)) ∙ is)
      | inr from ↦ elim (cases_lt q (first + count)) [
        | inl lt ↦ rule.whole (kept M q) page (sound.whole q) (sym (kept-in q from lt) ∙ is)
        | inr past ↦ sound.whole q page (sym (kept-out q (λ a b. omega arith)) ∙ is)
      ]
    ];
    marks_kept = λ s g is.
        let parts = both (marked M s g) ends (within first count (g / 256)) (sym (change.marks_are s g) ∙ is) in
        let was = sound.marks_kept s g parts.0 in
        elim (cases_lt (g / 256) first) [
          | inl lt ↦ ap (λ (o : Option Page). is_some o) (kept-out (g / 256) (λ a b. omega arith)) ∙ was
          | inr from ↦ elim (cases_lt (g / 256) (first + count)) [
            | inl lt ↦ ap (λ (o : Option Page). is_some o) (kept-in (g / 256) from lt) ∙ rule.keeps (kept M (g / 256)) (parts.1 (within-true first count (g / 256) from lt)) was
            | inr past ↦ ap (λ (o : Option Page). is_some o) (kept-out (g / 256) (λ a b. omega arith)) ∙ was
          ]
        ];
    in_space = λ q past. kept-out q (λ a b. omega arith) ∙ sound.in_space q past;
    code_is = λ q. elim (cases_lt q first) [
      | inl lt ↦ sound.code_is q ∙ ap (λ (o : Option Page). page_if (allows Execute) o) (sym (kept-out q (λ a b. omega arith)))
      | inr from ↦ elim (cases_lt q (first + count)) [
        | inl lt ↦ sound.code_is q ∙ no_code q from lt ∙ sym (ap (λ (o : Option Page). page_if (allows Execute) o) (kept-in q from lt) ∙ rule.no_code (kept M q) (no_code q from lt))
        | inr past ↦ sound.code_is q ∙ ap (λ (o : Option Page). page_if (allows Execute) o) (sym (kept-out q (λ a b. omega arith)))
      ]
    ];
    code_fixed = sound.code_fixed;
  }
    where
      both : (b e w : Bool) → (b && not (e && w)) ≡ true → (b ≡ true) × (w ≡ true → e ≡ false)
      both true true true is = absurd (cc)
      both true true false is = (refl, λ h. absurd (cc))
      both true false w is = (refl, λ h. refl)
      both false e w is = absurd (cc)
