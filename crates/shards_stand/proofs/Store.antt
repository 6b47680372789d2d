-- A store into one page: what is kept, what is marked, and that the clause stays.
use Rattle.std.proofs.Common.{◌≡◌, ◌≢◌, ℕ, ◌+◌, ◌-◌, ◌/◌, ◌%◌, ◌<◌, ◌≤◌, Bool, true, false, ◌&&◌, not, ◌==◌, is_some, List, map, ◌++◌, length, take, drop, get_or, Option, Some, None, IfSome, if◌then◌else◌, refl, sym, ap, subst, ◌∙◌, arith, inl, inr}
use Rattle.std.specs.FinMap as finite
use Rattle.std.proofs.lemmas.Bool.{cases_eq}
use Rattle.std.proofs.lemmas.List.{length-append, length-take-le, length-drop, length-set, length-map}
use Rattle.std.proofs.lemmas.Bool.Decides.{nat_tests}
use Rattle.page_store.specs.Pages.{Page, Pages, changed, written, spliced, page_if}
use Rattle.page_store.proofs.Changed.{changed_kept}
use Rattle.lx_memory.specs.Ranges.{with_page}
use Rattle.page_ranges.specs.declared.rights.Rights.{Rights}
use Rattle.lx_memory.specs.Access.{has, allows}
use Rattle.lx_memory.specs.declared.right.Right.TheVariants.{Execute}
use Rattle.lx_memory.specs.Bytes.{with_bytes}
use Rattle.lx_memory.proofs.OnEach.{get-with_page_same, get-with_page_other}
use Rattle.lx_memory.proofs.Stored.{piece_written}
use Rattle.guest_mem.specs.Held.{Held, stored}
use Rattle.guest_mem.specs.MarkRules.{mark_after}
use Rattle.lx_machine.specs.Threads.{mark_left, is_within}
use Rattle.machine_parts.specs.Parts.{Parts, shard_at, put_shard}
use Rattle.machine_parts.specs.Changes.{ShardChange}
use Rattle.machine_parts.proofs.Puts.{put_shard_changes}
use Rattle.shards_stand.specs.Kept.{kept, kept_in, mark_in, is_mark, marked, standing}
use Rattle.shards_stand.specs.Clause.{IsShardOf, PageStands, MemoryStands, MemorySound}
use Rattle.shards_stand.specs.SlotMarks.{marks_left}
use Rattle.shards_stand.proofs.Marks.{after-own, after-other, is_mark-after}

abbrev pub page_or : Page → Option Page → Page
page_or d None = d
page_or d (Some p) = p

-- ---- one shard changed

pub put-change : (M : Parts) (i : ℕ) (h h' : Held) → shard_at M i ≡ Some h → ShardChange M (put_shard M i h') i h'
put-change M i h h' there = (put_shard_changes M i h h' there).shards

-- ---- marks

pub join-marks : (m : Option ℕ) (f1 l1 f2 l2 : ℕ) → f1 ≤ f2 → l1 ≤ l2 → f2 ≤ l1 + 1 → mark_left f2 l2 (mark_left f1 l1 m) ≡ mark_left f1 l2 m
join-marks None f1 l1 f2 l2 a b c = refl
join-marks (Some g) f1 l1 f2 l2 a b c = grind (arith, nat_tests)

pub standing-left : (b : Bool) (first last g : ℕ) (m : Option ℕ) → m ≡ (if b then Some g else None) → mark_left first last m ≡ (if b && not (is_within first last g) then Some g else None)
standing-left true first last g m is = ap (mark_left first last) is ∙ grind (arith, nat_tests)
standing-left false first last g m is = ap (mark_left first last) is

-- a page with other bytes in it has as many
pub whole-spliced : (old new : List ℕ) (from : ℕ) → length old ≡ 4096 → from + length new ≤ 4096 → length (spliced old from new) ≡ 4096
whole-spliced old new from long fits =
    omega (arith, length-append (take from old) (new ++ drop (from + length new) old), length-append new (drop (from + length new) old), length-take-le from old (omega (arith, long)), length-drop (from + length new) old, long)

module _ (M M' : Parts) (slot at : ℕ) (xs : List ℕ) (h : Held) (page : Page)
    (there : shard_at M (at / 4096 % 16) ≡ Some h) (is_kept : finite.get h.pages (at / 4096) ≡ Some page)
    (some : 0 < length xs) (fits : at % 4096 + length xs ≤ 4096)
    (change : ShardChange M M' (at / 4096 % 16) (stored h slot at xs)) (code : Pages) where
  abbrev first : ℕ
  first = at / 16

  abbrev last : ℕ
  last = (at + length xs - 1) / 16

  abbrev new_page : Page
  new_page = written (at % 4096) xs page

  pages_are : changed h.pages (at / 4096) (written (at % 4096) xs) ≡ with_page h.pages (at / 4096) (Some new_page)
  pages_are = changed_kept h.pages (at / 4096) page (written (at % 4096) xs) is_kept

  pub was_kept : kept M (at / 4096) ≡ Some page
  was_kept = ap (λ (o : Option Held). kept_in o (at / 4096)) there ∙ is_kept

  pub kept-here : kept M' (at / 4096) ≡ Some new_page
  kept-here =
      ap (λ (o : Option Held). kept_in o (at / 4096)) change.now
      ∙ ap (λ (ps : Pages). finite.get ps (at / 4096)) pages_are
      ∙ get-with_page_same h.pages (at / 4096) (Some new_page) (at / 4096) refl

  pub kept-else : (q : ℕ) → q ≢ at / 4096 → kept M' q ≡ kept M q
  kept-else q other = elim (cases_eq (q % 16) (at / 4096 % 16)) [
    | inl same ↦
        ap (λ (i : ℕ). kept_in (shard_at M' i) q) same
        ∙ ap (λ (o : Option Held). kept_in o q) change.now
        ∙ ap (λ (ps : Pages). finite.get ps q) pages_are
        ∙ get-with_page_other h.pages (at / 4096) (Some new_page) q other
        ∙ sym (ap (λ (i : ℕ). kept_in (shard_at M i) q) same ∙ ap (λ (o : Option Held). kept_in o q) there)
    | inr apart ↦ ap (λ (o : Option Held). kept_in o q) (change.others (q % 16) apart)
  ]

  pub marked-own : (g : ℕ) → marked M' slot g ≡ marked M slot g
  marked-own g = elim (cases_eq (g / 256 % 16) (at / 4096 % 16)) [
    | inl same ↦
        ap (λ (i : ℕ). is_mark (mark_in (shard_at M' i) slot) g) same
        ∙ ap (λ (o : Option Held). is_mark (mark_in o slot) g) change.now
        ∙ ap (λ (m : Option ℕ). is_mark m g) (after-own h.marks slot first last)
        ∙ sym (ap (λ (i : ℕ). is_mark (mark_in (shard_at M i) slot) g) same ∙ ap (λ (o : Option Held). is_mark (mark_in o slot) g) there)
    | inr apart ↦ ap (λ (o : Option Held). is_mark (mark_in o slot) g) (change.others (g / 256 % 16) apart)
  ]

  outside : (g : ℕ) → g / 256 ≢ at / 4096 → is_within first last g ≡ false
  outside g apart = grind (arith, nat_tests)

  pub marked-other : (s g : ℕ) → s ≢ slot → marked M' s g ≡ (marked M s g && not (is_within first last g))
  marked-other s g other = elim (cases_eq (g / 256 % 16) (at / 4096 % 16)) [
    | inl same ↦
        ap (λ (i : ℕ). is_mark (mark_in (shard_at M' i) s) g) same
        ∙ ap (λ (o : Option Held). is_mark (mark_in o s) g) change.now
        ∙ ap (λ (m : Option ℕ). is_mark m g) (after-other h.marks slot first last s other)
        ∙ is_mark-after (get_or h.marks s None) first last g
        ∙ sym (ap (λ (b : Bool). b && not (is_within first last g)) (ap (λ (i : ℕ). is_mark (mark_in (shard_at M i) s) g) same ∙ ap (λ (o : Option Held). is_mark (mark_in o s) g) there))
    | inr apart ↦
        let off : is_within first last g ≡ false = outside g (λ e. apart (ap (λ (p : ℕ). p % 16) e)) in
        ap (λ (o : Option Held). is_mark (mark_in o s) g) (change.others (g / 256 % 16) apart) ∙ grind (arith, off)
  ]

  -- ---- the clause

  pub stands-piece : (granules marks : ℕ → Option ℕ) (pages : Pages) → MemoryStands M granules pages marks → MemorySound code M → MemoryStands M' granules (with_bytes pages at xs) (marks_left slot first last marks)
  stands-piece granules marks pages st sound =
      let linux : finite.get pages (at / 4096) ≡ Some page = subst (λ (o : Option Page). PageStands o (finite.get pages (at / 4096))) was_kept (st.pages_stand (at / 4096)) in
      let whole : length page.bytes ≡ 4096 = sound.whole (at / 4096) page was_kept in
      let bytes_are : with_bytes pages at xs ≡ with_page pages (at / 4096) (Some new_page) =
      sym (piece_written pages at xs (subst (λ (o : Option Page). IfSome o (λ p. length p.bytes ≡ 4096)) (sym linux) whole) fits) ∙ changed_kept pages (at / 4096) page (written (at % 4096) xs) linux in
      record {
        pages_stand = λ q. elim (cases_eq q (at / 4096)) [
          | inl same ↦
              let now : kept M' q ≡ Some new_page = ap (kept M') same ∙ kept-here in
              subst (λ (o : Option Page). PageStands o (finite.get (with_bytes pages at xs) q)) (sym now)
              (ap (λ (ps : Pages). finite.get ps q) bytes_are ∙ get-with_page_same pages (at / 4096) (Some new_page) q same)
          | inr other ↦
              let now : kept M' q ≡ kept M q = kept-else q other in
              let then_ : finite.get (with_bytes pages at xs) q ≡ finite.get pages q = ap (λ (ps : Pages). finite.get ps q) bytes_are ∙ get-with_page_other pages (at / 4096) (Some new_page) q other in
              subst (λ (o : Option Page). PageStands o (finite.get (with_bytes pages at xs) q)) (sym now)
              (subst (λ (o : Option Page). PageStands (kept M q) o) (sym then_) (st.pages_stand q))
        ];
        marks_stand = λ s. marks-piece granules marks s (st.marks_stand s);
      }
    where
      marks-of : (s : ℕ) (o m : Option ℕ) → m ≡ standing M s o → s ≢ slot → mark_left first last m ≡ standing M' s o
      marks-of s None m is other = ap (mark_left first last) is
      marks-of s (Some g) m is other = standing-left (marked M s g) first last g m is ∙ ap (λ (b : Bool). if b then Some g else None) (sym (marked-other s g other))

      own-of : (o m : Option ℕ) → m ≡ standing M slot o → m ≡ standing M' slot o
      own-of None m is = is
      own-of (Some g) m is = is ∙ ap (λ (b : Bool). if b then Some g else None) (sym (marked-own g))

      marks-piece : (granules marks : ℕ → Option ℕ) (s : ℕ) → marks s ≡ standing M s (granules s) → marks_left slot first last marks s ≡ standing M' s (granules s)
      marks-piece granules marks s is = elim (cases_eq s slot) [
        | inl same ↦ let own = subst (λ (x : ℕ). marks x ≡ standing M x (granules x)) same is in
            let after = own-of (granules slot) (marks slot) own in
            subst (λ (x : ℕ). marks_left slot first last marks x ≡ standing M' x (granules x)) (sym same) (let yes_ : (slot == slot) ≡ true = grind (arith, nat_tests) in ap (λ (b : Bool). if b then marks slot else mark_left first last (marks slot)) yes_ ∙ after)
        | inr other ↦ let no_ : (s == slot) ≡ false = grind (arith, nat_tests) in ap (λ (b : Bool). if b then marks s else mark_left first last (marks s)) no_ ∙ marks-of s (granules s) (marks s) is other
      ]

  -- no right changes
  pub has-of : (right : Rights → Bool) (q : ℕ) → has right (kept M' q) ≡ has right (kept M q)
  has-of right q = elim (cases_eq q (at / 4096)) [
    | inl same ↦ ap (λ (o : Option Page). has right o) (ap (kept M') same ∙ kept-here) ∙ sym (ap (λ (o : Option Page). has right o) (ap (kept M) same ∙ was_kept))
    | inr other ↦ ap (λ (o : Option Page). has right o) (kept-else q other)
  ]

  -- ---- what holds of the shards alone

  still-kept : (q : ℕ) → is_some (kept M q) ≡ true → is_some (kept M' q) ≡ true
  still-kept q was = elim (cases_eq q (at / 4096)) [
    | inl same ↦ ap (λ (o : Option Page). is_some o) (ap (kept M') same ∙ kept-here)
    | inr other ↦ ap (λ (o : Option Page). is_some o) (kept-else q other) ∙ was
  ]

  was-marked : (s g : ℕ) → marked M' s g ≡ true → marked M s g ≡ true
  was-marked s g is = elim (cases_eq s slot) [
    | inl same ↦ ap (λ (x : ℕ). marked M x g) same ∙ sym (marked-own g) ∙ ap (λ (x : ℕ). marked M' x g) (sym same) ∙ is
    | inr other ↦ let e = marked-other s g other in grind (arith, e, is)
  ]

  same-page : (q : ℕ) (p : Page) → q ≡ at / 4096 → kept M' q ≡ Some p → new_page ≡ p
  same-page q p same is =
      let e : ◌≡◌ {A = Option Page} (Some new_page) (Some p) = sym (ap (kept M') same ∙ kept-here) ∙ is in
      ap (λ (o : Option Page). page_or new_page o) e

  -- a page that may be written is no code, before and after
  no-code : MemorySound code M → page.rights.write ≡ true → page.rights.execute ≡ false
  no-code sound may = by page.rights.execute refl
    where
      by : (b : Bool) → page.rights.execute ≡ b → b ≡ false
      by false is = refl
      by true is =
          let there : finite.get code (at / 4096) ≡ Some page = sound.code_is (at / 4096) ∙ ap (λ (o : Option Page). page_if (allows Execute) o) was_kept ∙ ap (λ (b : Bool). if b then Some page else None) is in
          let fixed = sound.code_fixed (at / 4096) page there in
          absurd (cc)

  pub sound-piece : MemorySound code M → page.rights.write ≡ true → MemorySound code M'
  sound-piece sound may = record {
    there = λ i lt. elim (cases_eq i (at / 4096 % 16)) [
      | inl same ↦
          let was = subst (IsShardOf i) (ap (shard_at M) same ∙ there) (sound.there i lt) in
          subst (IsShardOf i) (sym (ap (shard_at M') same ∙ change.now)) (was.0, length-set (map (mark_after first last) h.marks) slot (get_or h.marks slot None) ∙ length-map h.marks (mark_after first last) ∙ was.1)
      | inr other ↦ subst (IsShardOf i) (sym (change.others i other)) (sound.there i lt)
    ];
    whole = λ q p is. elim (cases_eq q (at / 4096)) [
      | inl same ↦ ap (λ (x : Page). length x.bytes) (sym (same-page q p same is)) ∙ whole-spliced page.bytes xs (at % 4096) (sound.whole (at / 4096) page was_kept) fits
      | inr other ↦ sound.whole q p (sym (kept-else q other) ∙ is)
    ];
    marks_kept = λ s g is. still-kept (g / 256) (sound.marks_kept s g (was-marked s g is));
    in_space = λ q past. elim (cases_eq q (at / 4096)) [
      | inl same ↦ (let none = sound.in_space q past in let e = ap (kept M) same ∙ was_kept in absurd (cc))
      | inr other ↦ kept-else q other ∙ sound.in_space q past
    ];
    code_is = λ q. elim (cases_eq q (at / 4096)) [
      | inl same ↦
          let off : page.rights.execute ≡ false = no-code sound may in
          let none : finite.get code q ≡ None = sound.code_is q ∙ ap (λ (o : Option Page). page_if (allows Execute) o) (ap (kept M) same ∙ was_kept) ∙ ap (λ (b : Bool). if b then Some page else None) off in
          none ∙ sym (ap (λ (o : Option Page). page_if (allows Execute) o) (ap (kept M') same ∙ kept-here) ∙ ap (λ (b : Bool). if b then Some new_page else None) off)
      | inr other ↦ sound.code_is q ∙ ap (λ (o : Option Page). page_if (allows Execute) o) (sym (kept-else q other))
    ];
    code_fixed = sound.code_fixed;
  }
