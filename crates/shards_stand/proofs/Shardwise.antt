-- What a change of a range does to one shard.
use Rattle.std.proofs.Common.{◌≡◌, ◌≢◌, ℕ, zero, suc, ◌+◌, ◌-◌, ◌/◌, ◌%◌, ◌<◌, ◌≤◌, Bool, true, false, ◌==◌, ◌&&◌, ◌||◌, not, is_some, List, length, get_or, Option, Some, None, option_map, if◌then◌else◌, refl, sym, ap, subst, ◌∙◌, arith, inl, inr}
use Rattle.std.specs.FinMap as finite
use Rattle.std.proofs.lemmas.Bool.{cases_eq}
use Rattle.std.proofs.lemmas.Bool.Decides.{nat_tests}
use Rattle.std.proofs.lemmas.List.{length-map}
use Rattle.sorted_entries.proofs.Entries.{remove_absent}
use Rattle.page_ranges.specs.declared.rights.Rights.{Rights}
use Rattle.page_ranges.specs.Ranges.{within}
use Rattle.page_store.specs.Pages.{Page, Pages, has_any, with_rights, blanked, blank, changed}
use Rattle.lx_memory.specs.Ranges.{with_page, IsOnEach, away, given, cleared, anew}
use Rattle.lx_memory.proofs.OnEach.{on_none, one_more, behind_range, get-with_page_same, get-with_page_other}
use Rattle.lx_memory.proofs.Changes.{changed-with_page}
use Rattle.guest_mem.specs.Held.{Held, unmapped, zeroed, mapped, protected}
use Rattle.guest_mem.specs.MarkRules.{mark_off, marks_off}
use Rattle.shards_stand.specs.Kept.{is_mark}
use Rattle.shards_stand.specs.RangeChanges.{if_kept, each_kept, is_full, ones, needed}
use Rattle.shards_stand.proofs.Marks.{get-map, is_mark-off}

-- a change of a kept page puts what `f` makes of it, and ends the marks on it, or none
pub record Changes (change : Held → ℕ → Held) (f : Option Page → Option Page) (ends : Bool) : Type 0 where
  pub pages_are : (h : Held) (p : ℕ) → finite.contains_key h.pages p ≡ true → (change h p).pages ≡ with_page h.pages p (f (finite.get h.pages p))
  pub marks_are : (h : Held) (p : ℕ) → finite.contains_key h.pages p ≡ true → (change h p).marks ≡ (if ends then marks_off h.marks p else h.marks)
  pub index_is : (h : Held) (p : ℕ) → finite.contains_key h.pages p ≡ true → (change h p).index ≡ h.index
  pub stays : f None ≡ None

pub unmapped-changes : Changes unmapped away true
unmapped-changes = record { pages_are = λ h p kept. refl; marks_are = λ h p kept. refl; index_is = λ h p kept. refl; stays = refl }

pub zeroed-changes : Changes zeroed cleared true
zeroed-changes = record { pages_are = λ h p kept. changed-with_page h.pages p blanked; marks_are = λ h p kept. refl; index_is = λ h p kept. refl; stays = refl }

pub protected-changes : (rights : Rights) → Changes (λ h p. protected h p rights) (given rights) false
protected-changes rights = record {
  pages_are = λ h p kept. ap (λ (b : Bool). (if b then record { index = h.index; pages = changed h.pages p (with_rights rights); marks = h.marks; spare = h.spare } else (if has_any rights then record { index = h.index; pages = finite.insert h.pages p record { rights = rights; bytes = blank }; marks = h.marks; spare = h.spare - 1 } else h)).pages) kept ∙ changed-with_page h.pages p (with_rights rights);
  marks_are = λ h p kept. ap (λ (b : Bool). (if b then record { index = h.index; pages = changed h.pages p (with_rights rights); marks = h.marks; spare = h.spare } else (if has_any rights then record { index = h.index; pages = finite.insert h.pages p record { rights = rights; bytes = blank }; marks = h.marks; spare = h.spare - 1 } else h)).marks) kept;
  index_is = λ h p kept. ap (λ (b : Bool). (if b then record { index = h.index; pages = changed h.pages p (with_rights rights); marks = h.marks; spare = h.spare } else (if has_any rights then record { index = h.index; pages = finite.insert h.pages p record { rights = rights; bytes = blank }; marks = h.marks; spare = h.spare - 1 } else h)).index) kept;
  stays = refl;
}

not-kept : (o : Option Page) → is_some o ≡ false → o ≡ None
not-kept None is = refl
not-kept (Some page) is = absurd (cc)

module _ (change : Held → ℕ → Held) (f : Option Page → Option Page) (ends : Bool) (does : Changes change f ends) where
  -- a page, if it is kept
  one-kept : (h : Held) (p : ℕ) → (if_kept change h p).pages ≡ with_page h.pages p (f (finite.get h.pages p))
  one-kept h p = by (finite.contains_key h.pages p) refl
    where
      by : (b : Bool) → finite.contains_key h.pages p ≡ b → (if b then change h p else h).pages ≡ with_page h.pages p (f (finite.get h.pages p))
      by true kept = does.pages_are h p kept
      by false gone =
          let none : finite.get h.pages p ≡ None = not-kept (finite.get h.pages p) gone in
          sym (ap (λ (o : Option Page). with_page h.pages p (f o)) none ∙ ap (with_page h.pages p) does.stays ∙ remove_absent h.pages p none)

  one-slots : (h : Held) (p : ℕ) → length (if_kept change h p).marks ≡ length h.marks
  one-slots h p = by (finite.contains_key h.pages p) refl
    where
      off : (e : Bool) → length (if e then marks_off h.marks p else h.marks) ≡ length h.marks
      off true = length-map h.marks (mark_off p)
      off false = refl

      by : (b : Bool) → finite.contains_key h.pages p ≡ b → length (if b then change h p else h).marks ≡ length h.marks
      by true kept = ap (λ (ms : List (Option ℕ)). length ms) (does.marks_are h p kept) ∙ off ends
      by false gone = refl

  one-index : (h : Held) (p : ℕ) → (if_kept change h p).index ≡ h.index
  one-index h p = by (finite.contains_key h.pages p) refl
    where
      by : (b : Bool) → finite.contains_key h.pages p ≡ b → (if b then change h p else h).index ≡ h.index
      by true kept = does.index_is h p kept
      by false gone = refl

  pub each_kept-index : (h : Held) (first count : ℕ) → (each_kept change h first count).index ≡ h.index
  unfolding each_kept
  each_kept-index h first zero = refl
  each_kept-index h first (suc count) = one-index (each_kept change h first count) (first + count) ∙ each_kept-index h first count

  pub each_kept-slots : (h : Held) (first count : ℕ) → length (each_kept change h first count).marks ≡ length h.marks
  unfolding each_kept
  each_kept-slots h first zero = refl
  each_kept-slots h first (suc count) = one-slots (each_kept change h first count) (first + count) ∙ each_kept-slots h first count

  pub each_kept-pages : (h : Held) (first count : ℕ) → IsOnEach f h.pages first count (each_kept change h first count).pages
  unfolding each_kept
  each_kept-pages h first zero = on_none f h.pages first 0 refl
  each_kept-pages h first (suc count) =
      one_more f h.pages first count (suc count) (first + count) (each_kept change h first count).pages _ (each_kept-pages h first count) refl (omega arith) (one-kept (each_kept change h first count) (first + count))

  -- what is left of a slot's mark
  one-mark : (h : Held) (p s g : ℕ) (was : Bool) → is_mark (get_or h.marks s None) g ≡ was → is_mark (get_or (if_kept change h p).marks s None) g ≡ (if ends && finite.contains_key h.pages p then was && not (g / 256 == p) else was)
  one-mark h p s g was is = by (finite.contains_key h.pages p) refl
    where
      off : (e : Bool) → is_mark (get_or (if e then marks_off h.marks p else h.marks) s None) g ≡ (if e && true then was && not (g / 256 == p) else was)
      off true = ap (λ (m : Option ℕ). is_mark m g) (get-map h.marks (mark_off p) s refl) ∙ is_mark-off (get_or h.marks s None) p g ∙ ap (λ (b : Bool). b && not (g / 256 == p)) is
      off false = is

      none : (e : Bool) → was ≡ (if e && false then was && not (g / 256 == p) else was)
      none true = refl
      none false = refl

      by : (b : Bool) → finite.contains_key h.pages p ≡ b → is_mark (get_or (if b then change h p else h).marks s None) g ≡ (if ends && b then was && not (g / 256 == p) else was)
      by true kept = ap (λ (ms : List (Option ℕ)). is_mark (get_or ms s None) g) (does.marks_are h p kept) ∙ off ends
      by false gone = is ∙ none ends

  -- marks stand on kept pages alone
  pub each_kept-marks : (h : Held) (first count s g : ℕ) → (is_mark (get_or h.marks s None) g ≡ true → is_some (finite.get h.pages (g / 256)) ≡ true) → is_mark (get_or (each_kept change h first count).marks s None) g ≡ (is_mark (get_or h.marks s None) g && not (ends && within first count (g / 256)))
  unfolding each_kept
  each_kept-marks h first zero s g on = none (is_mark (get_or h.marks s None) g) ends (within first zero (g / 256)) (grind (arith, nat_tests))
    where
      none : (was e w : Bool) → w ≡ false → was ≡ (was && not (e && w))
      none was e w is = grind (arith, is)
  each_kept-marks h first (suc count) s g on =
      let now = each_kept change h first count in
      let was = is_mark (get_or h.marks s None) g in
      let before = each_kept-marks h first count s g on in
      let same : first + count ≡ g / 256 → finite.get now.pages (first + count) ≡ finite.get h.pages (g / 256) = λ e. behind_range f h.pages first count now.pages (first + count) (each_kept-pages h first count) (omega arith) ∙ ap (finite.get h.pages) e in
      one-mark now (first + count) s g (was && not (ends && within first count (g / 256))) before
      ∙ step was ends (within first count (g / 256)) (within first (suc count) (g / 256)) (g / 256 == first + count) (finite.contains_key now.pages (first + count))
      (grind (arith, nat_tests))
      (λ e t. let here : first + count ≡ g / 256 = grind (arith, nat_tests) in ap (λ (o : Option Page). is_some o) (same here) ∙ on t)
    where
      step : (was e w w' at kept : Bool) → w' ≡ (w || at) → (at ≡ true → was ≡ true → kept ≡ true) → (if e && kept then (was && not (e && w)) && not at else (was && not (e && w))) ≡ (was && not (e && w'))
      step was e w w' at kept is on = grind (arith, is, on)

-- ---- each page of a range that lies in the shard of this index, where there is room

pub record Places (change : Held → ℕ → Held) (f : Option Page → Option Page) (ends : Bool) : Type 0 where
  pub pages_are : (h : Held) (p : ℕ) → (change h p).pages ≡ with_page h.pages p (f (finite.get h.pages p))
  pub marks_are : (h : Held) (p : ℕ) → (change h p).marks ≡ (if ends then marks_off h.marks p else h.marks)
  pub index_is : (h : Held) (p : ℕ) → (change h p).index ≡ h.index
  pub spare_is : (h : Held) (p : ℕ) → (change h p).spare ≡ (if finite.contains_key h.pages p then h.spare else h.spare - 1)

-- the page with these rights, and a page of zeros where none is kept
abbrev pub granted : Rights → Option Page → Option Page
granted rights None = Some record { rights = rights; bytes = blank }
granted rights (Some page) = Some (with_rights rights page)

pub mapped-places : (rights : Rights) → has_any rights ≡ true → Places (λ h p. mapped h p rights) (anew rights) true
mapped-places rights any = record {
  pages_are = λ h p. ap (λ (b : Bool). (if b then record { index = h.index; pages = finite.insert h.pages p record { rights = rights; bytes = blank }; marks = marks_off h.marks p; spare = if finite.contains_key h.pages p then h.spare else h.spare - 1 } else unmapped h p).pages) any;
  marks_are = λ h p. ap (λ (b : Bool). (if b then record { index = h.index; pages = finite.insert h.pages p record { rights = rights; bytes = blank }; marks = marks_off h.marks p; spare = if finite.contains_key h.pages p then h.spare else h.spare - 1 } else unmapped h p).marks) any;
  spare_is = λ h p. ap (λ (b : Bool). (if b then record { index = h.index; pages = finite.insert h.pages p record { rights = rights; bytes = blank }; marks = marks_off h.marks p; spare = if finite.contains_key h.pages p then h.spare else h.spare - 1 } else unmapped h p).spare) any;
  index_is = λ h p. ap (λ (b : Bool). (if b then record { index = h.index; pages = finite.insert h.pages p record { rights = rights; bytes = blank }; marks = marks_off h.marks p; spare = if finite.contains_key h.pages p then h.spare else h.spare - 1 } else unmapped h p).index) any;
}

abbrev protected_by : (kept any : Bool) → Rights → Held → ℕ → Held
protected_by kept any rights h p = if kept then record { index = h.index; pages = changed h.pages p (with_rights rights); marks = h.marks; spare = h.spare } else (if any then record { index = h.index; pages = finite.insert h.pages p record { rights = rights; bytes = blank }; marks = h.marks; spare = h.spare - 1 } else h)

pub protected-places : (rights : Rights) → has_any rights ≡ true → Places (λ h p. protected h p rights) (granted rights) false
protected-places rights any = record {
  pages_are = λ h p. pages h p (finite.get h.pages p) refl;
  marks_are = λ h p. marks h (finite.contains_key h.pages p) (has_any rights) p;
  spare_is = λ h p. spare h (finite.contains_key h.pages p) p;
  index_is = λ h p. index h (finite.contains_key h.pages p) (has_any rights) p;
}
  where
    pages : (h : Held) (p : ℕ) (o : Option Page) → finite.get h.pages p ≡ o → (protected_by (is_some (finite.get h.pages p)) (has_any rights) rights h p).pages ≡ with_page h.pages p (granted rights (finite.get h.pages p))
    pages h p None is = ap (λ (o : Option Page). (protected_by (is_some o) (has_any rights) rights h p).pages) is ∙ ap (λ (b : Bool). (protected_by false b rights h p).pages) any ∙ sym (ap (λ (o : Option Page). with_page h.pages p (granted rights o)) is)
    pages h p (Some page) is = ap (λ (o : Option Page). (protected_by (is_some o) (has_any rights) rights h p).pages) is ∙ changed-with_page h.pages p (with_rights rights) ∙ ap (λ (o : Option Page). with_page h.pages p (option_map (with_rights rights) o)) is ∙ sym (ap (λ (o : Option Page). with_page h.pages p (granted rights o)) is)

    marks : (h : Held) (kept any : Bool) (p : ℕ) → (protected_by kept any rights h p).marks ≡ h.marks
    marks h true any p = refl
    marks h false true p = refl
    marks h false false p = refl

    index : (h : Held) (kept any : Bool) (p : ℕ) → (protected_by kept any rights h p).index ≡ h.index
    index h true any p = refl
    index h false true p = refl
    index h false false p = refl

    spare : (h : Held) (kept : Bool) (p : ℕ) → (protected_by kept (has_any rights) rights h p).spare ≡ (if kept then h.spare else h.spare - 1)
    spare h true p = refl
    spare h false p = ap (λ (b : Bool). (protected_by false b rights h p).spare) any

split : (m w w' at_ : Bool) → w' ≡ (w || at_) → ((m && not (true && w)) && not at_) ≡ (m && not (true && w'))
split m w w' at_ is = grind (arith, is)

-- the same where there is room
abbrev pub in_room : (Held → ℕ → Held) → Held → ℕ → Held
in_room change h p = if is_full h p then h else change h p

-- the pages of a range that lie in the shard of this index
unfoldable pub each_own : ℕ → (Held → ℕ → Held) → Held → ℕ → ℕ → Held
each_own i change h first zero = h
each_own i change h first (suc count) = if (first + count) % 16 == i then change (each_own i change h first count) (first + count) else each_own i change h first count

-- what a shard keeps and has room for after that
pub record Placed (i : ℕ) (f : Option Page → Option Page) (ends : Bool) (h h' : Held) (first count : ℕ) : Type 0 where
  pub pages_are : (q : ℕ) → finite.get h'.pages q ≡ (if within first count q && q % 16 == i then f (finite.get h.pages q) else finite.get h.pages q)
  pub marks_are : (s g : ℕ) → g / 256 % 16 ≡ i → is_mark (get_or h'.marks s None) g ≡ (is_mark (get_or h.marks s None) g && not (ends && within first count (g / 256)))
  pub spare_is : h'.spare + needed h i first count ≡ h.spare
  pub slots_are : length h'.marks ≡ length h.marks
  pub index_is : h'.index ≡ h.index

module _ (i : ℕ) (change : Held → ℕ → Held) (f : Option Page → Option Page) (ends : Bool) (does : Places change f ends) (h : Held) (first : ℕ) where
  -- another shard's page
  skip : (count : ℕ) (h' : Held) → (first + count) % 16 ≢ i → Placed i f ends h h' first count → Placed i f ends h h' first (suc count)
  unfolding needed
  skip count h' other placed = record {
    pages_are = λ q. placed.pages_are q ∙ ap (λ (b : Bool). if b then f (finite.get h.pages q) else finite.get h.pages q) (same q (q % 16) refl);
    marks_are = λ s g in_shard. placed.marks_are s g in_shard ∙ ap (λ (w : Bool). is_mark (get_or h.marks s None) g && not (ends && w)) (not_it (g / 256) in_shard);
    spare_is = let no_ : ((first + count) % 16 == i) ≡ false = grind (arith, nat_tests) in
        ap (λ (b : Bool). h'.spare + (needed h i first count + ones (b && not (finite.contains_key h.pages (first + count))))) no_ ∙ omega (arith, placed.spare_is);
    slots_are = placed.slots_are;
    index_is = placed.index_is;
  }
    where
      not_it : (p : ℕ) → p % 16 ≡ i → within first count p ≡ within first (suc count) p
      not_it p is = let ne : p ≢ first + count = λ e. other (ap (λ (x : ℕ). x % 16) (sym e) ∙ is) in grind (arith, nat_tests)

      same : (q m : ℕ) → q % 16 ≡ m → (within first count q && q % 16 == i) ≡ (within first (suc count) q && q % 16 == i)
      same q m is = elim (cases_eq (q % 16) i) [
        | inl it ↦ ap (λ (b : Bool). b && q % 16 == i) (not_it q it)
        | inr apart ↦ let no_ : (q % 16 == i) ≡ false = grind (arith, nat_tests) in ap (λ (b : Bool). within first count q && b) no_ ∙ grind (arith, no_)
      ]

  -- one page more
  put : (count : ℕ) (h' : Held) → (first + count) % 16 ≡ i → needed h i first (suc count) ≤ h.spare → Placed i f ends h h' first count → Placed i f ends h (in_room change h' (first + count)) first (suc count)
  unfolding needed
  put count h' own room placed = by (finite.contains_key h.pages (first + count)) refl
    where
      p : ℕ
      p = first + count

      own_ : ((first + count) % 16 == i) ≡ true
      own_ = grind (arith, nat_tests)

      was : finite.get h'.pages p ≡ finite.get h.pages p
      was = placed.pages_are p ∙ (let out : within first count p ≡ false = grind (arith, nat_tests) in ap (λ (b : Bool). if b && p % 16 == i then f (finite.get h.pages p) else finite.get h.pages p) out)

      done : (more : ℕ) → is_full h' p ≡ false → needed h i first (suc count) ≡ needed h i first count + more → (if finite.contains_key h'.pages p then h'.spare else h'.spare - 1) + more ≡ h'.spare → Placed i f ends h (in_room change h' p) first (suc count)
      done more open_ need spare = subst (λ (b : Bool). Placed i f ends h (if b then h' else change h' p) first (suc count)) (sym open_) (record {
        pages_are = λ q. ap (λ (ps : Pages). finite.get ps q) (does.pages_are h' p) ∙ at q;
        marks_are = λ s g in_shard. ap (λ (ms : List (Option ℕ)). is_mark (get_or ms s None) g) (does.marks_are h' p) ∙ mark ends s g (placed.marks_are s g in_shard);
        spare_is = ap (λ (n : ℕ). n + needed h i first (suc count)) (does.spare_is h' p) ∙ omega (arith, need, spare, placed.spare_is);
        slots_are = ap (λ (ms : List (Option ℕ)). length ms) (does.marks_are h' p) ∙ long ends ∙ placed.slots_are;
        index_is = does.index_is h' p ∙ placed.index_is;
      })
        where
          long : (e : Bool) → length (if e then marks_off h'.marks p else h'.marks) ≡ length h'.marks
          long true = length-map h'.marks (mark_off p)
          long false = refl

          at : (q : ℕ) → finite.get (with_page h'.pages p (f (finite.get h'.pages p))) q ≡ (if within first (suc count) q && q % 16 == i then f (finite.get h.pages q) else finite.get h.pages q)
          at q = elim (cases_eq q p) [
            | inl same ↦
                let in_ : (within first (suc count) q && q % 16 == i) ≡ true = grind (arith, nat_tests) in
                get-with_page_same h'.pages p (f (finite.get h'.pages p)) q same ∙ ap f (was ∙ ap (finite.get h.pages) (sym same)) ∙ sym (ap (λ (b : Bool). if b then f (finite.get h.pages q) else finite.get h.pages q) in_)
            | inr other ↦
                let same_ : within first count q ≡ within first (suc count) q = grind (arith, nat_tests) in
                get-with_page_other h'.pages p (f (finite.get h'.pages p)) q other ∙ placed.pages_are q ∙ ap (λ (b : Bool). if b && q % 16 == i then f (finite.get h.pages q) else finite.get h.pages q) same_
          ]

          mark : (e : Bool) (s g : ℕ) → is_mark (get_or h'.marks s None) g ≡ (is_mark (get_or h.marks s None) g && not (e && within first count (g / 256))) → is_mark (get_or (if e then marks_off h'.marks p else h'.marks) s None) g ≡ (is_mark (get_or h.marks s None) g && not (e && within first (suc count) (g / 256)))
          mark false s g before = before
          mark true s g before =
              ap (λ (m : Option ℕ). is_mark m g) (get-map h'.marks (mark_off p) s refl) ∙ is_mark-off (get_or h'.marks s None) p g
              ∙ ap (λ (b : Bool). b && not (g / 256 == p)) before
              ∙ split (is_mark (get_or h.marks s None) g) (within first count (g / 256)) (within first (suc count) (g / 256)) (g / 256 == p) (grind (arith, nat_tests))

      by : (b : Bool) → finite.contains_key h.pages p ≡ b → Placed i f ends h (in_room change h' p) first (suc count)
      by true kept =
          let kept' : finite.contains_key h'.pages p ≡ true = ap (λ (o : Option Page). is_some o) was ∙ kept in
          done 0 (ap (λ (b : Bool). not b && h'.spare == 0) kept')
          (ap (λ (b : Bool). needed h i first count + ones (b && not (finite.contains_key h.pages p))) own_ ∙ ap (λ (b : Bool). needed h i first count + ones (true && not b)) kept)
          (ap (λ (b : Bool). (if b then h'.spare else h'.spare - 1) + 0) kept' ∙ omega arith)
      by false gone =
          let gone' : finite.contains_key h'.pages p ≡ false = ap (λ (o : Option Page). is_some o) was ∙ gone in
          let need : needed h i first (suc count) ≡ needed h i first count + 1 = ap (λ (b : Bool). needed h i first count + ones (b && not (finite.contains_key h.pages p))) own_ ∙ ap (λ (b : Bool). needed h i first count + ones (true && not b)) gone in
          let left : 0 < h'.spare = omega (arith, need, room, placed.spare_is) in
          let some_ : (h'.spare == 0) ≡ false = grind (arith, nat_tests, left) in
          done 1 (ap (λ (b : Bool). not b && h'.spare == 0) gone' ∙ some_) need
          (ap (λ (b : Bool). (if b then h'.spare else h'.spare - 1) + 1) gone' ∙ omega (arith, left))

  needed-less : (count : ℕ) → needed h i first count ≤ needed h i first (suc count)
  unfolding needed
  needed-less count = omega arith

  pub each_own-placed : (count : ℕ) → needed h i first count ≤ h.spare → Placed i f ends h (each_own i (in_room change) h first count) first count
  unfolding each_own needed
  each_own-placed zero room = record {
    pages_are = λ q. let out : within first 0 q ≡ false = grind (arith, nat_tests) in sym (ap (λ (b : Bool). if b && q % 16 == i then f (finite.get h.pages q) else finite.get h.pages q) out);
    marks_are = λ s g in_shard. let out : within first 0 (g / 256) ≡ false = grind (arith, nat_tests) in none (is_mark (get_or h.marks s None) g) ends (within first 0 (g / 256)) out;
    spare_is = omega arith;
    slots_are = refl;
    index_is = refl;
  }
    where
      none : (was e w : Bool) → w ≡ false → was ≡ (was && not (e && w))
      none was e w is = grind (arith, is)
  each_own-placed (suc count) room =
      let before = each_own-placed count (omega (arith, needed-less count, room)) in
      elim (cases_eq ((first + count) % 16) i) [
        | inl own ↦
            let own_ : ((first + count) % 16 == i) ≡ true = grind (arith, nat_tests) in
            subst (λ (b : Bool). Placed i f ends h (if b then in_room change (each_own i (in_room change) h first count) (first + count) else each_own i (in_room change) h first count) first (suc count)) (sym own_)
            (put count (each_own i (in_room change) h first count) own room before)
        | inr other ↦
            let no_ : ((first + count) % 16 == i) ≡ false = grind (arith, nat_tests) in
            subst (λ (b : Bool). Placed i f ends h (if b then in_room change (each_own i (in_room change) h first count) (first + count) else each_own i (in_room change) h first count) first (suc count)) (sym no_)
            (skip count (each_own i (in_room change) h first count) other before)
      ]
