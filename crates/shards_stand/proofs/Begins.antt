-- The clause holds of the first pages.
use Rattle.std.proofs.Common.{◌≡◌, ◌≢◌, ℕ, zero, suc, ◌/◌, ◌%◌, ◌<◌, Bool, true, false, List, [], ◌∷◌, replicate, get_or, Option, Some, None, option_map, if◌then◌else◌, refl, sym, ap, subst, ◌∙◌, arith, inl, inr}
use Rattle.std.specs.FinMap as finite
use Rattle.std.proofs.lemmas.Bool.{cases_eq}
use Rattle.std.proofs.lemmas.List.{length-replicate}
use Rattle.page_store.specs.Pages.{Page, Pages, page_if}
use Rattle.lx_memory.specs.Access.{allows}
use Rattle.lx_memory.specs.declared.right.Right.TheVariants.{Execute}
use Rattle.lx_memory.proofs.OnEach.{get-with_page_same, get-with_page_other}
use Rattle.guest_mem.specs.Held.{Held}
use Rattle.machine_parts.specs.Parts.{Parts, shard_at}
use Rattle.shards_stand.specs.Kept.{kept, kept_in, mark_in, is_mark}
use Rattle.shards_stand.specs.Clause.{PageStands, IsShardOf, Stays}
use Rattle.shards_stand.specs.Begin.{Numbered, with_page_laid, lay, pages_laid, AreStarted, HasFirst, AreFirst, IsCodeOf}
use Rattle.shards_stand.proofs.Store.{page_or}
use Rattle.shards_stand.proofs.Ranges.{change-same, change-other}

slots-laid : (i : ℕ) (o : Option Held) (n : Numbered) → IsShardOf i o → IsShardOf i (option_map (with_page_laid n) o)
slots-laid i None n has = has
slots-laid i (Some h) n has = has

module _ (share : ℕ) (M : Parts) (start : AreStarted share M) where
  pub laid-slots : (ns : List Numbered) (i : ℕ) → i < 16 → IsShardOf i (shard_at (lay ns M) i)
  unfolding lay
  laid-slots [] i lt = subst (IsShardOf i) (sym (start i lt)) (refl, length-replicate {A = Option ℕ} 128 None)
  laid-slots (n ∷ ns) i lt = elim (cases_eq i (n.number % 16)) [
    | inl same ↦ subst (IsShardOf i) (sym (ap (shard_at (lay (n ∷ ns) M)) same ∙ change-same (lay ns M) (n.number % 16) (with_page_laid n))) (slots-laid i (shard_at (lay ns M) (n.number % 16)) n (subst (λ (k : ℕ). IsShardOf i (shard_at (lay ns M) k)) same (laid-slots ns i lt)))
    | inr other ↦ subst (IsShardOf i) (sym (change-other (lay ns M) (n.number % 16) i (with_page_laid n) other)) (laid-slots ns i lt)
  ]

  kept-one : (i : ℕ) (o : Option Held) (n : Numbered) (q : ℕ) → IsShardOf i o → q ≡ n.number → kept_in (option_map (with_page_laid n) o) q ≡ Some n.page
  kept-one i None n q has same = absurd has
  kept-one i (Some h) n q has same = get-with_page_same h.pages n.number (Some n.page) q same

  kept-two : (o : Option Held) (n : Numbered) (q : ℕ) → q ≢ n.number → kept_in (option_map (with_page_laid n) o) q ≡ kept_in o q
  kept-two None n q other = refl
  kept-two (Some h) n q other = get-with_page_other h.pages n.number (Some n.page) q other

  -- each page is kept, where it belongs
  pub laid-kept : (ns : List Numbered) (q : ℕ) → kept (lay ns M) q ≡ finite.get (pages_laid ns) q
  unfolding lay pages_laid
  laid-kept [] q = ap (λ (o : Option Held). kept_in o q) (start (q % 16) (omega arith))
  laid-kept (n ∷ ns) q = elim (cases_eq q n.number) [
    | inl same ↦
        ap (λ (k : ℕ). kept_in (shard_at (lay (n ∷ ns) M) (k % 16)) q) same
        ∙ ap (λ (o : Option Held). kept_in o q) (change-same (lay ns M) (n.number % 16) (with_page_laid n))
        ∙ kept-one (n.number % 16) (shard_at (lay ns M) (n.number % 16)) n q (laid-slots ns (n.number % 16) (omega arith)) same
        ∙ sym (get-with_page_same (pages_laid ns) n.number (Some n.page) q same)
    | inr other ↦ elim (cases_eq (q % 16) (n.number % 16)) as (λ _. kept (lay (n ∷ ns) M) q ≡ finite.get (pages_laid (n ∷ ns)) q) [
      | inl same ↦
          ap (λ (i : ℕ). kept_in (shard_at (lay (n ∷ ns) M) i) q) same
          ∙ ap (λ (o : Option Held). kept_in o q) (change-same (lay ns M) (n.number % 16) (with_page_laid n))
          ∙ kept-two (shard_at (lay ns M) (n.number % 16)) n q other
          ∙ ap (λ (i : ℕ). kept_in (shard_at (lay ns M) i) q) (sym same)
          ∙ laid-kept ns q ∙ sym (get-with_page_other (pages_laid ns) n.number (Some n.page) q other)
      | inr apart ↦
          ap (λ (o : Option Held). kept_in o q) (change-other (lay ns M) (n.number % 16) (q % 16) (with_page_laid n) apart)
          ∙ laid-kept ns q ∙ sym (get-with_page_other (pages_laid ns) n.number (Some n.page) q other)
    ]
  ]

  same-marks : (o : Option Held) (n : Numbered) (s : ℕ) → mark_in (option_map (with_page_laid n) o) s ≡ mark_in o s
  same-marks None n s = refl
  same-marks (Some h) n s = refl

  none-marked : (k s : ℕ) → get_or (replicate {A = Option ℕ} k None) s None ≡ None
  none-marked zero s = refl
  none-marked (suc k) zero = refl
  none-marked (suc k) (suc s) = none-marked k s

  laid-marks : (ns : List Numbered) (i s : ℕ) → i < 16 → mark_in (shard_at (lay ns M) i) s ≡ None
  unfolding lay
  laid-marks [] i s lt = ap (λ (o : Option Held). mark_in o s) (start i lt) ∙ none-marked 128 s
  laid-marks (n ∷ ns) i s lt = elim (cases_eq i (n.number % 16)) [
    | inl same ↦ ap (λ (k : ℕ). mark_in (shard_at (lay (n ∷ ns) M) k) s) same ∙ ap (λ (o : Option Held). mark_in o s) (change-same (lay ns M) (n.number % 16) (with_page_laid n)) ∙ same-marks (shard_at (lay ns M) (n.number % 16)) n s ∙ laid-marks ns (n.number % 16) s (omega arith)
    | inr other ↦ ap (λ (o : Option Held). mark_in o s) (change-other (lay ns M) (n.number % 16) i (with_page_laid n) other) ∙ laid-marks ns i s lt
  ]

-- the pages that were laid, and no other
pub laid-first : (share : ℕ) (M : Parts) (ns : List Numbered) → AreStarted share M → HasFirst (lay ns M) (pages_laid ns)
laid-first share M ns start = record {
  there = laid-slots share M start ns;
  kept_are = laid-kept share M start ns;
  unmarked = λ s g. ap (λ (m : Option ℕ). is_mark m g) (laid-marks share M start ns (g / 256 % 16) s (omega arith));
}

-- ---- the clause

code-write : (k : Option Page) (page : Page) → page_if (allows Execute) k ≡ Some page → (k ≡ Some page) × (page.rights.execute ≡ true)
code-write None page is = absurd (cc)
code-write (Some x) page is = by x.rights.execute refl is
  where
    by : (b : Bool) → x.rights.execute ≡ b → (if b then Some x else None) ≡ Some page → (Some x ≡ Some page) × (page.rights.execute ≡ true)
    by true e there = (there, ap (λ (p : Page). p.rights.execute) (sym (ap (page_or page) there)) ∙ e)
    by false e there = absurd (cc)

stands-self : (k : Option Page) → PageStands k k
stands-self None = tt
stands-self (Some page) = refl

-- where the shards keep exactly the first pages, and no thread has marked anything
pub begins : (code : Pages) (M : Parts) (pages : Pages) → HasFirst M pages → AreFirst pages → IsCodeOf code pages → Stays code M (λ s. None) pages (λ s. None)
begins code M pages has are is_code = record {
  stands = record {
    pages_stand = λ p. subst (λ (o : Option Page). PageStands o (finite.get pages p)) (sym (has.kept_are p)) (stands-self (finite.get pages p));
    marks_stand = λ s. refl;
  };
  sound = record {
    there = has.there;
    whole = λ p page is. are.whole p page (sym (has.kept_are p) ∙ is);
    marks_kept = λ s g is. (let none = has.unmarked s g in absurd (cc));
    in_space = λ p past. has.kept_are p ∙ are.in_space p past;
    code_is = λ p. is_code p ∙ ap (λ (o : Option Page). page_if (allows Execute) o) (sym (has.kept_are p));
    code_fixed = λ p page is.
        let it = code-write (finite.get pages p) page (sym (is_code p) ∙ is) in
        not-written p page (finite.get pages p) refl it.0 it.1 page.rights.write refl;
  };
}
  where
    not-written : (p : ℕ) (page : Page) (o : Option Page) → finite.get pages p ≡ o → finite.get pages p ≡ Some page → page.rights.execute ≡ true → (b : Bool) → page.rights.write ≡ b → page.rights.write ≡ false
    not-written p page o is there execute false write = write
    not-written p page o is there execute true write =
        let no = are.guarded p page.rights (ap (option_map (λ (x : Page). x.rights)) there) write in
        absurd (cc)
