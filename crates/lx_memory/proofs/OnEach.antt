-- What stands at each number after a change of the pages of a range.
use Rattle.std.proofs.Common.{◌≡◌, ◌≢◌, ℕ, zero, suc, ◌+◌, ◌-◌, ◌^◌, ◌<◌, ◌≤◌, Option, Some, None, true, false, cond, eqb, refl, sym, ap, ◌∙◌, arith, inl, inr}
use Rattle.std.specs.Ordering.{nat_cmp, is_eq}
use Rattle.std.specs.Cmp.{nat_cmp_total}
use Rattle.std.specs.FinMap as finite
use Rattle.std.specs.FinMap.{same_map, nat_cmp-IsAntisymmetric}
use Rattle.std.proofs.lemmas.Bool.{cases_eq, cases_lt}
use Rattle.std.proofs.lemmas.Bool.Decides.{nat_tests}
use Rattle.page_ranges.specs.Ranges.{within}
use Rattle.page_store.specs.Pages.{Page, Pages}
use Rattle.lx_memory.specs.Ranges.{with_page, on_each, IsOnEach}
use Rattle.lx_memory.specs.Space.{IsInSpace}

tied : (q k : ℕ) → is_eq (nat_cmp q k) ≡ eqb q k
tied q k = elim (cases_eq q k) [ inl same ↦ grind (arith, nat_tests) | inr other ↦ grind (arith, nat_tests) ]

pub get-with_page : (pages : Pages) (n : ℕ) (o : Option Page) (q : ℕ) → finite.get (with_page pages n o) q ≡ cond (eqb q n) o (finite.get pages q)
get-with_page pages n None q = finite.get-remove nat_cmp_total pages n q ∙ ap (λ b. cond b None (finite.get pages q)) (tied q n)
get-with_page pages n (Some p) q = finite.get-insert nat_cmp_total pages n p q ∙ ap (λ b. cond b (Some p) (finite.get pages q)) (tied q n)

-- at the number itself, and at another
pub get-with_page_same : (pages : Pages) (n : ℕ) (o : Option Page) (q : ℕ) → q ≡ n → finite.get (with_page pages n o) q ≡ o
get-with_page_same pages n o q same = grind (arith, nat_tests, get-with_page pages n o q)

pub get-with_page_other : (pages : Pages) (n : ℕ) (o : Option Page) (q : ℕ) → q ≢ n → finite.get (with_page pages n o) q ≡ finite.get pages q
get-with_page_other pages n o q other = grind (arith, nat_tests, get-with_page pages n o q)

pub same_pages : (one other : Pages) → ((q : ℕ) → finite.get one q ≡ finite.get other q) → one ≡ other
same_pages one other alike = same_map nat_cmp_total nat_cmp-IsAntisymmetric one other alike

within-yes : (first n q : ℕ) → first ≤ q → q < first + n → within first n q ≡ true
within-yes first n q from below = grind (arith, nat_tests)

within-below : (first n q : ℕ) → q < first → within first n q ≡ false
within-below first n q below = grind (arith, nat_tests)

within-behind : (first n q : ℕ) → first + n ≤ q → within first n q ≡ false
within-behind first n q behind = grind (arith, nat_tests)

module _ (change : Option Page → Option Page) (old : Pages) (first : ℕ) where
  pub in_range : (n : ℕ) (new : Pages) (q : ℕ) → IsOnEach change old first n new → first ≤ q → q < first + n → finite.get new q ≡ change (finite.get old q)
  in_range n new q each from below = each q ∙ ap (λ b. cond b (change (finite.get old q)) (finite.get old q)) (within-yes first n q from below)

  pub below_range : (n : ℕ) (new : Pages) (q : ℕ) → IsOnEach change old first n new → q < first → finite.get new q ≡ finite.get old q
  below_range n new q each below = each q ∙ ap (λ b. cond b (change (finite.get old q)) (finite.get old q)) (within-below first n q below)

  pub behind_range : (n : ℕ) (new : Pages) (q : ℕ) → IsOnEach change old first n new → first + n ≤ q → finite.get new q ≡ finite.get old q
  behind_range n new q each behind = each q ∙ ap (λ b. cond b (change (finite.get old q)) (finite.get old q)) (within-behind first n q behind)

  -- the three parts of the numbers
  pub each_of_parts : (n : ℕ) (new : Pages) → ((q : ℕ) → q < first → finite.get new q ≡ finite.get old q) → ((q : ℕ) → first ≤ q → q < first + n → finite.get new q ≡ change (finite.get old q)) → ((q : ℕ) → first + n ≤ q → finite.get new q ≡ finite.get old q) → IsOnEach change old first n new
  each_of_parts n new below here behind q = elim (cases_lt q first) [
    | inl lt ↦ below q lt ∙ sym (ap (λ b. cond b (change (finite.get old q)) (finite.get old q)) (within-below first n q lt))
    | inr from ↦ elim (cases_lt q (first + n)) [
      | inl lt ↦ here q from lt ∙ sym (ap (λ b. cond b (change (finite.get old q)) (finite.get old q)) (within-yes first n q from lt))
      | inr past ↦ behind q past ∙ sym (ap (λ b. cond b (change (finite.get old q)) (finite.get old q)) (within-behind first n q past))
    ]
  ]

  -- a range of no pages
  pub on_none : (n : ℕ) → n ≡ 0 → IsOnEach change old first n old
  on_none n none = each_of_parts n old (λ q lt. refl) (λ q from lt. absurd (omega arith)) (λ q past. refl)

  -- one page more is changed
  pub one_more : (n m page : ℕ) (now new : Pages) → IsOnEach change old first n now → page ≡ first + n → m ≡ n + 1 → new ≡ with_page now page (change (finite.get now page)) → IsOnEach change old first m new
  one_more n m page now new each at next is =
      let get_new : (q : ℕ) → q ≢ page → finite.get new q ≡ finite.get now q = λ q ne. ap (λ (ps : Pages). finite.get ps q) is ∙ get-with_page_other now page (change (finite.get now page)) q ne in
      let get_page : (q : ℕ) → q ≡ page → finite.get new q ≡ change (finite.get old q) = λ q same.
      ap (λ (ps : Pages). finite.get ps q) is ∙ get-with_page_same now page (change (finite.get now page)) q same ∙ ap change (behind_range n now page each (omega arith) ∙ ap (finite.get old) (sym same)) in
      each_of_parts m new
      (λ q lt. get_new q (omega arith) ∙ below_range n now q each lt)
      (λ q from lt. elim (cases_eq q page) [
        | inl same ↦ get_page q same
        | inr other ↦ get_new q other ∙ in_range n now q each from (omega arith)
      ])
      (λ q past. get_new q (omega arith) ∙ behind_range n now q each (omega arith))

  -- pages that aren't there stay so, up to a page that is changed
  pub up_to : (n m page : ℕ) (now new : Pages) → change None ≡ None → IsOnEach change old first n now → first + n ≤ page → m ≡ page + 1 - first → ((q : ℕ) → first + n ≤ q → q < page → finite.get now q ≡ None) → new ≡ with_page now page (change (finite.get now page)) → IsOnEach change old first m new
  up_to n m page now new stays each le next none is =
      let get_new : (q : ℕ) → q ≢ page → finite.get new q ≡ finite.get now q = λ q ne. ap (λ (ps : Pages). finite.get ps q) is ∙ get-with_page_other now page (change (finite.get now page)) q ne in
      let get_page : (q : ℕ) → q ≡ page → finite.get new q ≡ change (finite.get old q) = λ q same.
      ap (λ (ps : Pages). finite.get ps q) is ∙ get-with_page_same now page (change (finite.get now page)) q same ∙ ap change (behind_range n now page each le ∙ ap (finite.get old) (sym same)) in
      let between : (q : ℕ) → first + n ≤ q → q < page → finite.get now q ≡ change (finite.get old q) = λ q from lt.
      none q from lt ∙ sym stays ∙ ap change (sym (none q from lt) ∙ behind_range n now q each from) in
      each_of_parts m new
      (λ q lt. get_new q (omega arith) ∙ below_range n now q each lt)
      (λ q from lt. elim (cases_eq q page) [
        | inl same ↦ get_page q same
        | inr other ↦ get_new q other ∙ elim (cases_lt q (first + n)) as (λ _. finite.get now q ≡ change (finite.get old q)) [
          | inl done ↦ in_range n now q each from done
          | inr left ↦ between q left (omega arith)
        ]
      ])
      (λ q past. get_new q (omega arith) ∙ behind_range n now q each (omega arith))

  -- none of the rest is there
  pub to_end : (n m : ℕ) (now : Pages) → change None ≡ None → IsOnEach change old first n now → n ≤ m → ((q : ℕ) → first + n ≤ q → q < first + m → finite.get now q ≡ None) → IsOnEach change old first m now
  to_end n m now stays each le none =
      each_of_parts m now
      (λ q lt. below_range n now q each lt)
      (λ q from lt. elim (cases_lt q (first + n)) as (λ _. finite.get now q ≡ change (finite.get old q)) [
        | inl done ↦ in_range n now q each from done
        | inr left ↦ none q left lt ∙ sym stays ∙ ap change (sym (none q left lt) ∙ behind_range n now q each left)
      ])
      (λ q past. behind_range n now q each (omega arith))

-- the definition, page by page
pub each-on_each : (change : Option Page → Option Page) (pages : Pages) (first count : ℕ) → IsOnEach change pages first count (on_each change pages first count)
unfolding on_each
each-on_each change pages first zero = on_none change pages first 0 refl
each-on_each change pages first (suc count) =
    let now = on_each change pages first count in
    let each = each-on_each change pages first count in
    let same : change (finite.get pages (first + count)) ≡ change (finite.get now (first + count)) = ap change (sym (behind_range change pages first count now (first + count) each (omega arith))) in
    one_more change pages first count (suc count) (first + count) now _ each refl (omega arith) (ap (with_page now (first + count)) same)

-- there is one such map
pub each-is : (change : Option Page → Option Page) (old : Pages) (first count : ℕ) (new : Pages) → IsOnEach change old first count new → new ≡ on_each change old first count
each-is change old first count new each = same_pages new _ (λ q. each q ∙ sym (each-on_each change old first count q))

-- no page past the address space comes
pub each-in_space : (change : Option Page → Option Page) (old : Pages) (first count : ℕ) (new : Pages) → IsOnEach change old first count new → change None ≡ None → IsInSpace old → IsInSpace new
each-in_space change old first count new each stays space q past = elim (cases_lt q first) [
  | inl lt ↦ below_range change old first count new q each lt ∙ space q past
  | inr from ↦ elim (cases_lt q (first + count)) [
    | inl lt ↦ in_range change old first count new q each from lt ∙ ap change (space q past) ∙ stays
    | inr behind ↦ behind_range change old first count new q each behind ∙ space q past
  ]
]

pub each-in_space_below : (change : Option Page → Option Page) (old : Pages) (first count : ℕ) (new : Pages) → IsOnEach change old first count new → first + count ≤ 2 ^ 52 → IsInSpace old → IsInSpace new
each-in_space_below change old first count new each below space q past = behind_range change old first count new q each (omega arith) ∙ space q past
