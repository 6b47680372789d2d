-- What a store's fields say of a page.
use Rattle.std.proofs.Common.{◌≡◌, ◌≢◌, ℕ, zero, suc, ◌+◌, ◌-◌, ◌<◌, ◌≤◌, List, [], ◌∷◌, length, get_or, set, Some, None, Option, Bool, true, false, not, IsSome, if◌then◌else◌, refl, sym, ap, ◌∙◌, arith, inl, inr}
use Rattle.std.specs.FinMap as finite
use Rattle.std.specs.List.{insert, remove}
use Rattle.std.proofs.lemmas.Bool.{cases_lt}
use Rattle.page_ranges.specs.declared.rights.Rights.{Rights}
use Rattle.sorted_entries.specs.Entries.{IsRising, IsAt, IsGapFor, entries_of}
use Rattle.sorted_entries.proofs.Entries.{get_at, get_in_gap, map_of-set, map_of-insert, map_of-remove, map_of-revalued, IsRevalued}
use Rattle.page_store.specs.declared.kept_row.Kept.{Kept}
use Rattle.page_store.specs.Pages.{Page, page_if}
use Rattle.page_store.specs.Frames.{times, AgreeBut}
use Rattle.page_store.specs.Row.{IsRun}
use Rattle.page_store.specs.Kept.{number_of, frame_of, page_in, pages_of}
use Rattle.page_store.proofs.Owned.{one_if-same, one_if-zero, times-at}

module _ (frames : List (List ℕ)) where
  pub page_there : (ks : List Kept) (n i : ℕ) (k : Kept) → IsRising number_of ks → IsAt number_of ks n i → k ≡ get_or ks i k → finite.get (pages_of frames ks) n ≡ Some (page_in frames k)
  page_there ks n i k rising is_at read = get_at number_of (page_in frames) ks n i k rising is_at ∙ ap (λ (x : Kept). Some (page_in frames x)) (sym read)

  pub page_missing : (ks : List Kept) (n i : ℕ) → IsGapFor number_of ks n i → finite.get (pages_of frames ks) n ≡ None
  page_missing ks n i gap = get_in_gap number_of (page_in frames) ks n i gap

  pub is_kept : (ks : List Kept) (n i : ℕ) → IsRising number_of ks → IsAt number_of ks n i → IsSome (finite.get (pages_of frames ks) n)
  is_kept [] n i rising place = absurd (omega (arith, place.in_range))
  is_kept (k ∷ ks) n i rising place = rw (get_at number_of (page_in frames) (k ∷ ks) n i k rising place) refl

  pub pages_of-set : (ks : List Kept) (n i : ℕ) (k : Kept) → IsRising number_of ks → IsAt number_of ks n i → k.page ≡ n → pages_of frames (set ks i k) ≡ finite.insert (pages_of frames ks) n (page_in frames k)
  pages_of-set ks n i k rising is_at same = map_of-set number_of (page_in frames) ks n i k rising is_at same

  pub pages_of-insert : (ks : List Kept) (n i : ℕ) (k : Kept) → IsGapFor number_of ks n i → k.page ≡ n → pages_of frames (insert ks i k) ≡ finite.insert (pages_of frames ks) n (page_in frames k)
  pages_of-insert ks n i k gap same = map_of-insert number_of (page_in frames) ks n i k gap same

  pub pages_of-remove : (ks : List Kept) (n i : ℕ) → IsRising number_of ks → IsAt number_of ks n i → pages_of frames (remove ks i) ≡ finite.remove (pages_of frames ks) n
  pages_of-remove ks n i rising is_at = map_of-remove number_of (page_in frames) ks n i rising is_at

-- between a number that has a gap and the element there, every number has that gap
gap_between : (ks : List Kept) (first p i : ℕ) → IsRising number_of ks → IsGapFor number_of ks first i → first ≤ p → ((d : Kept) → i < length ks → p < number_of (get_or ks i d)) → IsGapFor number_of ks p i
gap_between ks first p i rising gap le below = record {
  in_range = gap.in_range;
  smaller_before = λ j d lt. omega (arith, gap.smaller_before j d lt);
  greater_after = λ j d at_least within. elim (cases_lt i j) [
    | inl lt ↦ omega (arith, rising i j d lt within, below d (omega arith))
    | inr ge ↦ (let same : j ≡ i = omega arith in rw same (below d (omega arith)))
  ];
}

pub none_between : (frames : List (List ℕ)) (ks : List Kept) (first p i : ℕ) → IsRising number_of ks → IsGapFor number_of ks first i → first ≤ p → ((d : Kept) → i < length ks → p < number_of (get_or ks i d)) → finite.get (pages_of frames ks) p ≡ None
none_between frames ks first p i rising gap le below = page_missing frames ks p i (gap_between ks first p i rising gap le below)

pub run_kept : (frames : List (List ℕ)) (ks : List Kept) (place first n : ℕ) → IsRising number_of ks → place + n ≤ length ks → IsRun ks place first n → (p : ℕ) → first ≤ p → p < first + n → IsSome (finite.get (pages_of frames ks) p)
run_kept frames ks place first n rising within run p from below =
    is_kept frames ks p (place + (p - first)) rising record { in_range = omega arith; has_key = λ d. omega (arith, run (p - first) d (omega arith)) }

-- and the next one has another
pub run_ends : (frames : List (List ℕ)) (ks : List Kept) (place first n : ℕ) → 0 < n → IsRising number_of ks → place + n ≤ length ks → IsRun ks place first n → ((d : Kept) → place + n < length ks → number_of (get_or ks (place + n) d) - first ≢ n) → finite.get (pages_of frames ks) (first + n) ≡ None
run_ends frames ks place first n some rising within run other =
    let last : (d : Kept) → number_of (get_or ks (place + (n - 1)) d) ≡ first + (n - 1) = λ d. run (n - 1) d (omega arith) in
    let next : (d : Kept) → place + n < length ks → first + n < number_of (get_or ks (place + n) d) = λ d lt. grind (arith, other d lt, last d, rising (place + (n - 1)) (place + n) d (omega arith) lt) in
    page_missing frames ks (first + n) (place + n) record {
      in_range = within;
      smaller_before = λ j d lt. elim (cases_lt j (place + (n - 1))) as (λ _. number_of (get_or ks j d) < first + n) [
        | inl below ↦ omega (arith, rising j (place + (n - 1)) d below (omega arith), last d)
        | inr from ↦ (let same : j ≡ place + (n - 1) = omega arith in rw same (omega (arith, last d)))
      ];
      greater_after = λ j d from lt. elim (cases_lt (place + n) j) as (λ _. first + n < number_of (get_or ks j d)) [
        | inl above ↦ omega (arith, rising (place + n) j d above lt, next d (omega arith))
        | inr to ↦ (let same : j ≡ place + n = omega arith in rw same (next d (omega arith)))
      ];
    }

pub not_true : (b : Bool) → not b ≡ true → b ≡ false
not_true true is = absurd (cc)
not_true false is = refl

pub not_false : (b : Bool) → not b ≡ false → b ≡ true
not_false true is = refl
not_false false is = absurd (cc)

-- a page that allows the access is opened
pub page_if_allowed : (allows : Rights → Bool) (o : Option Page) (p : Page) → o ≡ Some p → allows p.rights ≡ true → page_if allows o ≡ Some p
page_if_allowed allows o p is may = rw is (ap (λ b. if b then Some p else None) may)

-- another is not
pub page_if_refused : (allows : Rights → Bool) (o : Option Page) (p : Page) → o ≡ Some p → allows p.rights ≡ false → page_if allows o ≡ None
page_if_refused allows o p is not = rw is (ap (λ b. if b then Some p else None) not)

-- pages that do not have the frame are what they were
pub unused : (frame : ℕ) (old new : List (List ℕ)) → AgreeBut frame old new → (ks : List Kept) → times frame_of frame ks ≡ 0 → entries_of number_of (page_in new) ks ≡ entries_of number_of (page_in old) ks
unused frame old new agree [] none = refl
unused frame old new agree (k ∷ ks) none =
    let other : k.frame ≢ frame = one_if-zero k.frame frame (omega arith) in
    let bytes = agree k.frame other in
    let rest = unused frame old new agree ks (omega arith) in
    λ i. (k.page, record { rights = k.rights; bytes = bytes i }) ∷ rest i

pub pages_of-unused : (frame : ℕ) (old new : List (List ℕ)) → AgreeBut frame old new → (ks : List Kept) → times frame_of frame ks ≡ 0 → pages_of new ks ≡ pages_of old ks
pages_of-unused frame old new agree ks none = ap finite.from_entries (unused frame old new agree ks none)

-- only the page that has the frame is changed
revalued : (old new : List (List ℕ)) (ks : List Kept) (i : ℕ) (k : Kept) (bytes : List ℕ) → i < length ks → k ≡ get_or ks i k → times frame_of k.frame ks ≤ 1 → AgreeBut k.frame old new → get_or new k.frame [] ≡ bytes → IsRevalued number_of (page_in old) (page_in new) ks i record { rights = k.rights; bytes = bytes }
revalued old new [] i k bytes lt read once agree is = absurd (omega arith)
revalued old new (x ∷ xs) zero k bytes lt read once agree is =
    let same : x.frame ≡ k.frame = ap frame_of (sym read) in
    let none : times frame_of k.frame xs ≡ 0 = omega (arith, one_if-same x.frame k.frame same) in
    let bytes_are : get_or new x.frame [] ≡ bytes = ap (λ (f : ℕ). get_or new f []) same ∙ is in
    (λ j. record { rights = ap (λ (y : Kept). y.rights) (sym read) j; bytes = bytes_are j }, unused k.frame old new agree xs none)
revalued old new (x ∷ xs) (suc i) k bytes lt read once agree is =
    let here : frame_of (get_or xs i k) ≡ k.frame = ap frame_of (sym read) in
    let some : 0 < times frame_of k.frame xs = rw here at (times-at frame_of xs i k (omega arith)) in
    let other : x.frame ≢ k.frame = one_if-zero x.frame k.frame (omega arith) in
    let bytes_stay = agree x.frame other in
    (λ j. record { rights = x.rights; bytes = bytes_stay j }, revalued old new xs i k bytes (omega arith) read (omega arith) agree is)

pub pages_of-frame : (old new : List (List ℕ)) (ks : List Kept) (n i : ℕ) (k : Kept) (bytes : List ℕ) → IsRising number_of ks → IsAt number_of ks n i → k ≡ get_or ks i k → times frame_of k.frame ks ≤ 1 → AgreeBut k.frame old new → get_or new k.frame [] ≡ bytes → pages_of new ks ≡ finite.insert (pages_of old ks) n record { rights = k.rights; bytes = bytes }
pages_of-frame old new ks n i k bytes rising is_at read once agree is =
    map_of-revalued number_of (page_in old) (page_in new) ks n i _ rising is_at (revalued old new ks i k bytes is_at.in_range read once agree is)
