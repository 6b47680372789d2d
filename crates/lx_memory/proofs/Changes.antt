-- One page changed, and the room that a range needs.
use Rattle.std.proofs.Common.{◌≡◌, ℕ, zero, suc, ◌+◌, ◌-◌, ◌<◌, ◌≤◌, Option, Some, None, IsSome, option_map, refl, sym, ap, ◌∙◌, arith}
use Rattle.std.specs.FinMap as finite
use Rattle.sorted_entries.proofs.Entries.{remove_absent}
use Rattle.page_store.specs.Pages.{Page, Pages, changed}
use Rattle.page_store.proofs.Changed.{changed_kept, changed_none}
use Rattle.lx_memory.specs.declared.change.Change.{Change}
use Rattle.lx_memory.specs.declared.change.Change.TheVariants.{Unmap, Protect, Zero}
use Rattle.lx_memory.specs.Ranges.{with_page}
use Rattle.lx_memory.specs.Space.{becomes, one_if_free, free_count}

changed_at-with_page : (o : Option Page) (pages : Pages) (n : ℕ) (change : Page → Page) → finite.get pages n ≡ o → changed pages n change ≡ with_page pages n (option_map change o)
changed_at-with_page None pages n change missing = changed_none pages n change missing ∙ sym (remove_absent pages n missing)
changed_at-with_page (Some p) pages n change there = changed_kept pages n p change there

-- a change of a page, if it is kept, puts what it becomes
pub changed-with_page : (pages : Pages) (n : ℕ) (change : Page → Page) → changed pages n change ≡ with_page pages n (option_map change (finite.get pages n))
changed-with_page pages n change = changed_at-with_page (finite.get pages n) pages n change refl

-- no change maps a page
pub becomes-none : (change : Change) → becomes change None ≡ None
becomes-none Unmap = refl
becomes-none (Protect rights) = refl
becomes-none Zero = refl

-- the first page of a range, and the others
pub free_count-step : (pages : Pages) (p q n m : ℕ) → n ≡ suc m → q ≡ p + 1 → free_count pages p n ≡ one_if_free (finite.get pages p) + free_count pages q m
free_count-step pages p q n m more next = ap (free_count pages p) more ∙ ap (λ (r : ℕ). one_if_free (finite.get pages p) + free_count pages r m) (sym next)

-- a range in two parts
pub free_count-append : (pages : Pages) (p n m : ℕ) → free_count pages p (n + m) ≡ free_count pages p n + free_count pages (p + n) m
free_count-append pages p zero m =
    let none : 0 + m ≡ m = omega arith in
    let same : p + 0 ≡ p = omega arith in
    omega (arith, ap (free_count pages p) none, ap (λ (q : ℕ). free_count pages q m) same)
free_count-append pages p (suc n) m =
    let more : suc n + m ≡ suc (n + m) = omega arith in
    let moved : p + 1 + n ≡ p + suc n = omega arith in
    ap (free_count pages p) more ∙ omega (arith, free_count-append pages (p + 1) n m, ap (λ (q : ℕ). free_count pages q m) moved)

-- a range of free pages
free_count-none : (pages : Pages) (p n : ℕ) → ((q : ℕ) → p ≤ q → q < p + n → finite.get pages q ≡ None) → free_count pages p n ≡ n
free_count-none pages p zero none = refl
free_count-none pages p (suc n) none =
    let here : one_if_free (finite.get pages p) ≡ 1 = ap one_if_free (none p (omega arith) (omega arith)) in
    omega (arith, here, free_count-none pages (p + 1) n (λ q from lt. none q (omega arith) (omega arith)))

mapped_none : (o : Option Page) → IsSome o → one_if_free o ≡ 0
mapped_none None there = absurd (grind (arith, there))
mapped_none (Some p) there = refl

-- past free pages and a mapped one
pub count_step : (pages : Pages) (first at page n m mapped : ℕ) → first + n ≡ at → at ≤ page → m ≡ page + 1 - first → ((q : ℕ) → at ≤ q → q < page → finite.get pages q ≡ None) → IsSome (finite.get pages page) → mapped + free_count pages first n ≡ n → mapped + 1 + free_count pages first m ≡ m
count_step pages first at page n m mapped at_is le m_is none there counted =
    let gap = page - at in
    let rest : m ≡ n + (gap + 1) = omega arith in
    let here : at + gap ≡ page = omega arith in
    let parts = free_count-append pages first n (gap + 1) in
    let behind = ap (λ (q : ℕ). free_count pages q (gap + 1)) at_is in
    let gap_parts = free_count-append pages at gap 1 in
    let one = ap (λ (q : ℕ). free_count pages q 1) here in
    let free_gap = free_count-none pages at gap (λ q from lt. none q from (omega arith)) in
    omega (arith, ap (free_count pages first) rest, parts, behind, gap_parts, one, free_gap, mapped_none (finite.get pages page) there, counted)

-- and no mapped page behind
pub count_end : (pages : Pages) (first at n left count mapped : ℕ) → first + n ≡ at → at + left ≡ first + count → ((q : ℕ) → at ≤ q → q < at + left → finite.get pages q ≡ None) → mapped + free_count pages first n ≡ n → mapped + free_count pages first count ≡ count
count_end pages first at n left count mapped at_is range none counted =
    let all : count ≡ n + left = omega arith in
    omega (arith, ap (free_count pages first) all, free_count-append pages first n left, ap (λ (q : ℕ). free_count pages q left) at_is, free_count-none pages at left none, counted)
