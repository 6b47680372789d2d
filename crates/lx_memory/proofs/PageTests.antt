-- What holds of each page of a range, and the test of each page of it, are the same.
use Rattle.std.proofs.Common.{◌≡◌, ℕ, zero, suc, ◌+◌, ◌<◌, ◌≤◌, Bool, true, false, ◌&&◌, not, Option, Some, None, is_some, refl, arith}
use Rattle.std.specs.Bool.{Decides}
use Rattle.std.specs.FinMap as map
use Rattle.std.proofs.lemmas.Bool.Decides.{same_from_decides}
use Rattle.page_ranges.specs.Ranges.{EachPage, SomePage}
use Rattle.page_store.specs.Pages.{Page, Pages}
use Rattle.lx_memory.specs.Access.{allows, has}
use Rattle.lx_memory.specs.Gaps.{IsMappedAt, IsFreeAt, IsExecutableAt}
use Rattle.lx_memory.specs.declared.right.Right.TheVariants.{Execute}
use Rattle.lx_memory.specs.Queries.{all_pages, all_mapped, all_free, is_free, no_code, any_executable}

-- ---- all_pages

-- where the first page passes, and the others of a range do, a page of it passes
passes_step : (test : Option Page → Bool) (pages : Pages) (first p count : ℕ) (rest : Bool) → (test (map.get pages first) && rest) ≡ true → first ≤ p → p < first + suc count → (rest ≡ true → suc first ≤ p → p < suc first + count → test (map.get pages p) ≡ true) → test (map.get pages p) ≡ true
passes_step test pages first p count rest both low high next = grind arith

pub passes_each : (test : Option Page → Bool) (pages : Pages) (first count : ℕ) → all_pages test pages first count ≡ true → (p : ℕ) → first ≤ p → p < first + count → test (map.get pages p) ≡ true
passes_each test pages first zero h p low high = absurd (omega arith)
passes_each test pages first (suc count) h p low high =
    passes_step test pages first p count (all_pages test pages (suc first) count) h low high (λ r. passes_each test pages (suc first) count r p)

join : (a b : Bool) → a ≡ true → b ≡ true → (a && b) ≡ true
join a b h k = grind arith

pub passes_all : (test : Option Page → Bool) (pages : Pages) (first count : ℕ) → ((p : ℕ) → first ≤ p → p < first + count → test (map.get pages p) ≡ true) → all_pages test pages first count ≡ true
passes_all test pages first zero h = refl
passes_all test pages first (suc count) h =
    join (test (map.get pages first)) (all_pages test pages (suc first) count) (h first (omega arith) (omega arith))
    (passes_all test pages (suc first) count (λ p low high. h p (omega arith) (omega arith)))

-- some page of a range fails the test
abbrev SomeFails : (Option Page → Bool) → Pages → ℕ → ℕ → Type 0
SomeFails test pages first count = SomePage first count (λ p. test (map.get pages p) ≡ false)

here : (test : Option Page → Bool) (pages : Pages) (first count : ℕ) → test (map.get pages first) ≡ false → SomeFails test pages first (suc count)
here test pages first count h = record { page = first; from = omega arith; below = omega arith; holds = h }

there : (test : Option Page → Bool) (pages : Pages) (first count : ℕ) → SomeFails test pages (suc first) count → SomeFails test pages first (suc count)
there test pages first count s = record { page = s.page; from = omega arith; below = omega arith; holds = s.holds }

fails_by : (test : Option Page → Bool) (pages : Pages) (first count : ℕ) (b rest : Bool) → test (map.get pages first) ≡ b → (b && rest) ≡ false → (rest ≡ false → SomeFails test pages (suc first) count) → SomeFails test pages first (suc count)
fails_by test pages first count true rest e h next = there test pages first count (next h)
fails_by test pages first count false rest e h next = here test pages first count e

pub some_fails : (test : Option Page → Bool) (pages : Pages) (first count : ℕ) → all_pages test pages first count ≡ false → SomeFails test pages first count
some_fails test pages first zero h = absurd (cc)
some_fails test pages first (suc count) h =
    fails_by test pages first count (test (map.get pages first)) (all_pages test pages (suc first) count) refl h (some_fails test pages (suc first) count)

pub fails_from : (test : Option Page → Bool) (pages : Pages) (first count : ℕ) (b : Bool) → all_pages test pages first count ≡ b → SomeFails test pages first count → b ≡ false
fails_from test pages first count true e s =
    let t : test (map.get pages s.page) ≡ true = passes_each test pages first count e s.page s.from s.below in
    let f : test (map.get pages s.page) ≡ false = s.holds in
    absurd (cc)
fails_from test pages first count false e s = refl

-- ---- the tests of a page

none_is : (o : Option Page) → is_free o ≡ true → o ≡ None
none_is None h = refl
none_is (Some x) h = absurd (cc)

is_from_none : (o : Option Page) → o ≡ None → is_free o ≡ true
is_from_none None h = refl
is_from_none (Some x) h = absurd (cc)

not_true : (b : Bool) → not b ≡ true → b ≡ false
not_true b h = grind arith

not_false : (b : Bool) → b ≡ false → not b ≡ true
not_false b h = grind arith

from_not_false : (b : Bool) → not b ≡ false → b ≡ true
from_not_false b h = grind arith

to_not_false : (b : Bool) → b ≡ true → not b ≡ false
to_not_false b h = grind arith

-- ---- the words

all_mapped_decides : (pages : Pages) (first count : ℕ) → Decides (all_mapped pages first count) (EachPage first count (IsMappedAt pages))
all_mapped_decides pages first count = (passes_each is_some pages first count, passes_all is_some pages first count)

pub all_free_decides : (pages : Pages) (first count : ℕ) → Decides (all_free pages first count) (EachPage first count (IsFreeAt pages))
all_free_decides pages first count = (
  λ h p low high. none_is (map.get pages p) (passes_each is_free pages first count h p low high),
  λ each. passes_all is_free pages first count (λ p low high. is_from_none (map.get pages p) (each p low high)),
)

executable_is : (pages : Pages) (first count : ℕ) → SomeFails no_code pages first count → SomePage first count (IsExecutableAt pages)
executable_is pages first count s = record { page = s.page; from = s.from; below = s.below; holds = from_not_false (has (allows Execute) (map.get pages s.page)) s.holds }

executable_from : (pages : Pages) (first count : ℕ) → SomePage first count (IsExecutableAt pages) → SomeFails no_code pages first count
executable_from pages first count s = record { page = s.page; from = s.from; below = s.below; holds = to_not_false (has (allows Execute) (map.get pages s.page)) s.holds }

any_executable_decides : (pages : Pages) (first count : ℕ) → Decides (any_executable pages first count) (SomePage first count (IsExecutableAt pages))
any_executable_decides pages first count = (
  λ h. executable_is pages first count (some_fails no_code pages first count (not_true (all_pages no_code pages first count) h)),
  λ s. not_false (all_pages no_code pages first count) (fails_from no_code pages first count (all_pages no_code pages first count) refl (executable_from pages first count s)),
)

pub same_all_mapped : (b : Bool) (pages : Pages) (first count : ℕ) → Decides b (EachPage first count (IsMappedAt pages)) → b ≡ all_mapped pages first count
same_all_mapped b pages first count h = same_from_decides b (all_mapped pages first count) h (all_mapped_decides pages first count)

pub same_all_free : (b : Bool) (pages : Pages) (first count : ℕ) → Decides b (EachPage first count (IsFreeAt pages)) → b ≡ all_free pages first count
same_all_free b pages first count h = same_from_decides b (all_free pages first count) h (all_free_decides pages first count)

pub same_any_executable : (b : Bool) (pages : Pages) (first count : ℕ) → Decides b (SomePage first count (IsExecutableAt pages)) → b ≡ any_executable pages first count
same_any_executable b pages first count h = same_from_decides b (any_executable pages first count) h (any_executable_decides pages first count)
