-- Kept pages as values, and what a change of one of them does.
-- Source: mmap(2), mprotect(2), munmap(2); that a page without rights takes no room is this project's own.
use Rattle.std.specs.Prelude.{◌≡◌, ℕ, ◌+◌, ◌-◌, ◌<◌, ◌≤◌, ◌||◌, Bool, List, length, take, drop, ◌++◌, Option, Some, None, IsSome, replicate, refl, if◌then◌else◌}
use Rattle.std.specs.Ordering.{nat_cmp}
use Rattle.std.specs.FinMap as map
use Rattle.std.specs.FinMap.{FinMap}
use Rattle.std.specs.Coded.{Coded, code_by, coded×, coded_ℕ, coded_bool, coded_list}
use Rattle.places.specs.Places as place
use Rattle.page_ranges.specs.Ranges.{EachPage}
use Rattle.page_ranges.specs.declared.rights.Rights.{Rights}

-- what a kept page allows, and its 4096 bytes
pub record Page : Type 0 where
  pub rights : Rights
  pub bytes : List ℕ

-- the kept pages by their numbers
abbrev pub Pages : Type 0
Pages = FinMap nat_cmp Page

-- the kept pages, and how many more there is room for
pub record Keeping : Type 0 where
  pub pages : Pages
  pub spare : ℕ

abbrev pub reads : Rights → Bool
reads rights = rights.read

abbrev pub writes : Rights → Bool
writes rights = rights.write

-- whether there is any right
abbrev pub has_any : Rights → Bool
has_any rights = rights.read || rights.write || rights.execute

-- a page, where it allows the access
abbrev pub page_if : (Rights → Bool) → Option Page → Option Page
page_if allows None = None
page_if allows (Some page) = if allows page.rights then Some page else None

-- the kept page of an address, where it allows the access
abbrev pub page_for : (Rights → Bool) → Pages → ℕ → Option Page
page_for allows pages at = page_if allows (map.get pages (place.page at))

-- the bytes of a page of zeros
unfoldable pub blank : List ℕ
blank = replicate 4096 0

abbrev pub with_rights : Rights → Page → Page
with_rights rights page = record { rights = rights; bytes = page.bytes }

abbrev pub blanked : Page → Page
blanked page = record { rights = page.rights; bytes = blank }

-- the old bytes with the new ones over those from a place on
abbrev pub spliced : List ℕ → ℕ → List ℕ → List ℕ
spliced old from new = take from old ++ (new ++ drop (from + length new) old)

-- a page with these bytes from a place in it on
abbrev pub written : ℕ → List ℕ → Page → Page
written from bytes page = record { rights = page.rights; bytes = spliced page.bytes from bytes }

-- the pages where this one is changed, if it is kept
abbrev pub changed_at : Option Page → Pages → ℕ → (Page → Page) → Pages
changed_at None pages number change = pages
changed_at (Some page) pages number change = map.insert pages number (change page)

abbrev pub changed : Pages → ℕ → (Page → Page) → Pages
changed pages number change = changed_at (map.get pages number) pages number change

-- what is kept with one page changed, which takes no room
abbrev pub with_changed : Keeping → ℕ → (Page → Page) → Keeping
with_changed keeping number change = record { pages = changed keeping.pages number change; spare = keeping.spare }

-- what is kept with one page more, of zeros
abbrev pub with_added : Keeping → ℕ → Rights → Keeping
with_added keeping number rights = record {
  pages = map.insert keeping.pages number record { rights = rights; bytes = blank };
  spare = keeping.spare - 1;
}

-- what is kept without this page, whose room is left again if it was kept
abbrev pub without : Keeping → ℕ → Keeping
without keeping number = record {
  pages = map.remove keeping.pages number;
  spare = if map.contains_key keeping.pages number then keeping.spare + 1 else keeping.spare;
}

-- the least kept page of so many pages from the first on
abbrev pub IsLeastKept : Pages → ℕ → ℕ → Option ℕ → Type 0
IsLeastKept pages first count None = (p : ℕ) → first ≤ p → p < first + count → map.get pages p ≡ None
IsLeastKept pages first count (Some least) = (first ≤ least) × (least < first + count) × IsSome (map.get pages least) × ((p : ℕ) → first ≤ p → p < least → map.get pages p ≡ None)

-- so many pages from the first on are kept, and the page behind them is not
pub record IsKeptRun (pages : Pages) (first count : ℕ) : Type 0 where
  pub kept : EachPage first count (λ p. IsSome (map.get pages p))
  pub end : map.get pages (first + count) ≡ None

-- each kept page has 4096 bytes
abbrev pub AreWhole : Pages → Type 0
AreWhole pages = (number : ℕ) (page : Page) → map.get pages number ≡ Some page → length page.bytes ≡ 4096

abbrev pub coded_rights : Coded Rights
coded_rights = code_by (Bool × (Bool × Bool)) (coded× coded_bool (coded× coded_bool coded_bool)) (λ r. (r.read, (r.write, r.execute))) (λ p. record { read = p.0; write = p.1.0; execute = p.1.1 }) (λ _. refl)

abbrev pub coded_page : Coded Page
coded_page = code_by (Rights × List ℕ) (coded× coded_rights (coded_list coded_ℕ)) (λ p. (p.rights, p.bytes)) (λ p. record { rights = p.0; bytes = p.1 }) (λ _. refl)

abbrev pub coded_pages : Coded Pages
coded_pages = map.code coded_ℕ coded_page

abbrev pub coded_keeping : Coded Keeping
coded_keeping = code_by (Pages × ℕ) (coded× coded_pages coded_ℕ) (λ k. (k.pages, k.spare)) (λ p. record { pages = p.0; spare = p.1 }) (λ _. refl)
