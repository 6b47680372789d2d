-- Ranges of pages, and what holds of the pages of one. Pages are numbered from 0.
-- Source: this project's own; a page is one of mmap(2).
use Rattle.std.specs.Prelude.{ℕ, Bool, ◌+◌, ◌<◌, ◌≤◌, ◌&&◌, nat_le, nat_lt}

-- whether a page is one of so many pages from `first` on
abbrev pub within : ℕ → ℕ → ℕ → Bool
within first pages page = nat_le first page && nat_lt page (first + pages)

-- each page of a range, and some page of it
abbrev pub EachPage : ℕ → ℕ → (ℕ → Type 0) → Type 0
EachPage first pages P = (page : ℕ) → first ≤ page → page < first + pages → P page

pub record SomePage (first pages : ℕ) (P : ℕ → Type 0) : Type 0 where
  pub page : ℕ
  pub from : first ≤ page
  pub below : page < first + pages
  pub holds : P page
