-- Ranges of bytes, in a file or in memory, by their start and their size. Sums are those of ℕ, so they are exact.
use Rattle.std.specs.Prelude.{◌≡◌, ◌≢◌, ℕ, Bool, ◌+◌, ◌-◌, ◌≤◌, ◌<◌, ◌&&◌, nat_le}
use Rattle.places.specs.Places.{page}
use Rattle.elf_image.specs.declared.span.Span.{Span}

-- the first byte after the range
abbrev pub end_of : Span → ℕ
end_of span = span.start + span.size

-- a byte of the range
pub record IsWithin (span : Span) (at : ℕ) : Type 0 where
  pub from : span.start ≤ at
  pub below : at < end_of span

-- whether the second range lies inside the first
abbrev pub holds : Span → Span → Bool
holds outer inner = nat_le outer.start inner.start && nat_le (end_of inner) (end_of outer)

-- the pages of the first and of the last byte of a range that is not empty
abbrev pub first_page : Span → ℕ
first_page span = page span.start

abbrev pub last_page : Span → ℕ
last_page span = page (end_of span - 1)

-- whether some page has bytes of both ranges, neither of which is empty
abbrev pub shares_page : Span → Span → Bool
shares_page one other = nat_le (first_page one) (last_page other) && nat_le (first_page other) (last_page one)

-- no page has bytes of both ranges
abbrev pub AreApart : Span → Span → Type 0
AreApart one other = (x y : ℕ) → IsWithin one x → IsWithin other y → page x ≢ page y

-- a byte of each range, on one page
pub record SharesPage (one other : Span) : Type 0 where
  pub x : ℕ
  pub y : ℕ
  pub in_one : IsWithin one x
  pub in_other : IsWithin other y
  pub same : page x ≡ page y
