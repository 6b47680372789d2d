-- What it means for two ranges to share a page.
use Rattle.std.proofs.Common.{◌≡◌, ◌*◌, ◌<◌, max, true, false, arith, inl, inr}
use Rattle.std.specs.Prelude.{nat_le}
use Rattle.std.proofs.lemmas.Bool.{cases_lt, and_parts, leb-true}
use Rattle.std.proofs.lemmas.Bool.Decides.{nat_tests}
use Rattle.elf_image.specs.declared.span.Span.{Span}
use Rattle.elf_image.specs.Spans.{first_page, last_page, shares_page, AreApart, SharesPage}

-- ranges that share no page are apart
pub AreApart-from_shares_page : (one other : Span) → shares_page one other ≡ false → AreApart one other
AreApart-from_shares_page one other none x y in_one in_other same = grind (arith, nat_tests)

-- ranges that share a page have a byte of each on it
pub SharesPage-from_shares_page : (one other : Span) → 0 < one.size → 0 < other.size → shares_page one other ≡ true → SharesPage one other
SharesPage-from_shares_page one other some other_some shared =
    let pages = and_parts (nat_le (first_page one) (last_page other)) (nat_le (first_page other) (last_page one)) shared in
    let reaches = leb-true (first_page one) (last_page other) pages.0 in
    let begins = leb-true (first_page other) (last_page one) pages.1 in
    elim (cases_lt (first_page one) (first_page other)) [
      | inl before ↦ record {
        x = 4096 * first_page other;
        y = other.start;
        in_one = record { from = omega arith; below = omega arith };
        in_other = record { from = omega arith; below = omega arith };
        same = omega arith;
      }
      | inr behind ↦ record {
        x = one.start;
        y = max other.start (4096 * first_page one);
        in_one = record { from = omega arith; below = omega arith };
        in_other = record { from = omega arith; below = omega arith };
        same = omega arith;
      }
    ]

pub ruleset pages = (AreApart-from_shares_page, SharesPage-from_shares_page)
