-- Pages of which one is changed.
use Rattle.std.proofs.Common.{◌≡◌, ℕ, Some, None, Option, is_some, true, refl, ap, ◌∙◌}
use Rattle.std.specs.FinMap as finite
use Rattle.sorted_entries.proofs.Entries.{get_inserted, insert_twice}
use Rattle.page_ranges.specs.declared.rights.Rights.{Rights}
use Rattle.page_store.specs.Pages.{Page, Pages, blank, blanked, with_rights, changed, changed_at}

-- a kept page is changed in its place
pub changed_kept : (pages : Pages) (n : ℕ) (p : Page) (change : Page → Page) → finite.get pages n ≡ Some p → changed pages n change ≡ finite.insert pages n (change p)
changed_kept pages n p change there = ap (λ o. changed_at o pages n change) there

-- where the page is not kept nothing changes
pub changed_none : (pages : Pages) (n : ℕ) (change : Page → Page) → finite.get pages n ≡ None → changed pages n change ≡ pages
changed_none pages n change missing = ap (λ o. changed_at o pages n change) missing

renewed_at : (o : Option Page) (pages : Pages) (n : ℕ) (rights : Rights) → finite.get pages n ≡ o → is_some o ≡ true → changed (changed pages n (with_rights rights)) n blanked ≡ finite.insert pages n record { rights = rights; bytes = blank }
renewed_at None pages n rights is kept = absurd (cc)
renewed_at (Some p) pages n rights is kept =
    ap (λ ps. changed ps n blanked) (changed_kept pages n p (with_rights rights) is)
    ∙ changed_kept (finite.insert pages n (with_rights rights p)) n (with_rights rights p) blanked (get_inserted pages n (with_rights rights p))
    ∙ insert_twice pages n (with_rights rights p) record { rights = rights; bytes = blank }

-- a kept page that gets rights and then zeros
pub renewed : (pages : Pages) (n : ℕ) (rights : Rights) → finite.contains_key pages n ≡ true → changed (changed pages n (with_rights rights)) n blanked ≡ finite.insert pages n record { rights = rights; bytes = blank }
renewed pages n rights kept = renewed_at (finite.get pages n) pages n rights refl kept
