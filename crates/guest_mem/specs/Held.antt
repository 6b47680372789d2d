-- What a shard holds, and what its calls do to that.
use Rattle.std.specs.Prelude.{◌≡◌, ℕ, ◌+◌, ◌-◌, ◌%◌, ◌<◌, ◌≤◌, true, false, List, length, replicate, Option, Some, None, slice_set, refl, if◌then◌else◌}
use Rattle.std.specs.FinMap as map
use Rattle.std.specs.Coded.{Coded, code_by, coded×, coded_ℕ, coded_list, coded_option}
use Rattle.places.specs.Places as place
use Rattle.page_ranges.specs.declared.rights.Rights.{Rights}
use Rattle.page_store.specs.Pages.{Pages, has_any, changed, with_rights, blanked, written, without, blank, coded_pages, AreWhole}
use Rattle.guest_mem.specs.MarkRules.{marks_after, marks_off}

-- which of the 16 shards it is, the kept pages, the marked granule of each slot, and how many more pages
-- there is room for
pub record Held : Type 0 where
  pub index : ℕ
  pub pages : Pages
  pub marks : List (Option ℕ)
  pub spare : ℕ

-- what is true of every shard: it is one of 16, each kept page has 4096 bytes, and there is a mark, or none, for each of
-- the 128 slots
pub record IsShard (held : Held) : Type 0 where
  pub index : held.index < 16
  pub whole : AreWhole held.pages
  pub slots : length held.marks ≡ 128

-- a shard that keeps nothing
abbrev pub started : ℕ → ℕ → Held
started index share = record { index = index; pages = map.empty; marks = replicate 128 None; spare = share }

-- a range of one byte or more that lies in one page of this shard
pub record IsInPage (held : Held) (at len : ℕ) : Type 0 where
  pub some : 0 < len
  pub one_page : at % 4096 + len ≤ 4096
  pub here : place.shard (place.page at) ≡ held.index

-- the bytes are written at the address, and every other slot's mark on a granule that they touch ends
abbrev pub stored : Held → ℕ → ℕ → List ℕ → Held
stored held slot at bytes = record {
  index = held.index;
  pages = changed held.pages (place.page at) (written (at % 4096) bytes);
  marks = marks_after held.marks slot (place.granule at) (place.granule (at + length bytes - 1));
  spare = held.spare;
}

-- the slot's mark is on this granule
abbrev pub marked_by : Held → ℕ → ℕ → Held
marked_by held slot granule = record { index = held.index; pages = held.pages; marks = slice_set held.marks slot (Some granule); spare = held.spare }

-- the page is given up, if it was kept, and every mark on it ends
abbrev pub unmapped : Held → ℕ → Held
unmapped held page = let left = without record { pages = held.pages; spare = held.spare } page in record {
  index = held.index;
  pages = left.pages;
  marks = marks_off held.marks page;
  spare = left.spare;
}

-- the page is made zeros, if it is kept, and every mark on it ends
abbrev pub zeroed : Held → ℕ → Held
zeroed held page = record {
  index = held.index;
  pages = changed held.pages page blanked;
  marks = marks_off held.marks page;
  spare = held.spare;
}

-- the page is kept as zeros with the rights, or given up where there are none; every mark on it ends
abbrev pub mapped : Held → ℕ → Rights → Held
mapped held page rights = if has_any rights then record {
  index = held.index;
  pages = map.insert held.pages page record { rights = rights; bytes = blank };
  marks = marks_off held.marks page;
  spare = if map.contains_key held.pages page then held.spare else held.spare - 1;
} else unmapped held page

-- a kept page has these rights; another is kept as zeros with them, if there are any
abbrev pub protected : Held → ℕ → Rights → Held
protected held page rights = if map.contains_key held.pages page then record {
  index = held.index;
  pages = changed held.pages page (with_rights rights);
  marks = held.marks;
  spare = held.spare;
} else if has_any rights then record {
  index = held.index;
  pages = map.insert held.pages page record { rights = rights; bytes = blank };
  marks = held.marks;
  spare = held.spare - 1;
} else held

-- a page that is not kept is to get a right, and there is no room for it
pub record IsFullFor (held : Held) (page : ℕ) (rights : Rights) : Type 0 where
  pub right : has_any rights ≡ true
  pub not_kept : map.contains_key held.pages page ≡ false
  pub no_room : held.spare ≡ 0

abbrev pub coded_held : Coded Held
coded_held = code_by (ℕ × (Pages × (List (Option ℕ) × ℕ))) (coded× coded_ℕ (coded× coded_pages (coded× (coded_list (coded_option coded_ℕ)) coded_ℕ))) (λ h. (h.index, (h.pages, (h.marks, h.spare)))) (λ p. record { index = p.0; pages = p.1.0; marks = p.1.1.0; spare = p.1.1.1 }) (λ _. refl)
