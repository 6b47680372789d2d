-- What the fields of a store of pages say.
use Rattle.std.specs.Prelude.{◌≡◌, ℕ, ◌+◌, ◌<◌, ◌≤◌, ◌^◌, List, [], slice_index_or, vec_len, vec_capacity}
use Rattle.sorted_entries.specs.Entries.{IsRising, map_of}
use Rattle.page_store.specs.declared.kept_row.Kept.{Kept}
use Rattle.page_store.specs.declared.page_store.PageStore.TheInside.{Inside}
use Rattle.page_store.specs.Pages.{Page, Pages, Keeping}
use Rattle.page_store.specs.Row.{entries, count}
use Rattle.page_store.specs.Frames.{times, one_below, itself, IsWhole}

abbrev pub number_of : Kept → ℕ
number_of kept = kept.page

abbrev pub frame_of : Kept → ℕ
frame_of kept = kept.frame

-- the page, with the bytes of its frame
abbrev pub page_in : List (List ℕ) → Kept → Page
page_in frames kept = record { rights = kept.rights; bytes = slice_index_or frames kept.frame [] }

abbrev pub pages_of : List (List ℕ) → List Kept → Pages
pages_of frames kept = map_of number_of (page_in frames) kept

abbrev pub keeping_of : Inside → Keeping
keeping_of inside = record { pages = pages_of inside.frames.items (entries inside.kept); spare = inside.spare }

-- the pages rise, each frame belongs to one page or is free and has 4096 bytes, and there is room for the spare pages
pub record IsSound (inside : Inside) : Type 0 where
  pub rising : IsRising number_of (entries inside.kept)
  pub owners : (f : ℕ) → times frame_of f (entries inside.kept) + times itself f inside.free.items ≡ one_below f (vec_len inside.frames)
  pub whole : IsWhole inside.frames.items
  pub counted : count inside.kept + vec_len inside.free ≡ vec_len inside.frames
  pub used : vec_len inside.frames ≤ count inside.kept + inside.spare
  pub small : count inside.kept + inside.spare < 2 ^ 32
  pub room_below : count inside.kept + inside.spare ≤ vec_capacity inside.kept.below
  pub room_above : count inside.kept + inside.spare ≤ vec_capacity inside.kept.above
  pub room_frames : count inside.kept + inside.spare ≤ vec_capacity inside.frames
  pub room_free : count inside.kept + inside.spare ≤ vec_capacity inside.free
