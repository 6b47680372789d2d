-- The shards as one memory: the pages that are kept, and the marks of the slots.
-- Source: the local exclusive monitor, Arm ARM (DDI 0487), B2.9; that a page lies in the shard of its number modulo 16 is this
-- project's own.
use Rattle.std.specs.Prelude.{ℕ, ◌/◌, ◌==◌, Bool, false, Option, Some, None, slice_index_or, if◌then◌else◌}
use Rattle.std.specs.FinMap as map
use Rattle.places.specs.Places as place
use Rattle.page_store.specs.Pages.{Page}
use Rattle.guest_mem.specs.Held.{Held}
use Rattle.machine_parts.specs.Parts.{Parts, shard_at}

-- the page that a shard keeps at a number
abbrev pub kept_in : Option Held → ℕ → Option Page
kept_in None p = None
kept_in (Some h) p = map.get h.pages p

-- the kept page of a number: that of the shard in which it would lie
abbrev pub kept : Parts → ℕ → Option Page
kept M p = kept_in (shard_at M (place.shard p)) p

-- the granule that a slot has marked last in a shard, if its mark has not ended
abbrev pub mark_in : Option Held → ℕ → Option ℕ
mark_in None s = None
mark_in (Some h) s = slice_index_or h.marks s None

-- the mark is on this granule
abbrev pub is_mark : Option ℕ → ℕ → Bool
is_mark None g = false
is_mark (Some k) g = k == g

-- the slot's mark stands on this granule, in the shard of its page; a page has 256 granules
abbrev pub marked : Parts → ℕ → ℕ → Bool
marked M s g = is_mark (mark_in (shard_at M (place.shard (g / 256))) s) g

-- the mark that stands of a slot whose thread keeps this granule as its latest
abbrev pub standing : Parts → ℕ → Option ℕ → Option ℕ
standing M s None = None
standing M s (Some g) = if marked M s g then Some g else None
