-- The pages that a range of bytes touches, and the shards that pages lie in.
-- Source: pages are those of mmap(2) at 4096 bytes; the 16 shards are this project's own.
use Rattle.std.specs.Prelude.{◌≡◌, ℕ, zero, suc, ◌+◌, ◌-◌, ◌<◌, ◌≤◌}
use Rattle.places.specs.Places.{page, shard}

-- how many pages so many bytes from an address on touch: from that of the first byte to that of the last
abbrev pub page_count : ℕ → ℕ → ℕ
page_count at zero = 0
page_count at (suc rest) = page (at + rest) - page at + 1

-- one of so many pages from the first on lies in the shard
pub record HasPageIn (first count here : ℕ) : Type 0 where
  pub number : ℕ
  pub from : first ≤ number
  pub below : number < first + count
  pub in_shard : shard number ≡ here
