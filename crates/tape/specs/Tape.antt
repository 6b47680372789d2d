-- What a tape holds. This project's own.
use Rattle.std.specs.Prelude.{ℕ, List}
use Rattle.tape.specs.declared.entry.Entry.{Entry}

-- the seed, the pages and the rules that the run was begun with, how many entries there is room for, and the entries so far
pub record Recording : Type 0 where
  pub seed : ℕ
  pub pages : ℕ
  pub rules : ℕ
  pub room : ℕ
  pub entries : List Entry
