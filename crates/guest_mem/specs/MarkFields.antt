-- What the fields of the marks say.
use Rattle.std.specs.Prelude.{◌≡◌, ℕ, List, Option, vec_len}
use Rattle.guest_mem.specs.declared.marks.Marks.TheInside.{Inside}
use Rattle.guest_mem.specs.MarkRules.{IsWithin}

abbrev pub marks_in : Inside → List (Option ℕ)
marks_in inside = inside.of_slot.items

-- each mark lies in the span, and each of the 128 slots has its place
pub record IsSpanned (inside : Inside) : Type 0 where
  pub within : IsWithin inside.of_slot.items inside.low inside.high
  pub slots : vec_len inside.of_slot ≡ 128
