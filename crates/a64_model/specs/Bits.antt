-- Fields of an instruction word, as the encoding diagrams of the Arm manual (DDI 0487, part C) name them.
use Rattle.std.specs.Prelude.{ℕ, ◌+◌, ◌-◌, ◌/◌, ◌%◌, ◌^◌, Bool, ◌==◌}

-- the bits `high` down to `low` of a word, as a number: word<high:low>
abbrev pub bits : ℕ → ℕ → ℕ → ℕ
bits word high low = word / 2 ^ low % 2 ^ (high + 1 - low)

-- whether the bit `at` of a word is set
abbrev pub bit : ℕ → ℕ → Bool
bit word at = (word / 2 ^ at % 2) == 1
