-- The advice of madvise(2) that is known, by number (asm-generic/mman-common.h).
use Rattle.std.specs.Prelude.{ℕ, ◌==◌, List, [], ◌∷◌, find, Option}
use Rattle.linux_abi.specs.declared.memory.Advice.{Advice}
use Rattle.linux_abi.specs.declared.memory.Advice.TheVariants as advice

-- the number of an advice
abbrev pub advice_number : Advice → ℕ
advice_number advice.Normal = 0
advice_number advice.Random = 1
advice_number advice.Sequential = 2
advice_number advice.WillNeed = 3
advice_number advice.DontNeed = 4
advice_number advice.Free = 8
advice_number advice.HugePage = 14
advice_number advice.NoHugePage = 15

-- all of it
abbrev pub advices : List Advice
advices =
    advice.Normal ∷ advice.Random ∷ advice.Sequential ∷ advice.WillNeed ∷ advice.DontNeed ∷ advice.Free ∷
    advice.HugePage ∷ advice.NoHugePage ∷ []

-- the advice of a number, if one has it
unfoldable pub advice_of : ℕ → Option Advice
advice_of n = find (λ a. advice_number a == n) advices
