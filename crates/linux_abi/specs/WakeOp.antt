-- The operations on the second word of a FUTEX_WAKE_OP and the comparisons of it, by number.
-- Source: futex(2), FUTEX_WAKE_OP (linux/futex.h).
use Rattle.std.specs.Prelude.{ℕ, ◌==◌, List, [], ◌∷◌, find, Option}
use Rattle.linux_abi.specs.declared.futexes.WordOperation.{WordOperation}
use Rattle.linux_abi.specs.declared.futexes.WordOperation.TheVariants as operation
use Rattle.linux_abi.specs.declared.futexes.Comparison.{Comparison}
use Rattle.linux_abi.specs.declared.futexes.Comparison.TheVariants as comparison

-- the number of an operation
abbrev pub word_operation_number : WordOperation → ℕ
word_operation_number operation.Set = 0
word_operation_number operation.Add = 1
word_operation_number operation.Or = 2
word_operation_number operation.AndNot = 3
word_operation_number operation.Xor = 4

-- all of them
abbrev pub word_operations : List WordOperation
word_operations = operation.Set ∷ operation.Add ∷ operation.Or ∷ operation.AndNot ∷ operation.Xor ∷ []

-- the operation of a number, if one has it
unfoldable pub word_operation_of : ℕ → Option WordOperation
word_operation_of n = find (λ o. word_operation_number o == n) word_operations

-- the number of a comparison
abbrev pub comparison_number : Comparison → ℕ
comparison_number comparison.Equal = 0
comparison_number comparison.Unequal = 1
comparison_number comparison.Less = 2
comparison_number comparison.AtMost = 3
comparison_number comparison.Greater = 4
comparison_number comparison.AtLeast = 5

-- all of them
abbrev pub comparisons : List Comparison
comparisons =
    comparison.Equal ∷ comparison.Unequal ∷ comparison.Less ∷ comparison.AtMost ∷ comparison.Greater ∷
    comparison.AtLeast ∷ []

-- the comparison of a number, if one has it
unfoldable pub comparison_of : ℕ → Option Comparison
comparison_of n = find (λ c. comparison_number c == n) comparisons
