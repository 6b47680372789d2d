-- The operations of futex(2) that are known, by number (linux/futex.h).
use Rattle.std.specs.Prelude.{ℕ, ◌==◌, List, [], ◌∷◌, find, Option}
use Rattle.linux_abi.specs.declared.futexes.FutexOperation.{FutexOperation}
use Rattle.linux_abi.specs.declared.futexes.FutexOperation.TheVariants as operation

-- the number of an operation
abbrev pub futex_operation_number : FutexOperation → ℕ
futex_operation_number operation.Wait = 0
futex_operation_number operation.Wake = 1
futex_operation_number operation.Requeue = 3
futex_operation_number operation.CompareRequeue = 4
futex_operation_number operation.WakeOp = 5
futex_operation_number operation.LockPi = 6
futex_operation_number operation.UnlockPi = 7
futex_operation_number operation.TryLockPi = 8
futex_operation_number operation.WaitBitset = 9
futex_operation_number operation.WakeBitset = 10

-- all of them
abbrev pub futex_operations : List FutexOperation
futex_operations =
    operation.Wait ∷ operation.Wake ∷ operation.Requeue ∷ operation.CompareRequeue ∷ operation.WakeOp ∷
    operation.LockPi ∷ operation.UnlockPi ∷ operation.TryLockPi ∷ operation.WaitBitset ∷ operation.WakeBitset ∷ []

-- the operation of a number, if one has it
unfoldable pub futex_operation_of : ℕ → Option FutexOperation
futex_operation_of n = find (λ o. futex_operation_number o == n) futex_operations
