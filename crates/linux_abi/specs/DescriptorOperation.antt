-- The operations of fcntl(2) that are known, by number.
use Rattle.std.specs.Prelude.{ℕ, ◌==◌, List, [], ◌∷◌, find, Option}
use Rattle.linux_abi.specs.declared.files.DescriptorOperation.{DescriptorOperation}
use Rattle.linux_abi.specs.declared.files.DescriptorOperation.TheVariants as operation

-- the number of an operation
abbrev pub descriptor_operation_number : DescriptorOperation → ℕ
descriptor_operation_number operation.Duplicate = 0
descriptor_operation_number operation.GetCloseFlag = 1
descriptor_operation_number operation.SetCloseFlag = 2
descriptor_operation_number operation.GetStatus = 3
descriptor_operation_number operation.SetStatus = 4
descriptor_operation_number operation.DuplicateCloseOnExec = 1030

-- all of them
abbrev pub descriptor_operations : List DescriptorOperation
descriptor_operations =
    operation.Duplicate ∷ operation.GetCloseFlag ∷ operation.SetCloseFlag ∷ operation.GetStatus ∷
    operation.SetStatus ∷ operation.DuplicateCloseOnExec ∷ []

-- the operation of a number, if one has it
unfoldable pub descriptor_operation_of : ℕ → Option DescriptorOperation
descriptor_operation_of n = find (λ o. descriptor_operation_number o == n) descriptor_operations
