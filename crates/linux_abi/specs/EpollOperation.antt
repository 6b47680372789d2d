-- The operations of epoll_ctl(2), by number.
use Rattle.std.specs.Prelude.{ℕ, ◌==◌, [], ◌∷◌, find, Option}
use Rattle.linux_abi.specs.declared.epoll.EpollOperation.{EpollOperation}
use Rattle.linux_abi.specs.declared.epoll.EpollOperation.TheVariants as operation

-- the number of an operation
abbrev pub epoll_operation_number : EpollOperation → ℕ
epoll_operation_number operation.Add = 1
epoll_operation_number operation.Delete = 2
epoll_operation_number operation.Change = 3

-- the operation of a number, if one has it
unfoldable pub epoll_operation_of : ℕ → Option EpollOperation
epoll_operation_of n =
    find (λ o. epoll_operation_number o == n) (operation.Add ∷ operation.Delete ∷ operation.Change ∷ [])
