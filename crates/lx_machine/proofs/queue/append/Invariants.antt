use Rattle.std.proofs.Common.{◌≡◌, ◌+◌, ◌++◌, take, vec_len, vec_capacity}
use Rattle.lx_machine.proofs.queue.append.Given as goal

-- those so far stand behind the others
abbrev pub invariant-loop-waiter : goal.invariant-loop-waiter
invariant-loop-waiter l = record {
  items : l.waiters.items ≡ l.fn.waiters.items ++ take l.waiter-index l.more;
  len : vec_len l.waiters ≡ vec_len l.fn.waiters + l.waiter-index;
  capacity : vec_capacity l.waiters ≡ vec_capacity l.fn.waiters;
}
