use Rattle.std.proofs.Common.{◌≡◌, ◌≤◌, ◌++◌, drop, map, vec_len, vec_capacity}
use Rattle.lx_machine.specs.Queue.{first_of, is_plain_at, moved_to}
use Rattle.lx_machine.proofs.Waiters.{Picked}
use Rattle.lx_machine.proofs.queue.move_first.Given as goal

abbrev pub invariant-loop-place : goal.invariant-loop-place
invariant-loop-place l = record {
  picked : Picked l.most (is_plain_at l.from) l.fn.waiters l.place l.kept l.left l.waiters;
  moved : l.moved.items ++ map (moved_to l.to) (first_of l.left (is_plain_at l.from) (drop l.place l.fn.waiters)) ≡ map (moved_to l.to) (first_of l.most (is_plain_at l.from) l.fn.waiters);
  room : vec_len l.moved ≤ l.place;
  capacity : vec_capacity l.moved ≡ vec_capacity l.fn.moved;
}
